-- Code 25 for contents, where no two edits clash: an edit is lost exactly if its record is. w k is told of table k, and table 0 is old; a
-- is a fact, n is a record, k a branch, f a tree, ns are its records, `content` gives each its content. Assumes nothing.
use mathlib.Core.Path.{◌≡◌, sym, ap, ◌∙◌, subst}
use mathlib.Core.Option.{Option}
use mathlib.Core.Bool.{not}
use mathlib.Core.List.Memᴰ
use mathlib.Core.List.{List, [], map}
use Prim.Native.Nat.{ℕ}
use lib.Dec.{T, T_not, not_T}
use Rattle.rules.specs.Lists.{◌∈◌, any}
use Rattle.rules.specs.Line.{Content}
use Rattle.rules.specs.Marks.{TOP, START}
use Rattle.rules.specs.Tree.{Tree, STEPS, numbers_in}
use Rattle.rules.specs.Facts.{ContentFact, Facts, content_fact, tree_contents, same_content_fact, lacking}
use Rattle.rules.specs.Merge.{content_edits, content_clashes, kept_positions, kept_contents, content_in, follower, walk, merged_tree}
use Rattle.trees.proofs.Lists.{keep_in, keep_out}
use Rattle.trees.proofs.Kept.{has_in_lem, has_out}
use Rattle.trees.proofs.Disagreeing.{record_of, content_tells}
use Rattle.trees.proofs.Walk.{position_to, walk-content}
use Rattle.trees.proofs.TableTree.{number_content}
use Rattle.edits.proofs.Branches.{IsBranch}
use Rattle.contents.specs.Contents.{Told, fresh_content}
use Rattle.contents.proofs.Clashing.{ContentViews, fresh_out, fresh_edit, edit_fresh, one_edit}
use Rattle.contents.proofs.Keeping.{kept-content}

-- some facts are those of these records, each with its content
pub record Holding (facts : List ContentFact) (content : ℕ → Content) (ns : List ℕ) : Type 0 where
  pub of : (a : ContentFact) → a ∈ facts → (a.number ∈ ns) × (a.content ≡ content a.number)
  pub all : (n : ℕ) → n ∈ ns → content_fact n (content n) ∈ facts

-- the walk gives each record its content
walk_holding : (next : ℕ → ℕ → Option ℕ) (content : ℕ → Content) (k r p : ℕ)
    → Holding (tree_contents (walk next content k r p)) content (numbers_in (walk next content k r p))
walk_holding next content k r p = record { of = of; all = all }
  where
    f : Tree
    f = walk next content k r p

    given : (a : ContentFact) → a ∈ tree_contents f → a.content ≡ content a.number
    given a m = walk-content next content k r p a m

    of : (a : ContentFact) → a ∈ tree_contents f → (a.number ∈ numbers_in f) × (a.content ≡ content a.number)
    of a m = ((position_to r p f a m).3, given a m)

    all : (n : ℕ) → n ∈ numbers_in f → content_fact n (content n) ∈ tree_contents f
    all n m =
        let w = number_content f n m in
        let e : w.0.content ≡ content n = given w.0 w.1 ∙ ap content w.2 in
        Memᴰ.cast (λ i. content_fact (sym w.2 i) (sym e i)) w.1

pub merged_holding : (old : Facts) (branches : List Facts)
    → Holding (tree_contents (merged_tree old branches)) (content_in (kept_contents old branches)) (numbers_in (merged_tree old branches))
unfolding merged_tree
merged_holding old branches = walk_holding (follower (kept_positions old branches)) (content_in (kept_contents old branches)) STEPS TOP
    START

module _ (w : ℕ → Told) (old : Facts) (branches : List Facts) (v : ContentViews w old branches)
    (none : content_clashes old branches ≡ []) (facts : List ContentFact) (ns : List ℕ)
    (h : Holding facts (content_in (kept_contents old branches)) ns) where
  abbrev lost : List ContentFact
  lost = lacking same_content_fact (content_edits old branches) facts

  -- an edit is the kept content of its record
  edit_kept : (a : ContentFact) → a ∈ content_edits old branches → a.content ≡ content_in (kept_contents old branches) a.number
  edit_kept a m =
      let x = edit_fresh w old branches v a m in
      let t = (fresh_out w old branches v x.0 a.number x.2).0 in
      sym x.3 ∙ one_edit w old branches v none x.0 a.number x.1 x.2
      ∙ sym (kept-content w old branches v none x.0 a.number x.1.1 t)

  pub lost_in_lem : (k n : ℕ) → (n ∈ ns → ⊥) → IsBranch k → T (fresh_content w k n) → n ∈ map record_of lost
  lost_in_lem k n out b t =
      let a = content_fact n ((w k).content n) in
      Memᴰ.map record_of (keep_in (λ (c : ContentFact). not (any (same_content_fact c) facts)) (fresh_edit w old branches v k n b t)
      (not_T (any (same_content_fact a) facts) (λ u. out (h.of a (has_out content_tells facts u)).0)))

  pub lost_out : (n : ℕ) → n ∈ map record_of lost → (n ∈ ns → ⊥) × ((k : ℕ) × IsBranch k × T (fresh_content w k n))
  lost_out n m =
      let x = Memᴰ.of_map record_of lost m in
      let a = x.0 in
      let y = keep_out (λ (c : ContentFact). not (any (same_content_fact c) facts)) (content_edits old branches) x.1 in
      let z = edit_fresh w old branches v a y.0 in
      let e : a.content ≡ content_in (kept_contents old branches) a.number = edit_kept a y.0 in (
        λ i. T_not (any (same_content_fact a) facts) y.1
            (has_in_lem content_tells (Memᴰ.cast (λ j. content_fact a.number (e j)) (h.all a.number (Memᴰ.cast x.2 i)))),
        (z.0, z.1, subst (λ (i : ℕ). T (fresh_content w z.0 i)) x.2 z.2),
      )
