-- When no list is on the path any more: the table is the tree along the followers, in written order, and its least broken list is told.
-- nx says who follows whom, `part` where the content of a record lies, ct what it is; ls and fs are the two arrays; q is a parent, a a
-- fact. Assumes nothing.
use mathlib.Core.Path.{◌≡◌, sym, ap, ◌∙◌, subst}
use mathlib.Core.Logic.{◌⊎◌, inl, inr}
use mathlib.Core.Bool.{Bool, not}
use mathlib.Core.Option.{some}
use mathlib.Core.List.Memᴰ
use mathlib.Core.List.{List, [], ◌∷◌, append-nil, map}
use Prim.Native.Nat.{ℕ, ◌<◌}
use native.Mathlib.Omega.{arith}
use lib.Dec.{T, T_not, not_T}
use Rattle.std.specs.Prelude.{Option, None, Some}
use Rattle.rules.specs.Lists.{◌∈◌, any}
use Rattle.rules.specs.Marks.{TOP, START, END, is_record}
use Rattle.rules.specs.Text.{last}
use Rattle.rules.specs.Line.{Content, Row}
use Rattle.rules.specs.Table.{numbers}
use Rattle.rules.specs.Tree.{STEPS, Tree, child_numbers, numbers_in, tree_of}
use Rattle.rules.specs.Facts.{ContentFact, PositionFact, content_of, facts_of, lacking, position, same_position, tree_positions}
use Rattle.rules.specs.Merge.{follower, walk}
use Rattle.rules.specs.Demands.{TreeOf}
use Rattle.rules.specs.declared.answers.Part.{Part}
use Rattle.trees.proofs.Lists.{keep_in, keep_out}
use Rattle.trees.proofs.Kept.{has_in_lem, has_out}
use Rattle.trees.proofs.Disagreeing.{parent_of, position_tells}
use Rattle.trees.proofs.OneTable.{content-row, in_table, list_in_lem}
use Rattle.trees.proofs.LineByLine.{Open, list_closed, open_facts}
use Rattle.trees.proofs.Walk.{Goes, follow}
use Rattle.trees.proofs.Reached.{tree_small}
use Rattle.trees.proofs.TableTree.{tree_of_table}
use Rattle.facts.specs.Order.{InWrittenOrder, numbers_to}
use Rattle.facts.proofs.Views.{after_low}
use Rattle.facts.proofs.Shown.{fact_parent, list_end, shown}
use Rattle.edits.specs.Least.{least_or_none}
use Rattle.edits.proofs.Best.{PlaceIn, least_is}
use Rattle.merged.specs.Laying.{Steps}
use Rattle.merged.proofs.Path.{Broken, BrokenIn, Spread, step_off, step_on}

module _ {nx : ℕ → ℕ → ℕ} {part : ℕ → Part} {kept : List PositionFact} {known : List ℕ} {ct : ℕ → Content} {ls fs : List ℕ}
    {p count : ℕ} {broken : Option ℕ} (st : Steps nx kept known) (g : Spread nx part kept known ct ls fs [] p count broken) where
  abbrev t : List Row
  t = g.rows

  abbrev ended : ℕ → ℕ
  ended q = last START (child_numbers q t)

  -- a fact of the table: a step, or the end of a list
  abbrev Way : PositionFact → Type 0
  Way a = (nx a.parent a.before ≡ a.after) ⊎ (a ≡ position a.parent (ended a.parent) END)

  way : (a : PositionFact) → a ∈ (facts_of t).positions → Way a
  way a m =
      go (Memᴰ.append_cases (open_facts a.parent START (child_numbers a.parent t))
      (subst (λ (l : List PositionFact). a ∈ l) (list_closed a.parent START (child_numbers a.parent t)) (in_table t a m)))
    where
      go : Open t a ⊎ (a ∈ position a.parent (ended a.parent) END ∷ []) → Way a
      go (inl k) = inl (g.steps a k)
      go (inr k) = inr (Memᴰ.eq_of_singleton k)

  goes : (a : PositionFact) → a ∈ (facts_of t).positions → Goes (follower kept) a
  goes a m = go (way a m)
    where
      go : Way a → Goes (follower kept) a
      go (inl e) = (
        λ d. step_off st a.parent a.before (λ k. subst (λ (z : ℕ). T (is_record z)) (e ∙ d) k),
        λ k. step_on st a.parent a.before (subst (λ (z : ℕ). T (is_record z)) (sym e) k) ∙ ap some e,
      )
      go (inr e) = (
        λ d. step_off st a.parent a.before (λ k. g.done a.parent (fact_parent t a m) Memᴰ.not-nil
            (subst (λ (b : ℕ). T (is_record (nx a.parent b))) (λ j. (e j).before) k)),
        λ k. absurd (subst (λ (z : ℕ). T (is_record z)) (λ j. (e j).after) k),
      )

  tidy : TreeOf (facts_of t) (tree_of t)
  tidy = tree_of_table t g.readable

  abbrev walked : Tree
  walked = walk (follower kept) ct STEPS TOP START

  -- what was laid down is what the walk reaches
  pub tree_is : walked ≡ tree_of t
  tree_is =
      follow (follower kept) ct STEPS TOP START (tree_of t) (omega (arith, tree_small (tree_of t) tidy.tree)) tidy.tree.valid
      (λ a m. goes a (tidy.positions_in_lem a m)) (λ a m. content a (content-row t a (tidy.contents_in_lem a m)))
    where
      content : (a : ContentFact) → (x : Row) × (x ∈ t) × (content_of x ≡ a) → ct a.number ≡ a.content
      content a w =
          ap (λ (c : ContentFact). ct c.number) (sym w.2) ∙ sym (g.filled w.0 w.1)
          ∙ ap (λ (c : ContentFact). c.content) w.2

  pub in_order_lem : InWrittenOrder fs g.rows
  in_order_lem =
      ap (numbers_to fs) g.size ∙ sym (append-nil (numbers_to fs count)) ∙ g.order ∙ ap numbers_in tree_is

  -- ---- broken lists

  abbrev broken_in : Tree → List ℕ
  broken_in f = map parent_of (lacking same_position (tree_positions TOP START f) kept)

  abbrev missing : PositionFact → Bool
  missing a = not (any (same_position a) kept)

  step_kept : (a : PositionFact) → a ∈ (facts_of t).positions → nx a.parent a.before ≡ a.after → a ∈ kept
  step_kept a m e =
      let h = after_low (shown ls fs t g.holds g.readable) a m in
      Memᴰ.cast (ap (position a.parent a.before) (sym e))
      (st.goes a.parent a.before (subst (λ (z : ℕ). 0 < z) (sym e) h))

  broken_in_lem : (q : ℕ) → q ∈ TOP ∷ numbers t → Broken nx t q → q ∈ broken_in (tree_of t)
  broken_in_lem q k h =
      let a = position q (ended q) END in
      let m = tidy.positions_have a (list_in_lem t q k a (list_end q START (child_numbers q t))) in
      Memᴰ.map parent_of (keep_in missing m
      (not_T (any (same_position a) kept) (λ y. h (st.kept_goes q (ended q) END (has_out position_tells kept y)))))

  broken_out : (q : ℕ) → q ∈ broken_in (tree_of t) → (q ∈ TOP ∷ numbers t) × Broken nx t q
  broken_out q m =
      let w = Memᴰ.of_map parent_of (lacking same_position (tree_positions TOP START (tree_of t)) kept) m in
      let k = keep_out missing (tree_positions TOP START (tree_of t)) w.1 in
      let j = tidy.positions_in_lem w.0 k.0 in
      let out : w.0 ∈ kept → ⊥ = λ y. T_not (any (same_position w.0) kept) k.1 (has_in_lem position_tells y) in
      subst (λ (z : ℕ). (z ∈ TOP ∷ numbers t) × Broken nx t z) w.2 (fact_parent t w.0 j, go w.0 j out (way w.0 j))
    where
      go : (a : PositionFact) → a ∈ (facts_of t).positions → (a ∈ kept → ⊥) → Way a → Broken nx t a.parent
      go a j out (inl e) = absurd (out (step_kept a j e))
      go a j out (inr e) = λ d. out (step_kept a j (ap (nx a.parent) (λ z. (e z).before) ∙ d ∙ (λ z. (sym e z).after)))

  pub least_is_told : broken ≡ least_or_none (broken_in walked)
  least_is_told =
      subst (λ (f : Tree). broken ≡ least_or_none (broken_in f)) (sym tree_is) (least_is (broken_in (tree_of t)) broken
      (some_place broken g.some_broken) (λ q m. let w = broken_out q m in g.least_broken q w.0 Memᴰ.not-nil w.1))
    where
      some_place : (b : Option ℕ) → BrokenIn nx t [] b → PlaceIn (broken_in (tree_of t)) b
      some_place None w = tt
      some_place (Some q) w = broken_in_lem q w.0 w.2
