-- Demand 3, the other way: what an accepted merge gives is a tree with every edit and no fact absent from all tables.
-- `old` and `branches` are the facts of the tables, t one of them, f a tree, a, b and c facts. Assumes nothing.
use mathlib.Core.Path.{◌≡◌, refl, sym, ◌∙◌, subst}
use mathlib.Core.Logic.{◌⊎◌, inl, inr}
use mathlib.Core.Bool.{not}
use mathlib.Core.List.Memᴰ
use mathlib.Core.List.Memᴰ.{head as here}
use mathlib.Core.List.{List, [], ◌∷◌, ◌++◌, map}
use Prim.Native.Nat.{ℕ}
use native.Mathlib.Omega.{arith}
use lib.Dec.{T, T_not, eqb, eqb→eq}
use mir.Facts.{and_yes, or_yes}
use Rattle.rules.specs.Codes.{broken_list, content_clash, lost_edit, neighbour_clash, parent_clash}
use Rattle.rules.specs.Lists.{◌∈◌, any, flat}
use Rattle.rules.specs.Marks.{START, TOP, is_record}
use Rattle.rules.specs.Tree.{STEPS, Tree}
use Rattle.rules.specs.Facts.{ContentFact, Facts, ParentGiven, PositionFact, contents_disagree, contents_of, lacking, neighbours_disagree}
use Rattle.rules.specs.Facts.{parents_differ, positions_of, parents_disagree, parents_given, positions_disagree, same_content}
use Rattle.rules.specs.Facts.{same_content_fact}
use Rattle.rules.specs.Facts.{same_position, tree_contents, tree_positions}
use Rattle.rules.specs.Merge.{Result, broken_lists, content_clashes, content_edits, content_in, follower, kept_contents, kept_positions}
use Rattle.rules.specs.Merge.{lost_edits, merge, merged, merged_tree, neighbour_clashes, parent_clashes, position_edits, refuse}
use Rattle.rules.specs.Demands.{Answers, IsTree, Known}
use Rattle.trees.proofs.Lists.{any_in, any_out, either, flat_in}
use Rattle.trees.proofs.Kept.{Coherent, edit_kept, kept_coherent, kept_known, lacking_none, none_coherent, old-kept, old-or_edit}
use Rattle.trees.proofs.Disagreeing.{content_tells, parent_of, position_flip, position_tells, record_of}
use Rattle.trees.proofs.Walk.{found_in, position_to, walk-content}
use Rattle.trees.proofs.Reached.{walk-tree}
use Rattle.trees.proofs.Answering.{Sound}

-- ---- the verdict read backwards

pub refuse-merged : (code : ℕ) (places : List ℕ) (result : Result) (f : Tree) → refuse code places result ≡ merged f
    → (places ≡ []) × (result ≡ merged f)
refuse-merged code [] result f e = (refl, e)
refuse-merged code (place ∷ places) result f e = let z : ◌≡◌ {A = ℕ} 0 1 = cc in absurd (omega arith)

merged_equal : (f g : Tree) → merged f ≡ merged g → f ≡ g
merged_equal f g e = cc

append_none : {A : Type 0} (xs ys : List A) → xs ++ ys ≡ [] → (xs ≡ []) × (ys ≡ [])
append_none [] ys e = (refl, e)
append_none (x ∷ xs) ys e = let z : ◌≡◌ {A = ℕ} 0 1 = cc in absurd (omega arith)

-- the verdict from a code on, over lists that are variables: the merge's own would be computed
module _ (contents parents neighbours broken lost : List ℕ) (g f : Tree) where
  abbrev from25 : Result
  from25 = refuse lost_edit lost (merged g)

  abbrev from24 : Result
  from24 = refuse broken_list broken from25

  abbrev from23 : Result
  from23 = refuse neighbour_clash neighbours from24

  abbrev from22 : Result
  from22 = refuse parent_clash parents from23

  pub all_none : refuse content_clash contents from22 ≡ merged f
      → (contents ≡ []) × (parents ≡ []) × (neighbours ≡ []) × (broken ≡ []) × (lost ≡ []) × (g ≡ f)
  all_none e =
      let v₁ = refuse-merged content_clash contents from22 f e in
      let v₂ = refuse-merged parent_clash parents from23 f v₁.1 in
      let v₃ = refuse-merged neighbour_clash neighbours from24 f v₂.1 in
      let v₄ = refuse-merged broken_list broken from25 f v₃.1 in
      let v₅ = refuse-merged lost_edit lost (merged g) f v₄.1 in
      (v₁.0, v₂.0, v₃.0, v₄.0, v₅.0, merged_equal g f v₅.1)

-- ---- edits and kept facts of an accepted merge

-- without codes 22 and 23 no two position edits disagree
pub position-edits_coherent : (old : Facts) (branches : List Facts) → parent_clashes old branches ≡ [] → neighbour_clashes old branches ≡ []
    → Coherent positions_disagree (position_edits old branches)
unfolding parent_clashes neighbour_clashes
position-edits_coherent old branches no_parent no_neighbour a b m k t = go (or_yes (parents_disagree a b) (neighbours_disagree a b) t)
  where
    go : T (parents_disagree a b) ⊎ T (neighbours_disagree a b) → ⊥
    go (inl u) =
        let v = any_out (λ (g : ParentGiven). any (parents_differ g) (parents_given b)) (parents_given a) u in
        let w = any_out (parents_differ v.0) (parents_given b) v.2 in
        none_coherent parents_differ (λ (g : ParentGiven). g.number) (flat parents_given (position_edits old branches)) no_parent
        v.0 w.0 (flat_in parents_given m v.1) (flat_in parents_given k w.1) w.2
    go (inr u) = none_coherent neighbours_disagree parent_of (position_edits old branches) no_neighbour a b m k u

pub kept-positions_coherent : (old : Facts) (branches : List Facts) → Sound old → parent_clashes old branches ≡ []
    → neighbour_clashes old branches ≡ [] → Coherent positions_disagree (kept_positions old branches)
unfolding kept_positions position_edits
kept-positions_coherent old branches sound no_parent no_neighbour =
    kept_coherent position_tells old.positions (map positions_of branches) positions_disagree position_flip
    (position-edits_coherent old branches no_parent no_neighbour) sound.positions_agree

module _ (old : Facts) (branches : List Facts) (sound : (t : Facts) → t ∈ old ∷ branches → Sound t) where
  known_position : (a : PositionFact) → a ∈ kept_positions old branches → Known positions_of old branches a
  unfolding kept_positions position_edits
  known_position a m =
      let v = kept_known position_tells old.positions (map positions_of branches) positions_disagree a m in
      let w = Memᴰ.of_map positions_of (old ∷ branches) v.1 in
      (w.0, w.1, subst (λ (l : List PositionFact). a ∈ l) (sym w.2) v.2)

  known_content : (a : ContentFact) → a ∈ kept_contents old branches → Known contents_of old branches a
  unfolding kept_contents content_edits
  known_content a m =
      let v = kept_known content_tells old.contents (map contents_of branches) contents_disagree a m in
      let w = Memᴰ.of_map contents_of (old ∷ branches) v.1 in
      (w.0, w.1, subst (λ (l : List ContentFact). a ∈ l) (sym w.2) v.2)

  -- a record with a content in some table has a kept one
  some_kept : (t : Facts) → t ∈ old ∷ branches → (a : ContentFact) → a ∈ t.contents
      → (c : ContentFact) × (c ∈ kept_contents old branches) × (c.number ≡ a.number)
  unfolding kept_contents content_edits
  some_kept t i a m =
      go (old-or_edit content_tells old.contents tables a (t.contents, Memᴰ.map contents_of i, m))
      (either (any (contents_disagree a) the_edits))
    where
      tables : List (List ContentFact)
      tables = map contents_of branches

      the_edits : List ContentFact
      the_edits = content_edits old branches

      go : (a ∈ old.contents) ⊎ (a ∈ the_edits) → T (any (contents_disagree a) the_edits) ⊎ T (not (any (contents_disagree a) the_edits))
          → (c : ContentFact) × (c ∈ kept_contents old branches) × (c.number ≡ a.number)
      go (inr k) u = (a, edit_kept content_tells old.contents tables contents_disagree a k, refl)
      go (inl k) (inr u) = (a, old-kept content_tells old.contents tables contents_disagree a k none, refl)
        where
          none : (b : ContentFact) → b ∈ the_edits → T (contents_disagree a b) → ⊥
          none b n d = T_not (any (contents_disagree a) the_edits) u (any_in (contents_disagree a) n d)
      go (inl k) (inl u) =
          let w = any_out (contents_disagree a) the_edits u in
          let same = (and_yes (eqb a.number w.0.number) (not (same_content a.content w.0.content)) w.2).0 in
          let e : a.number ≡ w.0.number = eqb→eq a.number w.0.number same in
          (w.0, edit_kept content_tells old.contents tables contents_disagree w.0 w.1, sym e)

  -- ---- the tree of an accepted merge

  module _ (no_parent : parent_clashes old branches ≡ []) (no_neighbour : neighbour_clashes old branches ≡ [])
      (no_broken : broken_lists old branches ≡ []) (no_lost : lost_edits old branches ≡ []) where
    abbrev result : Tree
    result = merged_tree old branches

    is_tree : IsTree result
    unfolding merged_tree
    is_tree =
        walk-tree (kept_positions old branches) (kept-positions_coherent old branches (sound old (here refl)) no_parent no_neighbour)
        (content_in (kept_contents old branches))

    position-kept : (a : PositionFact) → a ∈ tree_positions TOP START result → a ∈ kept_positions old branches
    unfolding broken_lists
    position-kept a m =
        lacking_none position_tells parent_of (tree_positions TOP START result) (kept_positions old branches) no_broken m

    content-found : (a : ContentFact) → a ∈ tree_contents result → a.content ≡ content_in (kept_contents old branches) a.number
    unfolding merged_tree
    content-found a m = walk-content (follower (kept_positions old branches)) (content_in (kept_contents old branches)) STEPS TOP START a m

    found-kept : (a : ContentFact) → a.content ≡ content_in (kept_contents old branches) a.number → (c : ContentFact)
        → c ∈ kept_contents old branches → {j n : ℕ} → c.number ≡ j → j ≡ n → n ≡ a.number → a ∈ kept_contents old branches
    found-kept a e c m p q s = found_in (kept_contents old branches) a c m (p ∙ q ∙ s) e

    content-kept : (a : ContentFact) → a ∈ tree_contents result → a ∈ kept_contents old branches
    content-kept a m =
        let w = position_to TOP START result a m in
        let v = known_position w.0 (position-kept w.0 w.1) in
        let i = subst (λ (n : ℕ). T (is_record n)) (sym w.2) (is_tree.valid a.number w.3) in
        let u = (sound v.0 v.1).named w.0 v.2 i in
        let c = some_kept v.0 v.1 u.0 u.1 in
        found-kept a (content-found a m) c.0 c.1 c.2 u.2 w.2

    answers : Answers old branches result
    unfolding lost_edits
    answers =
        let positions = tree_positions TOP START result in
        let contents = tree_contents result in
        let both = append_none (map record_of (lacking same_content_fact (content_edits old branches) contents))
        (map parent_of (lacking same_position (position_edits old branches) positions)) no_lost in
        record {
          tree = is_tree;
          positions_edited = λ a m. lacking_none position_tells parent_of (position_edits old branches) positions both.1 m;
          contents_edited = λ a m. lacking_none content_tells record_of (content_edits old branches) contents both.0 m;
          positions_known = λ a m. known_position a (position-kept a m);
          contents_known = λ a m. known_content a (content-kept a m);
        }

  -- an accepted merge gives such a tree
  pub merged_answers : (f : Tree) → merge old branches ≡ merged f → Answers old branches f
  unfolding merge
  merged_answers f e =
      let v = all_none (content_clashes old branches) (parent_clashes old branches) (neighbour_clashes old branches)
      (broken_lists old branches)
      (lost_edits old branches) (merged_tree old branches) f e in
      subst (Answers old branches) v.5 (answers v.1 v.2 v.3 v.4)
