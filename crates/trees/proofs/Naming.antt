-- The place that a refusal names: a record of a branch's table, or the top. Edits are facts of the branches; and the walk never leaves the
-- branches' records, for where an old fact is kept no branch has another one. `old` and `branches` are tables, O and B their facts, t is a
-- table, a and c are facts, r and q parents, p is the one before, s and x are those after, n is a record. Assumes nothing.
use mathlib.Core.Path.{◌≡◌, refl, sym, subst}
use mathlib.Core.Logic.{◌⊎◌, inl, inr}
use mathlib.Core.List.Memᴰ
use mathlib.Core.List.Memᴰ.{head as here}
use mathlib.Core.List.Memᴰ.{tail as there}
use mathlib.Core.List.{List, [], ◌∷◌, map}
use Prim.Native.Nat.{ℕ, ◌≤◌}
use native.Mathlib.Omega.{arith}
use native.Mathlib.Decide.{ℕ_discrete}
use lib.Dec.{T}
use Rattle.rules.specs.Codes.{parent_clash}
use Rattle.rules.specs.Lists.{◌∈◌}
use Rattle.rules.specs.Marks.{END, START, TOP, is_record}
use Rattle.rules.specs.Line.{Row}
use Rattle.rules.specs.Table.{numbers}
use Rattle.rules.specs.Tree.{child_numbers}
use Rattle.rules.specs.Facts.{Facts, PositionFact, facts_of, list_facts, parent_given, position, positions_of}
use Rattle.rules.specs.Merge.{position_edits}
use Rattle.rules.specs.Demands.{Readable}
use Rattle.rules.specs.Conditions.{ContentClash, KeptPosition, LostEdit, Met, NeighbourClash, ParentClash, PositionEdit, PositionsDisagree}
use Rattle.rules.specs.Conditions.{RecordOf, Refusal, TopOrRecordOf, begin, on, under, content_clash_lem, parent_clash_lem}
use Rattle.rules.specs.Conditions.{neighbour_clash_lem}
use Rattle.rules.specs.Conditions.{broken_list_lem, lost_edit_lem}
use Rattle.trees.proofs.Kept.{old-or_edit}
use Rattle.trees.proofs.Disagreeing.{position_tells}
use Rattle.trees.proofs.OneTable.{child_number, given-row, in_table, list_after, list_follower, list_in_lem, list_of, list_parent}
use Rattle.trees.proofs.OneTable.{number_record, number_row, row_child, row_number}
use Rattle.trees.proofs.TableTree.{table_sound}
use Rattle.trees.proofs.LineByLine.{rooted_parent}
use Rattle.trees.proofs.Clashing.{differ_positions, position_edit_out}
use Rattle.trees.proofs.Refusing.{content_record, edit_table}

module _ (old : List Row) (branches : List (List Row)) (ok : (t : List Row) → t ∈ old ∷ branches → Readable t) where
  abbrev O : Facts
  O = facts_of old

  abbrev B : List Facts
  B = map facts_of branches

  -- ---- of an edit

  edit_parent : (a : PositionFact) → PositionEdit O B a → TopOrRecordOf branches a.parent
  edit_parent a w = go (Memᴰ.cast (list_parent u.0 START (child_numbers u.0 v.0) a u.2) u.1)
    where
      v : (t : List Row) × (t ∈ branches) × (a ∈ (facts_of t).positions)
      v = edit_table old branches ok positions_of a w

      u : (r : ℕ) × (r ∈ TOP ∷ numbers v.0) × (a ∈ list_facts r START (child_numbers r v.0))
      u = list_of v.0 a v.2

      go : a.parent ∈ TOP ∷ numbers v.0 → TopOrRecordOf branches a.parent
      go (here e) = inl e
      go (there m) = inr (v.0, v.1, m)

  after_record : (t : List Row) → t ∈ branches → (a : PositionFact) → a ∈ (facts_of t).positions → T (is_record a.after)
      → RecordOf branches a.after
  after_record t m a k i = go (list_after a.parent START (child_numbers a.parent t) a (in_table t a k))
    where
      go : (a.after ≡ END) ⊎ (a.after ∈ child_numbers a.parent t) → RecordOf branches a.after
      go (inl e) = absurd (subst (λ (n : ℕ). T (is_record n)) e i)
      go (inr j) = (t, m, child_number t a.parent a.after j)

  -- ---- of what is reached

  -- an old fact that disagrees with no edit disagrees with no fact of a branch
  module _ (a : PositionFact) (m : a ∈ O.positions) (agrees : (b : PositionFact) → PositionEdit O B b → PositionsDisagree a b → ⊥) where
    branch_agrees : (t : List Row) → t ∈ branches → (c : PositionFact) → c ∈ (facts_of t).positions → PositionsDisagree a c → ⊥
    unfolding position_edits
    branch_agrees t i c k d =
        go (old-or_edit position_tells O.positions (map positions_of B) c
        ((facts_of t).positions, there (Memᴰ.map positions_of (Memᴰ.map facts_of i)), k))
      where
        go : (c ∈ O.positions) ⊎ (c ∈ position_edits O B) → ⊥
        go (inl j) = (table_sound old (ok old (here refl)).distinct).positions_agree a c m j (differ_positions a c d)
        go (inr j) = agrees c (position_edit_out O B c j) d

    -- so where a branch has its parent or the one before, it has the fact
    same_after_lem : (t : List Row) → t ∈ branches → (x : ℕ) → position a.parent a.before x ∈ (facts_of t).positions → x ≡ a.after
    same_after_lem t i x k = go (ℕ_discrete x a.after)
      where
        go : Dec (x ≡ a.after) → x ≡ a.after
        go (yes e) = e
        go (no d) =
            absurd (branch_agrees t i (position a.parent a.before x) k (inr (a.parent, (refl, refl, inl (refl, λ e. d (sym e))))))

    there_too : (t : List Row) → t ∈ branches → (x : ℕ) → position a.parent a.before x ∈ (facts_of t).positions
        → T (is_record a.after) → RecordOf branches a.after
    there_too t i x k v =
        let e = same_after_lem t i x k in
        subst (RecordOf branches) e
        (after_record t i (position a.parent a.before x) k (subst (λ (n : ℕ). T (is_record n)) (sym e) v))

    from_start : (t : List Row) → t ∈ branches → a.parent ∈ TOP ∷ numbers t → a.before ≡ START → T (is_record a.after)
        → RecordOf branches a.after
    from_start t i j e v =
        let w = list_follower a.parent START a.before (child_numbers a.parent t) (here e) in
        there_too t i w.0 (list_in_lem t a.parent j (position a.parent a.before w.0) w.1) v

    from_record : (t : List Row) → t ∈ branches → a.before ∈ numbers t → T (is_record a.after) → RecordOf branches a.after
    from_record t i j v = there_too t i w.0 (subst (λ (r : ℕ). position r a.before w.0 ∈ (facts_of t).positions) same placed) v
      where
        y : (y : Row) × (y ∈ t) × (y.number ≡ a.before)
        y = number_row t a.before j

        q : ℕ
        q = y.0.parent

        w : (s : ℕ) × (position q a.before s ∈ list_facts q START (child_numbers q t))
        w =
            list_follower q START a.before (child_numbers q t)
            (there (Memᴰ.cast (sym y.2) (row_child t y.0 y.1)))

        placed : position q a.before w.0 ∈ (facts_of t).positions
        placed =
            list_in_lem t q (rooted_parent (numbers t) [] t (λ n k. absurd (Memᴰ.not-nil k)) (λ z k. row_number t z k)
            (ok t (there i)).rooted y.0 y.1) (position q a.before w.0) w.1

        gives : {s : ℕ} → T (is_record a.before) × ((a.before ≡ a.before) ⊎ (a.before ≡ s))
        gives = (number_record t (ok t (there i)).distinct a.before j, inl refl)

        go : Dec (q ≡ a.parent) → q ≡ a.parent
        go (yes e) = e
        go (no d) =
            absurd (branch_agrees t i (position q a.before w.0) placed (inl (a.before, (gives, gives, λ e. d (sym e)))))

        same : q ≡ a.parent
        same = go (ℕ_discrete q a.parent)

  module _ (b : List Row) (among : b ∈ branches) where
    -- a kept fact goes on to a record of a branch, if it begins under the top or such a record, at START or such a record
    goes_on_lem : (a : PositionFact) → KeptPosition O B a → TopOrRecordOf branches a.parent
        → (a.before ≡ START) ⊎ RecordOf branches a.before → T (is_record a.after) → RecordOf branches a.after
    goes_on_lem a (inl w) r p v = let t = edit_table old branches ok positions_of a w in after_record t.0 t.1 a t.2 v
    goes_on_lem a (inr w) (inl e) (inl p) v = from_start a w.0 w.1 b among (here e) p v
    goes_on_lem a (inr w) (inr (t, i, j)) (inl p) v = from_start a w.0 w.1 t i (there j) p v
    goes_on_lem a (inr w) r (inr (t, i, j)) v = from_record a w.0 w.1 t i j v

    met_record : {r p : ℕ} → Met O B r p → TopOrRecordOf branches r × ((p ≡ START) ⊎ RecordOf branches p)
    met_record begin = (inl refl, inl refl)
    met_record (on {r} {p} {s} m k i) = let w = met_record m in (w.0, inr (goes_on_lem (position r p s) k w.0 w.1 i))
    met_record (under {r} {p} {s} m k i) = let w = met_record m in (inr (goes_on_lem (position r p s) k w.0 w.1 i), inl refl)

  -- ---- of a refusal

  content_clash_place : (n : ℕ) → ContentClash O B n → RecordOf branches n
  content_clash_place n (a, b, i, j, w) = subst (RecordOf branches) w.0 (content_record old branches ok a i)

  parent_clash_place : (n : ℕ) → ParentClash O B n → RecordOf branches n
  parent_clash_place n (a, b, i, j, w) =
      let v = edit_table old branches ok positions_of a i in
      let x = given-row v.0 (ok v.0 (there v.1)).distinct a (in_table v.0 a v.2) (parent_given n a.parent)
      (refl, w.0.0, w.0.1) in
      (v.0, v.1, Memᴰ.cast (sym x.2) (row_number v.0 x.0 x.1))

  neighbour_clash_place : (r : ℕ) → NeighbourClash O B r → TopOrRecordOf branches r
  neighbour_clash_place r (a, b, i, j, w) = subst (TopOrRecordOf branches) w.0 (edit_parent a i)

  lost_edit_place : (n : ℕ) → LostEdit O B n → TopOrRecordOf branches n
  lost_edit_place n (inl (a, i, e, h)) = inr (subst (RecordOf branches) e (content_record old branches ok a i))
  lost_edit_place n (inr (a, i, e, h)) = subst (TopOrRecordOf branches) e (edit_parent a i)

  -- with 21 and 22 it is a record
  pub refusal_record : (code n : ℕ) → Refusal O B code n → code ≤ parent_clash → RecordOf branches n
  refusal_record _ n (content_clash_lem l) h = content_clash_place n l.holds
  refusal_record _ n (parent_clash_lem n21 l) h = parent_clash_place n l.holds
  refusal_record _ n (neighbour_clash_lem n21 n22 l) h = absurd (omega (arith, h))
  refusal_record _ n (broken_list_lem n21 n22 n23 l) h = absurd (omega (arith, h))
  refusal_record _ n (lost_edit_lem n21 n22 n23 n24 l) h = absurd (omega (arith, h))

  -- with the others a record or the top
  pub refusal_place : (b : List Row) → b ∈ branches → (code n : ℕ) → Refusal O B code n → TopOrRecordOf branches n
  refusal_place b m _ n (content_clash_lem l) = inr (content_clash_place n l.holds)
  refusal_place b m _ n (parent_clash_lem n21 l) = inr (parent_clash_place n l.holds)
  refusal_place b m _ n (neighbour_clash_lem n21 n22 l) = neighbour_clash_place n l.holds
  refusal_place b m _ n (broken_list_lem n21 n22 n23 l) = (met_record b m l.holds.1).0
  refusal_place b m _ n (lost_edit_lem n21 n22 n23 n24 l) = lost_edit_place n l.holds
