-- Memory that holds a readable table answers exactly as the table's position facts say. ls and fs are the two arrays, t is the table's
-- rows, x a row, a a fact; r is a parent, p the one before, s the one after, n a record, ns the numbers of a list. Assumes nothing.
use mathlib.Core.Path.{◌≡◌, refl, sym, ap, ◌∙◌, subst}
use mathlib.Core.Logic.{◌⊎◌, inl, inr, ◌↔◌}
use mathlib.Core.Bool.{Bool, true, false, cond}
use mathlib.Core.List.Memᴰ
use mathlib.Core.List.Memᴰ.{head as here}
use mathlib.Core.List.Memᴰ.{tail as there}
use mathlib.Core.List.{List, [], ◌∷◌}
use Prim.Native.Nat.{ℕ, ◌<◌}
use native.Mathlib.Omega.{arith}
use native.Mathlib.Decide.{ℕ_discrete}
use lib.Dec.{T, eqb, eqb→eq, eqb_refl, ltb→lt, lt→ltb}
use mir.Facts.{and_yes, yes_and, or_yes, yes_eqb}
use borrow.Author.Tests.{ne_eqb}
use Rattle.rules.specs.Lists.{◌∈◌}
use Rattle.rules.specs.Marks.{TOP, START, END, is_record}
use Rattle.rules.specs.Text.{last}
use Rattle.rules.specs.Line.{Row}
use Rattle.rules.specs.Table.{numbers}
use Rattle.rules.specs.Tree.{child_numbers}
use Rattle.rules.specs.Facts.{PositionFact, facts_of, list_facts, position}
use Rattle.rules.specs.Demands.{Readable}
use Rattle.trees.proofs.Lists.{or_left, or_right, is_true}
use Rattle.trees.proofs.Marks.{record_low, record_high}
use Rattle.trees.proofs.OneTable.{child_number, child_record, in_table, list_after, list_before, list_follower, list_in_lem, list_of}
use Rattle.trees.proofs.OneTable.{list_parent, number_record, number_row, row_child, row_number}
use Rattle.trees.proofs.LineByLine.{open_before, open_list, rooted_parent}
use Rattle.facts.specs.Memory.{PARENT, FORERUNNER, FOLLOWER, FIRST, LAST, line_at, field, who, way}
use Rattle.facts.specs.Holds.{Holds}
use Rattle.facts.specs.Asked.{has_in, list_in, child_in, after_in, before_in, asked}
use Rattle.facts.proofs.Strings.{who_itself, strung_after, strung_before, strung_parent}
use Rattle.facts.proofs.Views.{View, after_low, has_after}

-- ---- tests

-- an answer was given
cond_low : (b : Bool) (n : ℕ) → 0 < cond b n 0 → T b
cond_low true n h = tt
cond_low false n h = absurd (omega arith)

not_start : (n : ℕ) → T (is_record n) → n ≡ START → ⊥
not_start n i e = omega (arith, record_high n i)

not_end : (n : ℕ) → T (is_record n) → n ≡ END → ⊥
not_end n i e = omega (arith, record_high n i)

-- ---- the facts of one list

-- the last one
pub list_end : (r p : ℕ) (ns : List ℕ) → position r (last p ns) END ∈ list_facts r p ns
list_end r p [] = here refl
list_end r p (n ∷ ns) = there (list_end r n ns)

-- every child comes after something
list_forerunner : (r p s : ℕ) (ns : List ℕ) → s ∈ ns → (b : ℕ) × (position r b s ∈ list_facts r p ns)
list_forerunner r p s ns m = let w = open_before r p s ns m in (w.0, open_list r p ns (position r w.0 s) w.1)

-- ---- the rows of a table

pub fact_parent : (t : List Row) (a : PositionFact) → a ∈ (facts_of t).positions → a.parent ∈ TOP ∷ numbers t
fact_parent t a m =
    let w = list_of t a m in
    Memᴰ.cast (list_parent w.0 START (child_numbers w.0 t) a w.2) w.1

pub row_parent : (t : List Row) → Readable t → (x : Row) → x ∈ t → x.parent ∈ TOP ∷ numbers t
row_parent t ok x m = rooted_parent (numbers t) [] t (λ n j. absurd (Memᴰ.not-nil j)) (row_number t) ok.rooted x m

-- ---- the records that memory knows are the table's

module _ (ls fs : List ℕ) (t : List Row) (h : Holds ls fs t) where
  pub number_has : (n : ℕ) → n ∈ numbers t → T (has_in ls n)
  number_has n m = lt→ltb 0 (line_at ls n) (h.known n m)

  pub has_number : (n : ℕ) → T (has_in ls n) → n ∈ numbers t
  has_number n i = h.only n (ltb→lt 0 (line_at ls n) i)

module _ (ls fs : List ℕ) (t : List Row) (h : Holds ls fs t) (ok : Readable t) where
  abbrev get : ℕ → ℕ → ℕ
  get = field ls fs

  abbrev children : ℕ → List ℕ
  children r = child_numbers r t

  abbrev Parent : ℕ → Type 0
  Parent r = r ∈ TOP ∷ numbers t

  is_record_lem : (r n : ℕ) → n ∈ children r → T (is_record n)
  is_record_lem r n m = child_record t ok.distinct r n m

  child_parent : (r n : ℕ) → Parent r → n ∈ children r → get n PARENT ≡ r
  child_parent r n i m = strung_parent get r START (children r) (h.strung r i) n m

  -- the parent's field says what the row says
  pub row_parent_field : (x : Row) → x ∈ t → field ls fs x.number PARENT ≡ x.parent
  row_parent_field x m = child_parent x.parent x.number (row_parent t ok x m) (row_child t x m)

  -- ---- who is there

  -- the top is on line 0
  pub top_line : line_at ls TOP ≡ 0
  top_line = go (ℕ_discrete (line_at ls TOP) 0)
    where
      go : Dec (line_at ls TOP ≡ 0) → line_at ls TOP ≡ 0
      go (yes e) = e
      go (no e) = absurd (number_record t ok.distinct TOP (h.only TOP (omega arith)))

  list_yes : (r : ℕ) → Parent r → T (list_in ls r)
  list_yes r (here e) = or_left (eqb r TOP) (has_in ls r) (yes_eqb e)
  list_yes r (there m) = or_right (eqb r TOP) (has_in ls r) (number_has ls fs t h r m)

  pub yes_list : (r : ℕ) → T (list_in ls r) → r ∈ TOP ∷ numbers t
  yes_list r i = elim (or_yes (eqb r TOP) (has_in ls r) i) [ inl e ↦ here (eqb→eq r TOP e) | inr k ↦ there (has_number ls fs t h r k) ]

  child_yes : (r n : ℕ) → Parent r → n ∈ children r → T (child_in ls fs r n)
  child_yes r n i m =
      yes_and (has_in ls n) (eqb (get n PARENT) r) (number_has ls fs t h n (child_number t r n m)) (yes_eqb (child_parent r n i m))

  yes_child : (r n : ℕ) → T (child_in ls fs r n) → (n ∈ children r) × Parent r
  yes_child r n i =
      let both = and_yes (has_in ls n) (eqb (get n PARENT) r) i in
      let w = number_row t n (has_number ls fs t h n both.0) in
      let x = w.0 in
      let e : x.parent ≡ r =
      sym (row_parent_field x w.1) ∙ ap (λ (m : ℕ). get m PARENT) w.2 ∙ eqb→eq (get n PARENT) r both.1 in
      (subst (λ (q : ℕ). n ∈ children q) e (Memᴰ.cast (sym w.2) (row_child t x w.1)), Memᴰ.cast (sym e) (row_parent t ok x w.1))

  -- ---- what is answered

  after-start : (r : ℕ) → T (list_in ls r) → after_in ls fs r START ≡ get r FIRST
  after-start r i = rw (is_true (list_in ls r) i)

  after_child : (r p : ℕ) → (p ≡ START → ⊥) → T (child_in ls fs r p) → after_in ls fs r p ≡ get p FOLLOWER
  after_child r p e i = rw (ne_eqb p START e, is_true (child_in ls fs r p) i)

  before-end : (r : ℕ) → T (list_in ls r) → before_in ls fs r END ≡ get r LAST
  before-end r i = rw (is_true (list_in ls r) i)

  before_child : (r s : ℕ) → (s ≡ END → ⊥) → T (child_in ls fs r s) → before_in ls fs r s ≡ get s FORERUNNER
  before_child r s e i = rw (ne_eqb s END e, is_true (child_in ls fs r s) i)

  -- a fact of the list of its parent
  module _ (a : PositionFact) (i : a.parent ∈ TOP ∷ numbers t) (m : a ∈ list_facts a.parent START (child_numbers a.parent t)) where
    from : (a.before ≡ START) ⊎ (a.before ∈ children a.parent)
    from = go (list_before a.parent START (children a.parent) a m)
      where
        go : a.before ∈ START ∷ children a.parent → (a.before ≡ START) ⊎ (a.before ∈ children a.parent)
        go (here e) = inl e
        go (there k) = inr k

    out : get (who a.parent a.before) (way a.before) ≡ a.after
    out = strung_after get a.parent START (children a.parent) (h.strung a.parent i) a m

    tells_after : after_in ls fs a.parent a.before ≡ a.after
    tells_after = go from
      where
        go : (a.before ≡ START) ⊎ (a.before ∈ children a.parent) → after_in ls fs a.parent a.before ≡ a.after
        go (inl e) =
            ap (after_in ls fs a.parent) e ∙ after-start a.parent (list_yes a.parent i)
            ∙ (λ j. get (who a.parent (sym e j)) (way (sym e j))) ∙ out
        go (inr k) =
            let ne = not_start a.before (is_record_lem a.parent a.before k) in
            after_child a.parent a.before ne (child_yes a.parent a.before i k)
            ∙ rw (← (who_itself a.parent a.before ne), ← (way_child ne)) out
          where
            way_child : (a.before ≡ START → ⊥) → way a.before ≡ FOLLOWER
            way_child ne = rw (ne_eqb a.before START ne)

    tells_before : before_in ls fs a.parent a.after ≡ a.before
    tells_before =
        elim (strung_before get a.parent START (children a.parent) (h.strung a.parent i) a m) [
          | inl w ↦ ap (before_in ls fs a.parent) w.0 ∙ before-end a.parent (list_yes a.parent i) ∙ w.1
          | inr w ↦ before_child a.parent a.after (not_end a.after (is_record_lem a.parent a.after w.0))
              (child_yes a.parent a.after i w.0) ∙ w.1
        ]

  -- ---- what is answered is a fact

  leave : (r p : ℕ) → Parent r → p ∈ START ∷ children r → position r p (after_in ls fs r p) ∈ (facts_of t).positions
  leave r p i m =
      let w = list_follower r START p (children r) m in
      let e = tells_after (position r p w.0) i w.1 in
      Memᴰ.cast (ap (position r p) e) (list_in_lem t r i (position r p w.0) w.1)

  enter : (r s b : ℕ) → Parent r → position r b s ∈ list_facts r START (child_numbers r t)
      → position r (before_in ls fs r s) s ∈ (facts_of t).positions
  enter r s b i m =
      let e = tells_before (position r b s) i m in
      Memᴰ.cast (λ j. position r (e j) s) (list_in_lem t r i (position r b s) m)

  enter_end : (r : ℕ) → Parent r → position r (before_in ls fs r END) END ∈ (facts_of t).positions
  enter_end r i = enter r END (last START (children r)) i (list_end r START (children r))

  enter_child : (r s : ℕ) → Parent r → s ∈ children r → position r (before_in ls fs r s) s ∈ (facts_of t).positions
  enter_child r s i m = let w = list_forerunner r START s (children r) m in enter r s w.0 i w.1

  answer_after : (r p : ℕ) → 0 < after_in ls fs r p → position r p (after_in ls fs r p) ∈ (facts_of t).positions
  answer_after r p given = go (ℕ_discrete p START)
    where
      go : Dec (p ≡ START) → position r p (after_in ls fs r p) ∈ (facts_of t).positions
      go (yes e) =
          let g : 0 < after_in ls fs r START = subst (λ (q : ℕ). 0 < after_in ls fs r q) e given in
          leave r p (yes_list r (cond_low (list_in ls r) (get r FIRST) g)) (here e)
      go (no e) =
          let d : after_in ls fs r p ≡ cond (child_in ls fs r p) (get p FOLLOWER) 0 = rw (ne_eqb p START e) in
          let w = yes_child r p (cond_low (child_in ls fs r p) (get p FOLLOWER) (subst (λ (q : ℕ). 0 < q) d given)) in
          leave r p w.1 (there w.0)

  answer_before : (r s : ℕ) → 0 < before_in ls fs r s → position r (before_in ls fs r s) s ∈ (facts_of t).positions
  answer_before r s given = go (ℕ_discrete s END)
    where
      go : Dec (s ≡ END) → position r (before_in ls fs r s) s ∈ (facts_of t).positions
      go (yes e) =
          let g : 0 < before_in ls fs r END = subst (λ (q : ℕ). 0 < before_in ls fs r q) e given in
          Memᴰ.cast (λ j. position r (before_in ls fs r (e j)) (e j)) (enter_end r (yes_list r (cond_low (list_in ls r) (get r LAST) g)))
      go (no e) =
          let d : before_in ls fs r s ≡ cond (child_in ls fs r s) (get s FORERUNNER) 0 = rw (ne_eqb s END e) in
          let w = yes_child r s (cond_low (child_in ls fs r s) (get s FORERUNNER) (subst (λ (q : ℕ). 0 < q) d given)) in
          enter_child r s w.1 w.0

  -- ---- who stands in a fact

  before_is : (a : PositionFact) → a ∈ (facts_of t).positions → (a.before ≡ START) ⊎ (a.before ∈ children a.parent)
  before_is a m = from a (fact_parent t a m) (in_table t a m)

  after_is : (a : PositionFact) → a ∈ (facts_of t).positions → (a.after ≡ END) ⊎ (a.after ∈ children a.parent)
  after_is a m = list_after a.parent START (children a.parent) a (in_table t a m)

  before_record : (a : PositionFact) → a ∈ (facts_of t).positions → T (is_record a.before) ⊎ (a.before ≡ START)
  before_record a m = elim (before_is a m) [ inl e ↦ inr e | inr k ↦ inl (is_record_lem a.parent a.before k) ]

  after_record : (a : PositionFact) → a ∈ (facts_of t).positions → T (is_record a.after) ⊎ (a.after ≡ END)
  after_record a m = elim (after_is a m) [ inl e ↦ inr e | inr k ↦ inl (is_record_lem a.parent a.after k) ]

  before-given : (a : PositionFact) → a ∈ (facts_of t).positions → 0 < a.before
  before-given a m = elim (before_record a m) [ inl i ↦ record_low a.before i | inr e ↦ omega arith ]

  after-given : (a : PositionFact) → a ∈ (facts_of t).positions → 0 < a.after
  after-given a m = elim (after_record a m) [ inl i ↦ record_low a.after i | inr e ↦ omega arith ]

  owns : (a : PositionFact) → a ∈ (facts_of t).positions → (n : ℕ) → T (is_record n) → (n ≡ a.before) ⊎ (n ≡ a.after)
      → T (has_in ls n) × (get n PARENT ≡ a.parent)
  owns a m n i s =
      let k = named s in
      (number_has ls fs t h n (child_number t a.parent n k), child_parent a.parent n (fact_parent t a m) k)
    where
      named : (n ≡ a.before) ⊎ (n ≡ a.after) → n ∈ child_numbers a.parent t
      named (inl e) = elim (before_is a m) [ inl d ↦ absurd (not_start n i (e ∙ d)) | inr k ↦ Memᴰ.cast e k ]
      named (inr e) = elim (after_is a m) [ inl d ↦ absurd (not_end n i (e ∙ d)) | inr k ↦ Memᴰ.cast e k ]

  place : (n : ℕ) → T (has_in ls n) → T (is_record n) × (0 < after_in ls fs (get n PARENT) n) × (0 < before_in ls fs (get n PARENT) n)
  place n i =
      let r = get n PARENT in
      let c = yes_child r n (yes_and (has_in ls n) (eqb r r) i (eqb_refl r)) in
      (is_record_lem r n c.0, after-given _ (leave r n c.1 (there c.0)), before-given _ (enter_child r n c.1 c.0))

  list_ends : (r : ℕ) → T (list_in ls r) → (0 < after_in ls fs r START) × (0 < before_in ls fs r END)
  list_ends r i =
      let k = yes_list r i in
      (after-given _ (leave r START k (here refl)), before-given _ (enter_end r k))

  -- each fact stands in the field of its parent or of the one before
  pub linked : (a : PositionFact) → a ∈ (facts_of t).positions → field ls fs (who a.parent a.before) (way a.before) ≡ a.after
  linked a m = out a (fact_parent t a m) (in_table t a m)

  pub shown : View (asked ls fs) (facts_of t).positions
  shown =
      record {
        to_after_lem = λ a m. tells_after a (fact_parent t a m) (in_table t a m);
        to_before_lem = λ a m. tells_before a (fact_parent t a m) (in_table t a m);
        from-after = answer_after;
        from-before = answer_before;
        owner = owns;
        placed = place;
        listed = λ a m. list_yes a.parent (fact_parent t a m);
        ends = list_ends;
        before_ok = before_record;
        after_ok = after_record;
      }

  -- each fact of the table stands there, and nothing else does
  pub exact : (a : PositionFact) → (a ∈ (facts_of t).positions) ↔ ((0 < a.after) × ((asked ls fs).after a.parent a.before ≡ a.after))
  exact a = (λ m. (after_low shown a m, shown.to_after_lem a m), λ w. has_after shown a w.0 w.1)
