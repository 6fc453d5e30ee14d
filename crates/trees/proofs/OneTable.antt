-- No two facts of one table disagree. A position fact of a table is one of its parent's list, and a list has each child once.
-- t is a table, r a parent, p the one before, n a record, ns the numbers of a list, x a row, a and b facts. Assumes nothing.
use mathlib.Core.Path.{◌≡◌, refl, sym, ap, ◌∙◌, subst}
use mathlib.Core.Logic.{◌⊎◌, inl, inr}
use mathlib.Core.List.Memᴰ
use mathlib.Core.List.Memᴰ.{head as here}
use mathlib.Core.List.Memᴰ.{tail as there}
use mathlib.Core.List.{List, [], ◌∷◌}
use Prim.Native.Nat.{ℕ, ◌≤◌}
use native.Mathlib.Omega.{arith}
use lib.Dec.{T, eqb, eqb→eq, eqb_refl}
use Rattle.rules.specs.Lists.{NoneTwice, ◌∈◌}
use Rattle.rules.specs.Marks.{END, START, TOP, is_record}
use Rattle.rules.specs.Line.{Row}
use Rattle.rules.specs.Table.{numbers}
use Rattle.rules.specs.Tree.{child_numbers, children_of}
use Rattle.rules.specs.Facts.{ContentFact, ParentGiven, PositionFact, content_of, contents_disagree, facts_of, list_facts, position}
use Rattle.rules.specs.Facts.{positions_disagree}
use Rattle.rules.specs.Demands.{Distinct}
use Rattle.trees.proofs.Lists.{flat_in, flat_out, keep_in, keep_out}
use Rattle.trees.proofs.Sets.{once_keep, unique_key}
use Rattle.trees.proofs.Marks.{record_high}
use Rattle.trees.proofs.Kept.{Coherent}
use Rattle.trees.proofs.Disagreeing.{Given, OneAfter, OneBefore, OneParent, after_of, before_of, contents_agree, given_out, number_of}
use Rattle.trees.proofs.Disagreeing.{parent_of, positions_agree, record_of}

-- ---- the facts of one list

pub list_parent : (r p : ℕ) (ns : List ℕ) (a : PositionFact) → a ∈ list_facts r p ns → a.parent ≡ r
list_parent r p [] a (here e) = ap parent_of e
list_parent r p [] a (there m) = absurd (Memᴰ.not-nil m)
list_parent r p (n ∷ ns) a (here e) = ap parent_of e
list_parent r p (n ∷ ns) a (there m) = list_parent r n ns a m

pub list_after : (r p : ℕ) (ns : List ℕ) (a : PositionFact) → a ∈ list_facts r p ns → (a.after ≡ END) ⊎ (a.after ∈ ns)
list_after r p [] a (here e) = inl (ap after_of e)
list_after r p [] a (there m) = absurd (Memᴰ.not-nil m)
list_after r p (n ∷ ns) a (here e) = inr (here (ap after_of e))
list_after r p (n ∷ ns) a (there m) = elim (list_after r n ns a m) [ inl e ↦ inl e | inr k ↦ inr (there k) ]

pub list_before : (r p : ℕ) (ns : List ℕ) (a : PositionFact) → a ∈ list_facts r p ns → a.before ∈ p ∷ ns
list_before r p [] a (here e) = here (ap before_of e)
list_before r p [] a (there m) = absurd (Memᴰ.not-nil m)
list_before r p (n ∷ ns) a (here e) = here (ap before_of e)
list_before r p (n ∷ ns) a (there m) = there (list_before r n ns a m)

-- START and every child are followed by something
pub list_follower : (r p q : ℕ) (ns : List ℕ) → q ∈ p ∷ ns → (s : ℕ) × (position r q s ∈ list_facts r p ns)
list_follower r p q [] (here e) = (END, here (ap (λ (z : ℕ). position r z END) e))
list_follower r p q [] (there m) = absurd (Memᴰ.not-nil m)
list_follower r p q (n ∷ ns) (here e) = (n, here (ap (λ (z : ℕ). position r z n) e))
list_follower r p q (n ∷ ns) (there m) = let w = list_follower r n q ns m in (w.0, there w.1)

-- a child has one follower
list_one_after : (r p : ℕ) (ns : List ℕ) (a b : PositionFact) → NoneTwice (p ∷ ns) → a ∈ list_facts r p ns → b ∈ list_facts r p ns
    → a.before ≡ b.before → a.after ≡ b.after
list_one_after r p [] a b once (here d) (here e) q = ap after_of (d ∙ sym e)
list_one_after r p [] a b once (there m) k q = absurd (Memᴰ.not-nil m)
list_one_after r p [] a b once (here d) (there k) q = absurd (Memᴰ.not-nil k)
list_one_after r p (n ∷ ns) a b once (here d) (here e) q = ap after_of (d ∙ sym e)
list_one_after r p (n ∷ ns) a b once (here d) (there k) q =
    absurd (once.0 (Memᴰ.cast (ap before_of (sym d) ∙ q) (list_before r n ns b k)))
list_one_after r p (n ∷ ns) a b once (there m) (here e) q =
    absurd (once.0 (Memᴰ.cast (ap before_of (sym e) ∙ sym q) (list_before r n ns a m)))
list_one_after r p (n ∷ ns) a b once (there m) (there k) q = list_one_after r n ns a b once.1 m k q

-- and one forerunner
list_not_back : (r n : ℕ) (ns : List ℕ) (a : PositionFact) → NoneTwice (n ∷ ns) → (END ∈ n ∷ ns → ⊥) → a.after ≡ n
    → a ∈ list_facts r n ns → ⊥
list_not_back r n ns a once no_end e m = go (list_after r n ns a m)
  where
    go : (a.after ≡ END) ⊎ (a.after ∈ ns) → ⊥
    go (inl d) = no_end (here (sym d ∙ e))
    go (inr k) = once.0 (Memᴰ.cast (sym e) k)

list_one_before : (r p : ℕ) (ns : List ℕ) (a b : PositionFact) → NoneTwice ns → (END ∈ ns → ⊥) → a ∈ list_facts r p ns
    → b ∈ list_facts r p ns
    → a.after ≡ b.after → a.before ≡ b.before
list_one_before r p [] a b once no_end (here d) (here e) q = ap before_of (d ∙ sym e)
list_one_before r p [] a b once no_end (there m) k q = absurd (Memᴰ.not-nil m)
list_one_before r p [] a b once no_end (here d) (there k) q = absurd (Memᴰ.not-nil k)
list_one_before r p (n ∷ ns) a b once no_end (here d) (here e) q = ap before_of (d ∙ sym e)
list_one_before r p (n ∷ ns) a b once no_end (here d) (there k) q =
    absurd (list_not_back r n ns b once no_end (sym q ∙ ap after_of d) k)
list_one_before r p (n ∷ ns) a b once no_end (there m) (here e) q =
    absurd (list_not_back r n ns a once no_end (q ∙ ap after_of e) m)
list_one_before r p (n ∷ ns) a b once no_end (there m) (there k) q =
    list_one_before r n ns a b once.1 (λ w. no_end (there w)) m k q

-- ---- the facts of one table

-- a position fact of the list of its parent
abbrev pub InTable : List Row → PositionFact → Type 0
InTable t a = a ∈ list_facts a.parent START (child_numbers a.parent t)

-- the list that a position fact comes from
pub list_of : (t : List Row) (a : PositionFact) → a ∈ (facts_of t).positions
    → (r : ℕ) × (r ∈ TOP ∷ numbers t) × (a ∈ list_facts r START (child_numbers r t))
unfolding facts_of
list_of t a m = flat_out (λ (r : ℕ). list_facts r START (child_numbers r t)) (TOP ∷ numbers t) m

pub in_table : (t : List Row) (a : PositionFact) → a ∈ (facts_of t).positions → InTable t a
in_table t a m =
    let w = list_of t a m in
    let e = list_parent w.0 START (child_numbers w.0 t) a w.2 in
    subst (λ (r : ℕ). a ∈ list_facts r START (child_numbers r t)) (sym e) w.2

pub list_in_lem : (t : List Row) (r : ℕ) → r ∈ TOP ∷ numbers t → (a : PositionFact) → a ∈ list_facts r START (child_numbers r t)
    → a ∈ (facts_of t).positions
unfolding facts_of
list_in_lem t r m a k = flat_in (λ (q : ℕ). list_facts q START (child_numbers q t)) m k

pub row_number : (t : List Row) (x : Row) → x ∈ t → x.number ∈ numbers t
row_number t x m = Memᴰ.map number_of m

pub number_row : (t : List Row) (n : ℕ) → n ∈ numbers t → (x : Row) × (x ∈ t) × (x.number ≡ n)
number_row t n m = let w = Memᴰ.of_map number_of t m in (w.0, w.1, w.2)

-- a row is one of its parent's children, and a child has a row
pub row_child : (t : List Row) (x : Row) → x ∈ t → x.number ∈ child_numbers x.parent t
row_child t x m = Memᴰ.map number_of (keep_in (λ (y : Row). eqb y.parent x.parent) m (eqb_refl x.parent))

pub child_row : (t : List Row) (r n : ℕ) → n ∈ child_numbers r t → (x : Row) × (x ∈ t) × (x.number ≡ n) × (x.parent ≡ r)
child_row t r n m =
    let w = Memᴰ.of_map number_of (children_of r t) m in
    let k = keep_out (λ (x : Row). eqb x.parent r) t w.1 in
    (w.0, k.0, w.2, eqb→eq _ _ k.1)

pub child_number : (t : List Row) (r n : ℕ) → n ∈ child_numbers r t → n ∈ numbers t
child_number t r n m = let w = child_row t r n m in Memᴰ.cast (sym w.2) (row_number t w.0 w.1)

pub row-content : (t : List Row) (x : Row) → x ∈ t → content_of x ∈ (facts_of t).contents
unfolding facts_of
row-content t x m = Memᴰ.map content_of m

pub content-row : (t : List Row) (a : ContentFact) → a ∈ (facts_of t).contents → (x : Row) × (x ∈ t) × (content_of x ≡ a)
unfolding facts_of
content-row t a m = let w = Memᴰ.of_map content_of t m in (w.0, w.1, w.2)

not_record : {n m : ℕ} → T (is_record n) → START ≤ m → n ≡ m → ⊥
not_record {n} t h e = omega (arith, record_high n t)

module _ (t : List Row) (d : Distinct t) where
  pub number_record : (n : ℕ) → n ∈ numbers t → T (is_record n)
  number_record n m = let w = number_row t n m in subst (λ (k : ℕ). T (is_record k)) w.2 (d.valid w.0 w.1)

  pub child_record : (r n : ℕ) → n ∈ child_numbers r t → T (is_record n)
  child_record r n m = number_record n (child_number t r n m)

  -- a list has each child once, and neither START nor END
  children_once : (r : ℕ) → NoneTwice (child_numbers r t)
  children_once r = once_keep number_of (λ (x : Row). eqb x.parent r) t d.once

  no_child : (r m : ℕ) → START ≤ m → m ∈ child_numbers r t → ⊥
  no_child r m h k = not_record (child_record r m k) h refl

  -- the row of a record to which a fact gives a parent
  pub given-row : (a : PositionFact) → InTable t a → (g : ParentGiven) → Given g a
      → (x : Row) × (x ∈ t) × (x.number ≡ g.number) × (x.parent ≡ g.parent)
  given-row a m g w = let k = child_row t a.parent g.number (go w.2) in (k.0, k.1, k.2, k.3 ∙ sym w.0)
    where
      children : List ℕ
      children = child_numbers a.parent t

      from : (n : ℕ) → T (is_record n) → n ∈ START ∷ children → n ∈ children
      from n i (here e) = absurd (not_record i (omega arith) e)
      from n i (there k) = k

      to : (n : ℕ) → T (is_record n) → (n ≡ END) ⊎ (n ∈ children) → n ∈ children
      to n i (inl e) = absurd (not_record i (omega arith) e)
      to n i (inr k) = k

      go : (g.number ≡ a.before) ⊎ (g.number ≡ a.after) → g.number ∈ children
      go (inl e) = from g.number w.1 (Memᴰ.cast e (list_before a.parent START children a m))
      go (inr e) =
          Memᴰ.cast e (to a.after (subst (λ (n : ℕ). T (is_record n)) e w.1) (list_after a.parent START children a m))

  row_by_number : {x y : Row} → x ∈ t → y ∈ t → x.number ≡ y.number → x ≡ y
  row_by_number = unique_key number_of t d.once

  -- no two position facts of a table disagree
  pub table_coherent : (a b : PositionFact) → InTable t a → InTable t b → T (positions_disagree a b) → ⊥
  table_coherent a b m k = positions_agree a b after before parent
    where
      children : List ℕ
      children = child_numbers a.parent t

      beside : a.parent ≡ b.parent → b ∈ list_facts a.parent START children
      beside e = subst (λ (r : ℕ). b ∈ list_facts r START (child_numbers r t)) (sym e) k

      after : OneAfter a b
      after e q =
          list_one_after a.parent START children a b (λ i. no_child a.parent START (omega arith) i, children_once a.parent) m
          (beside e) q

      before : OneBefore a b
      before e q =
          list_one_before a.parent START children a b (children_once a.parent) (λ i. no_child a.parent END (omega arith) i) m
          (beside e) q

      parent : OneParent a b
      parent g h i j e =
          let u = given-row a m g (given_out g a i) in
          let v = given-row b k h (given_out h b j) in
          sym u.3 ∙ ap (λ (x : Row). x.parent) (row_by_number u.1 v.1 (u.2 ∙ e ∙ sym v.2)) ∙ v.3

  -- nor two content facts
  pub contents_coherent : Coherent contents_disagree (facts_of t).contents
  contents_coherent a b m k =
      let u = content-row t a m in
      let v = content-row t b k in
      contents_agree a b (λ e.
      let q = row_by_number u.1 v.1 (ap record_of u.2 ∙ e ∙ sym (ap record_of v.2)) in
      ap (λ (c : ContentFact). c.content) (sym u.2 ∙ ap content_of q ∙ v.2))
