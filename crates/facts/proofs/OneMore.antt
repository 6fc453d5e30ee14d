-- One row more: which numbers are there then, whose children they are, and that the table stays readable. t is the table's rows, y the
-- row that is added, m is a number, q a parent. Assumes nothing.
use mathlib.Core.Path.{◌≡◌, sym, ap, ◌∙◌, subst}
use mathlib.Core.Logic.{◌⊎◌, inl, inr}
use mathlib.Core.List.Memᴰ
use mathlib.Core.List.Memᴰ.{head as here}
use mathlib.Core.List.Memᴰ.{tail as there}
use mathlib.Core.List.{List, [], ◌∷◌, ◌++◌, map-append}
use Prim.Native.Nat.{ℕ}
use native.Mathlib.Omega.{arith}
use lib.Dec.{T, eqb, eqb→eq}
use mir.Facts.{no_eqb}
use Rattle.rules.specs.Lists.{◌∈◌, NoneTwice}
use Rattle.rules.specs.Marks.{TOP, is_record}
use Rattle.rules.specs.Line.{Row}
use Rattle.rules.specs.Table.{numbers}
use Rattle.rules.specs.Tree.{child_numbers}
use Rattle.rules.specs.Demands.{Readable, Rooted}
use Rattle.trees.proofs.Lists.{keep_none}
use Rattle.trees.proofs.Sets.{once_join}
use Rattle.trees.proofs.Marks.{record_low}
use Rattle.trees.proofs.Disagreeing.{number_of}
use Rattle.trees.proofs.LineByLine.{children-same}
use Rattle.facts.proofs.Shown.{row_parent}

-- ---- numbers and children

module _ (t : List Row) (y : Row) where
  abbrev n : ℕ
  n = y.number

  abbrev t' : List Row
  t' = t ++ (y ∷ [])

  numbers_more : numbers t' ≡ numbers t ++ (n ∷ [])
  numbers_more = map-append number_of t (y ∷ [])

  pub number_old : (m : ℕ) → m ∈ numbers t → m ∈ numbers (t ++ (y ∷ []))
  number_old m k = subst (λ (z : List ℕ). m ∈ z) (sym numbers_more) (Memᴰ.append_left (n ∷ []) k)

  pub number_new : (m : ℕ) → m ≡ y.number → m ∈ numbers (t ++ (y ∷ []))
  number_new m e = subst (λ (z : List ℕ). m ∈ z) (sym numbers_more) (Memᴰ.append_right (numbers t) (here e))

  pub number_cases : (m : ℕ) → m ∈ numbers (t ++ (y ∷ [])) → (m ∈ numbers t) ⊎ (m ≡ y.number)
  number_cases m k =
      elim (Memᴰ.append_cases (numbers t) (subst (λ (z : List ℕ). m ∈ z) numbers_more k)) [
        | inl i ↦ inl i
        | inr i ↦ inr (Memᴰ.eq_of_singleton i)
      ]

  pub known_cases : (m : ℕ) → m ∈ TOP ∷ numbers (t ++ (y ∷ [])) → (m ∈ TOP ∷ numbers t) ⊎ (m ≡ y.number)
  known_cases m (here e) = inl (here e)
  known_cases m (there k) = elim (number_cases m k) [ inl i ↦ inl (there i) | inr e ↦ inr e ]

  pub children_other : (q : ℕ) → (q ≡ y.parent → ⊥) → child_numbers q (t ++ (y ∷ [])) ≡ child_numbers q t
  children_other q ne = children-same t y q (no_eqb (λ e. ne (sym e)))

  -- ---- a record that was not there

  module _ (ok : Readable t) (record_y : T (is_record y.number)) (new : y.number ∈ numbers t → ⊥) where
    pub not_new : (m : ℕ) → m ∈ TOP ∷ numbers t → m ≡ y.number → ⊥
    not_new m (here e) d = omega (arith, record_low n record_y)
    not_new m (there k) d = new (Memᴰ.cast (sym d) k)

    -- nobody's parent is the new record
    pub childless : y.parent ∈ TOP ∷ numbers t → child_numbers y.number (t ++ (y ∷ [])) ≡ []
    childless under =
        children_other n (λ d. not_new y.parent under (sym d))
        ∙ ap numbers (keep_none (λ (x : Row). eqb x.parent n) t
        (λ x m e. not_new x.parent (row_parent t ok x m) (eqb→eq x.parent n e)))

    pub once_more : NoneTwice (numbers (t ++ (y ∷ [])))
    once_more =
        subst NoneTwice (sym numbers_more)
        (once_join (numbers t) (n ∷ []) ok.distinct.once ((λ m. Memᴰ.not-nil m), tt)
        (λ m k i. new (Memᴰ.cast (sym (Memᴰ.eq_of_singleton i)) k)))

    pub readable_more : y.parent ∈ TOP ∷ numbers t → Readable (t ++ (y ∷ []))
    readable_more under =
        record {
          distinct = record { once = once_more; valid = λ x m. valid x (Memᴰ.append_cases t m) };
          rooted = rooted [] t ok.rooted (side under);
        }
      where
        valid : (x : Row) → (x ∈ t) ⊎ (x ∈ y ∷ []) → T (is_record x.number)
        valid x (inl m) = ok.distinct.valid x m
        valid x (inr m) = subst (λ (z : Row). T (is_record z.number)) (sym (Memᴰ.eq_of_singleton m)) record_y

        side : y.parent ∈ TOP ∷ numbers t → (y.parent ∈ TOP ∷ []) ⊎ (y.parent ∈ numbers t)
        side (here e) = inl (here e)
        side (there m) = inr m

        -- the parent stands before these rows or on one of them
        rooted : (seen : List ℕ) (s : List Row) → Rooted seen s → (y.parent ∈ TOP ∷ seen) ⊎ (y.parent ∈ numbers s)
            → Rooted seen (s ++ (y ∷ []))
        rooted seen [] h (inl m) = (m, tt)
        rooted seen [] h (inr m) = absurd (Memᴰ.not-nil m)
        rooted seen (x ∷ s) h w = (h.0, rooted (x.number ∷ seen) s h.1 (go w))
          where
            go : (y.parent ∈ TOP ∷ seen) ⊎ (y.parent ∈ x.number ∷ numbers s)
                → (y.parent ∈ TOP ∷ x.number ∷ seen) ⊎ (y.parent ∈ numbers s)
            go (inl (here e)) = inl (here e)
            go (inl (there m)) = inl (there (there m))
            go (inr (here e)) = inl (there (here e))
            go (inr (there m)) = inr m
