-- Lists as sets: none stands twice, a key finds one, lists with the same elements, of which there are no more, and the first that
-- passes. x and y are elements, xs and ys lists of them, `test` a test. Assumes nothing.
use mathlib.Core.Path.{◌≡◌, refl, sym, ap, ◌∙◌, subst}
use mathlib.Core.Logic.{◌⊎◌, inl, inr}
use mathlib.Core.Bool.{Bool, true, false, not}
use mathlib.Core.Option.{some}
use mathlib.Core.List.Memᴰ
use mathlib.Core.List.Memᴰ.{head as here}
use mathlib.Core.List.Memᴰ.{tail as there}
use mathlib.Core.List.{List, [], ◌∷◌, ◌++◌, map}
use Prim.Native.Nat.{ℕ, suc, zero, ◌≤◌, ◌<◌}
use native.Mathlib.Omega.{arith}
use native.Mathlib.Decide.{ℕ_discrete}
use lib.ListN.{length}
use lib.Dec.{T, not_T, T_not, eqb, eqb_refl}
use mir.Facts.{no_eqb}
use Rattle.rules.specs.Lists.{NoneTwice, ◌∈◌, first, flat, keep, put}
use Rattle.trees.proofs.Lists.{flat_in, flat_out, keep_in, keep_none, keep_out}

-- ---- none twice

module _ {A : Type 0} where
  pub once_left : (xs ys : List A) → NoneTwice (xs ++ ys) → NoneTwice xs
  once_left [] ys once = tt
  once_left (x ∷ xs) ys once = (λ m. once.0 (Memᴰ.append_left ys m), once_left xs ys once.1)

  pub once_right : (xs ys : List A) → NoneTwice (xs ++ ys) → NoneTwice ys
  once_right [] ys once = once
  once_right (x ∷ xs) ys once = once_right xs ys once.1

  pub once_apart : {y : A} (xs ys : List A) → NoneTwice (xs ++ ys) → y ∈ xs → y ∈ ys → ⊥
  once_apart [] ys once m k = Memᴰ.not-nil m
  once_apart (x ∷ xs) ys once (here e) k = once.0 (Memᴰ.append_right xs (Memᴰ.cast (sym e) k))
  once_apart (x ∷ xs) ys once (there m) k = once_apart xs ys once.1 m k

  pub once_join : (xs ys : List A) → NoneTwice xs → NoneTwice ys → ((x : A) → x ∈ xs → x ∈ ys → ⊥) → NoneTwice (xs ++ ys)
  once_join [] ys once once' apart = once'
  once_join (x ∷ xs) ys once once' apart =
      (λ m. out (Memᴰ.append_cases xs m), once_join xs ys once.1 once' (λ y i j. apart y (there i) j))
    where
      out : (x ∈ xs) ⊎ (x ∈ ys) → ⊥
      out (inl m) = once.0 m
      out (inr m) = apart x (here refl) m

module _ {A B : Type 0} (key : A → B) where
  -- no key twice: a key finds one
  pub unique_key : {x y : A} (xs : List A) → NoneTwice (map key xs) → x ∈ xs → y ∈ xs → key x ≡ key y → x ≡ y
  unique_key [] once m k e = absurd (Memᴰ.not-nil m)
  unique_key (z ∷ xs) once (here p) (here q) e = p ∙ sym q
  unique_key (z ∷ xs) once (here p) (there k) e = absurd (once.0 (Memᴰ.cast (ap key (sym p) ∙ e) (Memᴰ.map key k)))
  unique_key (z ∷ xs) once (there m) (here q) e = absurd (once.0 (Memᴰ.cast (ap key (sym q) ∙ sym e) (Memᴰ.map key m)))
  unique_key (z ∷ xs) once (there m) (there k) e = unique_key xs once.1 m k e

  pub once_keep : (test : A → Bool) (xs : List A) → NoneTwice (map key xs) → NoneTwice (map key (keep test xs))
  once_keep test [] once = tt
  once_keep test (z ∷ xs) once = step (test z) (once_keep test xs once.1)
    where
      new : key z ∈ map key (keep test xs) → ⊥
      new m =
          let w = Memᴰ.of_map key (keep test xs) m in
          once.0 (Memᴰ.cast (sym w.2) (Memᴰ.map key (keep_out test xs w.1).0))

      step : (b : Bool) → NoneTwice (map key (keep test xs)) → NoneTwice (map key (put b z (keep test xs)))
      step true h = (new, h)
      step false h = h

-- ---- the same elements

module _ {A : Type 0} where
  -- each of xs is in ys
  abbrev pub Sub : List A → List A → Type 0
  Sub xs ys = (x : A) → x ∈ xs → x ∈ ys

module _ {A B : Type 0} where
  pub map-sub : (f : A → B) (xs ys : List A) → Sub xs ys → Sub (map f xs) (map f ys)
  map-sub f xs ys h y m = let w = Memᴰ.of_map f xs m in Memᴰ.cast (sym w.2) (Memᴰ.map f (h w.0 w.1))

  pub flat-sub : (f : A → List B) (xs ys : List A) → Sub xs ys → Sub (flat f xs) (flat f ys)
  flat-sub f xs ys h y m = let w = flat_out f xs m in flat_in f (h w.0 w.1) w.2

-- ---- of which there are no more

module _ {A : Type 0} (test : A → Bool) where
  keep-le : (xs : List A) → length (keep test xs) ≤ length xs
  keep-le [] = omega arith
  keep-le (x ∷ xs) = step (test x) (keep-le xs)
    where
      step : (b : Bool) → length (keep test xs) ≤ length xs → length (put b x (keep test xs)) ≤ suc (length xs)
      step true h = omega arith
      step false h = omega arith

  -- one is left out
  keep_less : (xs : List A) (y : A) → y ∈ xs → T (not (test y)) → length (keep test xs) < length xs
  keep_less [] y m t = absurd (Memᴰ.not-nil m)
  keep_less (x ∷ xs) y (here e) t = step (test x) (subst (λ (z : A). T (not (test z))) e t)
    where
      step : (b : Bool) → T (not b) → length (put b x (keep test xs)) < suc (length xs)
      step true t = absurd t
      step false t = omega (arith, keep-le xs)
  keep_less (x ∷ xs) y (there m) t = step (test x) (keep_less xs y m t)
    where
      step : (b : Bool) → length (keep test xs) < length xs → length (put b x (keep test xs)) < suc (length xs)
      step true h = omega arith
      step false h = omega arith

-- numbers of which none stands twice, each of them in another list, are no more than that list has
pub once_few : (xs ys : List ℕ) → NoneTwice xs → Sub xs ys → length xs ≤ length ys
once_few [] ys once h = omega arith
once_few (x ∷ xs) ys once h =
    let other : ℕ → Bool = λ y. not (eqb y x) in
    let less : length (keep other ys) < length ys =
    keep_less other ys x (h x (here refl)) (not_T (not (eqb x x)) (λ t. T_not (eqb x x) t (eqb_refl x))) in
    let rest : length xs ≤ length (keep other ys) =
    once_few xs (keep other ys) once.1
    (λ y m. keep_in other (h y (there m)) (no_eqb {a = y} {b = x} (λ e. once.0 (Memᴰ.cast (sym e) m)))) in
    omega arith

-- the numbers below n
abbrev below : ℕ → List ℕ
below zero = []
below (suc n) = n ∷ below n

below_in : (n x : ℕ) → x < n → x ∈ below n
below_in zero x h = absurd (omega arith)
below_in (suc n) x h = go (ℕ_discrete x n) (below_in n x)
  where
    go : Dec (x ≡ n) → (x < n → x ∈ below n) → x ∈ below (suc n)
    go (yes e) f = here e
    go (no e) f = there (f (omega (arith, e)))

below_length : (n : ℕ) → length (below n) ≡ n
below_length zero = refl
below_length (suc n) = ap suc (below_length n)

-- numbers below n, none twice, are at most n
pub pigeonhole : (n : ℕ) (ns : List ℕ) → NoneTwice ns → ((x : ℕ) → x ∈ ns → x < n) → length ns ≤ n
pigeonhole n ns once low = omega (arith, once_few ns (below n) once (λ x m. below_in n x (low x m)), below_length n)

-- ---- the first that passes, where all that pass have one value

module _ {A B : Type 0} (test : A → Bool) (value : A → B) where
  pub first_is : (x : A) (xs : List A) → x ∈ xs → T (test x) → ((y : A) → y ∈ xs → T (test y) → value y ≡ value x)
      → first (map value (keep test xs)) ≡ some (value x)
  first_is x xs m t h = go (keep test xs) (keep_in test m t) (λ y k. let w = keep_out test xs k in h y w.0 w.1)
    where
      go : (ys : List A) → x ∈ ys → ((y : A) → y ∈ ys → value y ≡ value x) → first (map value ys) ≡ some (value x)
      go [] n f = absurd (Memᴰ.not-nil n)
      go (y ∷ ys) n f = ap some (f y (here refl))

  -- it is the same in lists with the same elements
  pub first-same : (xs ys : List A) → Sub xs ys → Sub ys xs
      → ((x y : A) → x ∈ xs → y ∈ xs → T (test x) → T (test y) → value x ≡ value y)
      → first (map value (keep test xs)) ≡ first (map value (keep test ys))
  first-same xs ys h g one = go (keep test xs) refl
    where
      go : (kept : List A) → keep test xs ≡ kept → first (map value (keep test xs)) ≡ first (map value (keep test ys))
      go [] e =
          let none : keep test ys ≡ [] =
          keep_none test ys (λ y m t. Memᴰ.not-nil (subst (λ (l : List A). y ∈ l) e (keep_in test (g y m) t))) in
          ap (λ (l : List A). first (map value l)) (e ∙ sym none)
      go (z ∷ kept) e =
          let w = keep_out test xs (subst (λ (l : List A). z ∈ l) (sym e) (here refl)) in
          first_is z xs w.0 w.1 (λ y m t. one y z m w.0 t w.1)
          ∙ sym (first_is z ys (h z w.0) w.1 (λ y m t. one y z (g y m) w.0 t w.1))
