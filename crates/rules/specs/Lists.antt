-- The words on lists that the rules are said in: those that pass a test, whether one or all pass, and what stands in a list.
-- Assumes nothing.
use Rattle.std.specs.Prelude.{Bool, true, false, ◌&&◌, ◌||◌, ℕ, ◌+◌}
use Rattle.std.proofs.Math.Option.{Option, none, some}
use mathlib.Core.List.{List, [], ◌∷◌, ◌++◌, Memᴰ}

module _ {A : Type 0} where
  -- x stands in the list
  infix 50 ◌∈◌
  abbrev pub ◌∈◌ : A → List A → Type 0
  ◌∈◌ x xs = Memᴰ x xs

  -- none stands twice
  abbrev pub NoneTwice : List A → Type 0
  NoneTwice [] = Unit {0}
  NoneTwice (x ∷ xs) = (x ∈ xs → ⊥) × NoneTwice xs

  -- the first of them, if there is one
  abbrev pub first : List A → Option A
  first [] = none
  first (x ∷ xs) = some x

  -- x first, if the test passed
  abbrev pub put : Bool → A → List A → List A
  put true x xs = x ∷ xs
  put false x xs = xs

  -- those that pass the test
  abbrev pub keep : (A → Bool) → List A → List A
  keep test [] = []
  keep test (x ∷ xs) = put (test x) x (keep test xs)

  -- one passes
  abbrev pub any : (A → Bool) → List A → Bool
  any test [] = false
  any test (x ∷ xs) = test x || any test xs

  -- all pass
  abbrev pub every : (A → Bool) → List A → Bool
  every test [] = true
  every test (x ∷ xs) = test x && every test xs

  -- the sum of what each counts
  abbrev pub sum : (A → ℕ) → List A → ℕ
  sum count [] = 0
  sum count (x ∷ xs) = count x + sum count xs

module _ {A B : Type 0} where
  -- what each gives, one after another
  abbrev pub flat : (A → List B) → List A → List B
  flat f [] = []
  flat f (x ∷ xs) = f x ++ flat f xs
