-- Edits of any kind by the table that has them: of several lists of facts the first is old's and the others are the branches', each
-- known by its number. x is a fact, k a table's number. Assumes nothing.
use mathlib.Core.Path.{◌≡◌, refl, sym, subst}
use mathlib.Core.Bool.{Bool}
use mathlib.Core.List.Memᴰ
use mathlib.Core.List.Memᴰ.{head as here}
use mathlib.Core.List.Memᴰ.{tail as there}
use mathlib.Core.List.{List, [], ◌∷◌, map}
use Prim.Native.Nat.{ℕ, zero, suc, ◌<◌}
use native.Mathlib.Omega.{arith}
use lib.ListN.{length, get_or}
use Rattle.rules.specs.Lists.{◌∈◌}
use Rattle.rules.specs.Facts.{edits}
use Rattle.trees.proofs.Kept.{Tells, edit_in, edit_from}
use Rattle.facts.specs.Memory.{BRANCHES}
use Rattle.edits.proofs.Branches.{IsBranch}

module _ {A : Type 0} where
  -- what stands at a place of a list is in it
  pub at_in : (xs : List A) (j : ℕ) (d : A) → j < length xs → get_or xs j d ∈ xs
  at_in [] j d h = absurd (omega arith)
  at_in (x ∷ xs) zero d h = here refl
  at_in (x ∷ xs) (suc j) d h = there (at_in xs j d (omega arith))

  -- and what is in it stands at a place
  pub in_at : (xs : List A) (x d : A) → x ∈ xs → (j : ℕ) × (j < length xs) × (get_or xs j d ≡ x)
  in_at [] x d m = absurd (Memᴰ.not-nil m)
  in_at (y ∷ xs) x d (here e) = (0, omega arith, sym e)
  in_at (y ∷ xs) x d (there m) = let w = in_at xs x d m in (suc w.0, omega (arith, w.1), w.2)

-- what stands in a mapped list
pub at_map : {A B : Type 0} (f : A → B) (xs : List A) (j : ℕ) (d : A) (e : B) → j < length xs → get_or (map f xs) j e ≡ f (get_or xs j d)
at_map f [] j d e h = absurd (omega arith)
at_map f (x ∷ xs) zero d e h = refl
at_map f (x ∷ xs) (suc j) d e h = at_map f xs j d e (omega arith)

module _ {A : Type 0} {same : A → A → Bool} (tells : Tells same) (old : List A) (branches : List (List A))
    (many : length branches ≡ BRANCHES) where
  -- an edit of branch k
  abbrev pub EditOf : ℕ → A → Type 0
  EditOf k x = IsBranch k × (x ∈ get_or (old ∷ branches) k []) × (x ∈ old → ⊥)

  pub edit_of : (k : ℕ) (x : A) → EditOf k x → x ∈ edits same old branches
  edit_of zero x (b, m, h) = absurd (omega (arith, b.0))
  edit_of (suc j) x (b, m, h) = edit_in tells old branches x (get_or branches j []) (at_in branches j [] (omega (arith, b.1, many))) m h

  pub edit_out : (x : A) → x ∈ edits same old branches → (k : ℕ) × EditOf k x
  edit_out x m =
      let w = edit_from tells old branches x m in
      let j = in_at branches w.0 [] w.1 in
      (suc j.0, ((omega arith, omega (arith, j.1, many)), subst (λ (l : List A). x ∈ l) (sym j.2) w.2, w.3))
