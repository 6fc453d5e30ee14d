-- Tables side by side: what one of them has is what the list of all has at its number; and a loop over the branches meets table 1 first,
-- and
-- then one after the other: i is how many it has passed. Assumes nothing.
use Rattle.std.proofs.Common.{◌≡◌, refl, List, [], ◌∷◌, map, length, ℕ, zero, suc, ◌+◌, ◌<◌, arith, get_or}
use Rattle.facts.specs.Memory.{BRANCHES}
use Rattle.facts.specs.declared.inputs.Side.{Side}

pub branch_at : (a b d : Side) (i : ℕ) → i < BRANCHES → a.index ≡ 1 → b.index ≡ 2 → (get_or (a ∷ b ∷ []) i d).index ≡ i + 1
branch_at a b d zero h f g = f
branch_at a b d (suc zero) h f g = g
branch_at a b d (suc (suc i)) h f g = absurd (omega (arith, h))

pub get_or-map_in : {A B : Type 0} (f : A → B) (xs : List A) (t : ℕ) (d : A) (e : B) → t < length xs
    → get_or (map f xs) t e ≡ f (get_or xs t d)
get_or-map_in f [] t d e h = absurd (omega (arith, h))
get_or-map_in f (x ∷ xs) zero d e h = refl
get_or-map_in f (x ∷ xs) (suc t) d e h = get_or-map_in f xs t d e (omega (arith, h))
