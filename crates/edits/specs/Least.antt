-- The least of some places, which are records or parents; none if there is no place. Assumes nothing.
use Rattle.std.specs.Prelude.{Bool, cond, List, [], ◌∷◌, ℕ, zero, suc, min, Option, None, Some}
use Rattle.rules.specs.Merge.{least}
use Rattle.rules.specs.declared.record.Record.{Record}
use Rattle.facts.specs.Memory.{BRANCHES}

-- a place as a number
abbrev pub numbered : Option Record → Option ℕ
numbered None = None
numbered (Some n) = Some n.number

abbrev pub least_or_none : List ℕ → Option ℕ
least_or_none [] = None
least_or_none (x ∷ xs) = Some (least x xs)

-- n, if it is a place
abbrev pub place : Bool → ℕ → Option ℕ
place test n = cond test (Some n) None

abbrev pub lesser : Option ℕ → Option ℕ → Option ℕ
lesser None b = b
lesser (Some x) None = Some x
lesser (Some x) (Some y) = Some (min x y)

-- the least of the first m of some places
abbrev pub best : (ℕ → Option ℕ) → ℕ → Option ℕ
best f zero = None
best f (suc m) = lesser (best f m) (f m)

-- the least on all lines of all branches, the top's line included: f has the place of a branch's line, `counts` how many records a
-- table has
abbrev pub best_of : (ℕ → ℕ → Option ℕ) → (ℕ → ℕ) → Option ℕ
best_of f counts = best (λ k. best (f (suc k)) (suc (counts (suc k)))) BRANCHES
