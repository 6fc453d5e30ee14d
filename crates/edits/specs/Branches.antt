-- The branches are the tables from number 1 on; table 0 is old. k is a table, m a count of tables. Assumes nothing.
use Rattle.std.specs.Prelude.{Bool, true, cond, ◌&&◌, ℕ, zero, suc, ◌+◌}
use Rattle.facts.specs.Memory.{BRANCHES}

-- the first of m tables from k on that passes; 0 if none does
abbrev pub first_from : (ℕ → Bool) → ℕ → ℕ → ℕ
first_from test k zero = 0
first_from test k (suc m) = cond (test k) k (first_from test (suc k) m)

abbrev pub first_branch : (ℕ → Bool) → ℕ
first_branch test = first_from test 1 BRANCHES

-- whether all of them pass
abbrev pub all_from : (ℕ → Bool) → ℕ → ℕ → Bool
all_from test k zero = true
all_from test k (suc m) = test k && all_from test (suc k) m

abbrev pub all_branches : (ℕ → Bool) → Bool
all_branches test = all_from test 1 BRANCHES

-- the sum of the numbers of those that pass
abbrev pub sum_from : (ℕ → Bool) → ℕ → ℕ → ℕ
sum_from test k zero = 0
sum_from test k (suc m) = cond (test k) k 0 + sum_from test (suc k) m

abbrev pub sum_branches : (ℕ → Bool) → ℕ
sum_branches test = sum_from test 1 BRANCHES
