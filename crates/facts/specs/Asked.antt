-- What code asks of one table, as functions of its two arrays; 0 is the answer "none", for the top is nobody's neighbour. ls and fs are
-- the arrays, n is a record, r a parent, p the one before, s the one after. Assumes nothing.
use Rattle.std.specs.Prelude.{Bool, cond, ◌&&◌, ◌||◌, List, ℕ, eqb, ltb}
use Rattle.rules.specs.Marks.{TOP, START, END}
use Rattle.facts.specs.Memory.{PARENT, FORERUNNER, FOLLOWER, FIRST, LAST, line_at, field}

pub record Asked : Type 0 where
  pub after : ℕ → ℕ → ℕ
  pub before : ℕ → ℕ → ℕ
  pub up : ℕ → ℕ
  pub has : ℕ → Bool

abbrev pub has_in : List ℕ → ℕ → Bool
has_in ls n = ltb 0 (line_at ls n)

-- a record has a list, and so has the top
abbrev pub list_in : List ℕ → ℕ → Bool
list_in ls r = eqb r TOP || has_in ls r

abbrev pub child_in : List ℕ → List ℕ → ℕ → ℕ → Bool
child_in ls fs r n = has_in ls n && eqb (field ls fs n PARENT) r

-- who follows p under r
abbrev pub after_in : List ℕ → List ℕ → ℕ → ℕ → ℕ
after_in ls fs r p =
    cond (eqb p START) (cond (list_in ls r) (field ls fs r FIRST) 0) (cond (child_in ls fs r p) (field ls fs p FOLLOWER) 0)

-- who stands before s under r
abbrev pub before_in : List ℕ → List ℕ → ℕ → ℕ → ℕ
before_in ls fs r s =
    cond (eqb s END) (cond (list_in ls r) (field ls fs r LAST) 0) (cond (child_in ls fs r s) (field ls fs s FORERUNNER) 0)

abbrev pub asked : List ℕ → List ℕ → Asked
asked ls fs = record { after = after_in ls fs; before = before_in ls fs; up = λ n. field ls fs n PARENT; has = has_in ls }
