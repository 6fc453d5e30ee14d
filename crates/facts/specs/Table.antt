-- A table in memory as two arrays of numbers: a line for each number, and the eight facts of each line one behind the other, in Memory's
-- order. ls and fs are these arrays, l is a line. Assumes nothing.
use Rattle.std.specs.Prelude.{◌≡◌, List, [], ◌∷◌, ◌++◌, ℕ}
use Rattle.facts.specs.Memory.{NUMBER, PARENT, FORERUNNER, FOLLOWER, FIRST, LAST, PLACE, LENGTH, field_on}
use Rattle.facts.specs.declared.Facts.{Facts}
use Rattle.facts.specs.declared.Table.{Table}

abbrev pub cells : Facts → List ℕ
cells f =
    f.number.number ∷ f.parent.number ∷ f.forerunner.number ∷ f.follower.number ∷ f.first.number ∷ f.last.number ∷ f.place ∷ f.length ∷ []

abbrev pub flat : List Facts → List ℕ
flat [] = []
flat (f ∷ facts) = cells f ++ flat facts

abbrev pub lines_in : Table → List ℕ
lines_in t = t.lines

abbrev pub facts_in : Table → List ℕ
facts_in t = flat t.facts

-- what a line tells
pub record FactsAt (fs : List ℕ) (l : ℕ) (f : Facts) : Type 0 where
  pub number : f.number.number ≡ field_on fs l NUMBER
  pub parent : f.parent.number ≡ field_on fs l PARENT
  pub forerunner : f.forerunner.number ≡ field_on fs l FORERUNNER
  pub follower : f.follower.number ≡ field_on fs l FOLLOWER
  pub first : f.first.number ≡ field_on fs l FIRST
  pub last : f.last.number ≡ field_on fs l LAST
  pub place : f.place ≡ field_on fs l PLACE
  pub length : f.length ≡ field_on fs l LENGTH
