-- Whether the lines of a table in memory stand in written order. fs is the array of facts, t is the table's rows. Assumes nothing.
use Rattle.std.specs.Prelude.{◌≡◌, List, [], ◌∷◌, ◌++◌, ℕ, zero, suc, length}
use Rattle.rules.specs.Line.{Row}
use Rattle.rules.specs.Tree.{numbers_in, tree_of}
use Rattle.facts.specs.Memory.{NUMBER, field_on}

-- the numbers on the first lines behind the top's
abbrev pub numbers_to : List ℕ → ℕ → List ℕ
numbers_to fs zero = []
numbers_to fs (suc l) = numbers_to fs l ++ (field_on fs (suc l) NUMBER ∷ [])

-- "a record first, then its children in order, each with all below it"
abbrev pub InWrittenOrder : List ℕ → List Row → Type 0
InWrittenOrder fs t = numbers_to fs (length t) ≡ numbers_in (tree_of t)
