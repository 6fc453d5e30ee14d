-- The ordered tree of records that a table stands for, its written form, and depth. t is a table's rows. Assumes nothing.
use Rattle.std.specs.Prelude.{cond, List, [], ◌∷◌, ◌++◌, ℕ, zero, suc, max, eqb}
use Rattle.rules.specs.Lists.{keep}
use Rattle.rules.specs.Marks.{TOP}
use Rattle.rules.specs.Line.{Content, Row}
use Rattle.rules.specs.Table.{numbers}

-- the records of one list, in order: none, or a first one (its number, its content, the records under it) and those after it
pub data Tree : Type 0 where
  empty : Tree
  node : ℕ → Content → Tree → Tree → Tree

-- the numbers of a tree's records
abbrev pub numbers_in : Tree → List ℕ
numbers_in empty = []
numbers_in (node n c below after) = n ∷ (numbers_in below ++ numbers_in after)

-- "The written form puts a record first, then its children in order, each with all below it"
abbrev pub rows : ℕ → Tree → List Row
rows r empty = []
rows r (node n c below after) = record { number = n; parent = r; content = c } ∷ (rows n below ++ rows r after)

-- ---- the tree of a table

-- "Children of a parent stand in line order."
abbrev pub children_of : ℕ → List Row → List Row
children_of r t = keep (λ (x : Row). eqb x.parent r) t

abbrev pub child_numbers : ℕ → List Row → List ℕ
child_numbers r t = numbers (children_of r t)

-- more steps than there are numbers, so that no way through a tree is longer
abbrev pub STEPS : ℕ
STEPS = 65536

-- these rows of t as records of one list, each with all below it, as far as k steps go
unfoldable pub hang : ℕ → List Row → List Row → Tree
hang zero t list = empty
hang (suc k) t [] = empty
hang (suc k) t (x ∷ list) = node x.number x.content (hang k t (children_of x.number t)) (hang k t list)

-- the tree whose first list is the top's
unfoldable pub tree_of : List Row → Tree
tree_of t = hang STEPS t (children_of TOP t)

-- ---- depth

-- "A record's depth is one more than its parent's, the top having depth 0": of record n, by climbing to its parent on an earlier
-- line. `above` are the lines up to n's, the nearest first.
abbrev pub depth : List Row → ℕ → ℕ
depth [] n = 0
depth (x ∷ above) n = cond (eqb x.number n) (suc (depth above x.parent)) (depth above n)

-- the greatest depth of the lines t, those before them being `above`
abbrev pub greatest_from : List Row → List Row → ℕ
greatest_from above [] = 0
greatest_from above (x ∷ t) = max (depth (x ∷ above) x.number) (greatest_from (x ∷ above) t)

-- "greatest depth (0 for an empty table)"
abbrev pub greatest_depth : List Row → ℕ
greatest_depth t = greatest_from [] t
