-- The tables side by side in memory, and what is asked of table k there. lines and facts are the arrays of the tables' arrays, fs and old
-- arrays of facts; n is a record, i a line or a field, l and o are lines. Assumes nothing.
use Rattle.std.specs.Prelude.{Bool, not, ◌&&◌, ◌||◌, List, [], ℕ, eqb, get_or}
use Rattle.facts.specs.Memory.{NUMBER, PARENT, FORERUNNER, FOLLOWER, FIRST, LAST, line_at, field_on, field}
use Rattle.facts.specs.Asked.{Asked, asked, has_in}

abbrev pub ask : List (List ℕ) → List (List ℕ) → ℕ → Asked
ask lines facts k = asked (get_or lines k []) (get_or facts k [])

-- the number on a line of table k
abbrev pub number_on : List (List ℕ) → ℕ → ℕ → ℕ
number_on facts k i = field_on (get_or facts k []) i NUMBER

-- a field of a record's line in table k
abbrev pub field_in : List (List ℕ) → List (List ℕ) → ℕ → ℕ → ℕ → ℕ
field_in lines facts k n i = field (get_or lines k []) (get_or facts k []) n i

-- ---- a position that is old's

abbrev pub same_field : List ℕ → List ℕ → ℕ → ℕ → ℕ → Bool
same_field fs old l o i = eqb (field_on fs l i) (field_on old o i)

-- the parent on both lines is one, and so are the neighbours and the ends of the list
abbrev pub alike_on : List ℕ → List ℕ → ℕ → ℕ → Bool
alike_on fs old l o =
    same_field fs old l o PARENT
    && (same_field fs old l o FORERUNNER && (same_field fs old l o FOLLOWER && (same_field fs old l o FIRST && same_field fs old l o LAST)))

-- as in old: the record stands where it stood there, and its list begins and ends as there
abbrev pub unmoved : List (List ℕ) → List (List ℕ) → ℕ → ℕ → Bool
unmoved lines facts k n =
    (not (has_in (get_or lines k []) n) || has_in (get_or lines 0 []) n)
    && alike_on (get_or facts k []) (get_or facts 0 []) (line_at (get_or lines k []) n) (line_at (get_or lines 0 []) n)
