-- The depth of the record on a line, by climbing to its parent's line, which is an earlier one. ls and fs are a table's arrays, l is a
-- line, ds are the depths noted so far. Assumes nothing.
use Rattle.std.specs.Prelude.{◌≡◌, cond, List, ℕ, zero, suc, max, ◌<◌, ◌≤◌, eqb, get_or}
use Rattle.facts.specs.Memory.{ROOM, PARENT, line_at, field_on}

-- the line of the parent of the record on a line; 0 is the top's
abbrev pub up_line : List ℕ → List ℕ → ℕ → ℕ
up_line ls fs l = line_at ls (field_on fs l PARENT)

-- "one more than its parent's, the top having depth 0", as far as so many steps go
unfoldable pub climb : ℕ → List ℕ → List ℕ → ℕ → ℕ
climb zero ls fs l = 0
climb (suc steps) ls fs l = cond (eqb l 0) 0 (suc (climb steps ls fs (up_line ls fs l)))

-- a line's number falls at each step, so that it is steps enough
abbrev pub depth_on : List ℕ → List ℕ → ℕ → ℕ
depth_on ls fs l = climb (suc l) ls fs l

-- the greatest depth of the first lines
abbrev pub greatest_on : List ℕ → List ℕ → ℕ → ℕ
greatest_on ls fs zero = 0
greatest_on ls fs (suc l) = max (greatest_on ls fs l) (depth_on ls fs (suc l))

-- the line, and each one before it, has its parent on an earlier one
pub record Climbs (ls fs : List ℕ) (l : ℕ) : Type 0 where
  pub room : l < ROOM
  pub up : (k : ℕ) → 0 < k → k ≤ l → up_line ls fs k < k

-- a depth that is noted is the line's; 0 is none
pub record Noted (ls fs ds : List ℕ) : Type 0 where
  pub right : (l : ℕ) → 0 < get_or ds l 0 → get_or ds l 0 ≡ depth_on ls fs l
