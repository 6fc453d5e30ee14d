-- The tables side by side in memory. texts, lines and facts are those of all tables, old and branches their rows; n is a record, k a table.
-- Assumes nothing.
use Rattle.std.specs.Prelude.{◌≡◌, List, [], ◌∷◌, ℕ, ◌<◌, length, get_or}
use Rattle.rules.specs.Lists.{◌∈◌}
use Rattle.rules.specs.Line.{Row}
use Rattle.rules.specs.Table.{numbers}
use Rattle.facts.specs.Memory.{TABLES, BRANCHES, PLACE, SPAN}
use Rattle.edits.specs.Memory.{field_in}
use Rattle.write.specs.Stored.{Stored}

-- each has its own text
pub record SideBySide (texts lines facts : List (List ℕ)) (old : List Row) (branches : List (List Row)) : Type 0 where
  pub many : length branches ≡ BRANCHES
  pub stored : (k : ℕ) → k < TABLES
      → Stored (get_or texts k [] ∷ []) (get_or lines k []) (get_or facts k []) (get_or (old ∷ branches) k [])
  -- as a table just read has them
  pub low : (k : ℕ) → k < TABLES → (n : ℕ) → n ∈ numbers (get_or (old ∷ branches) k [])
      → field_in lines facts k n PLACE < SPAN
