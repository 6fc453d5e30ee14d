-- When memory holds the positions of a table: its lists hang together there, and nothing else is known. t is the table's rows, ls and
-- fs are the two arrays, n is a record, r a parent, p the one before. Assumes nothing.
use Rattle.std.specs.Prelude.{◌≡◌, List, [], ◌∷◌, ℕ, ◌<◌, ◌≤◌, length}
use Rattle.rules.specs.Lists.{◌∈◌}
use Rattle.rules.specs.Marks.{TOP, START, END}
use Rattle.rules.specs.Line.{Row}
use Rattle.rules.specs.Table.{numbers}
use Rattle.rules.specs.Tree.{child_numbers}
use Rattle.rules.specs.declared.answers.Part.{Part}
use Rattle.facts.specs.Memory.{NUMBER, PARENT, FORERUNNER, LAST, PLACE, LENGTH, line_at, field, who, way, field_on}

-- the children of r from p on hang together, both ways, up to the end
abbrev pub Strung : (ℕ → ℕ → ℕ) → ℕ → ℕ → List ℕ → Type 0
Strung get r p [] = (get (who r p) (way p) ≡ END) × (get r LAST ≡ p)
Strung get r p (n ∷ ns) = (get (who r p) (way p) ≡ n) × (get n FORERUNNER ≡ p) × (get n PARENT ≡ r) × Strung get r n ns

pub record Holds (ls fs : List ℕ) (t : List Row) : Type 0 where
  pub strung : (r : ℕ) → r ∈ TOP ∷ numbers t → Strung (field ls fs) r START (child_numbers r t)
  pub named : (n : ℕ) → n ∈ TOP ∷ numbers t → field ls fs n NUMBER ≡ n
  -- a number has a line exactly if it is there
  pub known : (n : ℕ) → n ∈ numbers t → 0 < line_at ls n
  pub only : (n : ℕ) → 0 < line_at ls n → n ∈ numbers t
  pub few : (n : ℕ) → line_at ls n ≤ length t
  pub lined : (l : ℕ) → l ≤ length t → line_at ls (field_on fs l NUMBER) ≡ l
  -- a parent stands on an earlier line
  pub earlier : (n : ℕ) → n ∈ numbers t → line_at ls (field ls fs n PARENT) < line_at ls n

-- where the content of n lies in its text
abbrev pub part_at : List ℕ → List ℕ → ℕ → Part
part_at ls fs n = record { start = field ls fs n PLACE; length = field ls fs n LENGTH }
