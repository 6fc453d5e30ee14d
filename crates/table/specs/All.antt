-- What reading all tables side by side answers and leaves in memory. texts are the tables' bytes, lines and facts are their rows of
-- the two arrays, counts how many records each has, k is a table, counted from 0. Assumes nothing.
use Rattle.std.specs.Prelude.{◌≡◌, List, [], ℕ, ◌<◌, length, get_or}
use Rattle.rules.specs.Codes.{accepted as good}
use Rattle.rules.specs.Line.{Row}
use Rattle.rules.specs.Table.{readable, verdict}
use Rattle.rules.specs.Calls.{Outcome, not_read, once_all_read}
use Rattle.facts.specs.Memory.{TABLES}
use Rattle.std.specs.Prelude.{Result, Ok, Err}
use Rattle.rules.specs.Kinds.{fault_code}
use Rattle.table.specs.declared.Refusal.{Refusal}
use Rattle.table.specs.Read.{told, Reads}

-- the first refused table: code, table, line; all 0 where every table was read
pub record Refused : Type 0 where
  pub code : ℕ
  pub table : ℕ
  pub line : ℕ

-- as the code answers it
abbrev pub refused_by : Result Unit Refusal → Refused
refused_by (Ok read) = record { code = good; table = 0; line = 0 }
refused_by (Err z) = record { code = fault_code z.why.fault; table = z.table; line = z.why.line }

-- every text is a table: memory holds them, and a call that reads them all goes on with them
pub record AllRead (texts lines facts : List (List ℕ)) (counts : List ℕ) : Type 0 where
  pub tables : List (List Row)
  pub many : length tables ≡ TABLES
  pub is : (k : ℕ) → k < TABLES → verdict (get_or texts k []) ≡ readable (get_or tables k [])
  pub reads : (k : ℕ) → k < TABLES
      → Reads (get_or texts k []) (get_or lines k []) (get_or facts k []) (told good 0 (length (get_or tables k [])))
  pub counted : (k : ℕ) → k < TABLES → get_or counts k 0 ≡ length (get_or tables k [])
  pub all : (next : List (List Row) → Outcome) → once_all_read 1 texts next ≡ next tables

-- "stops at the first refused table"
pub record ReadsAll (texts lines facts : List (List ℕ)) (counts : List ℕ) (z : Refused) : Type 0 where
  pub refused : (z.code ≡ good → ⊥) → (next : List (List Row) → Outcome)
      → once_all_read 1 texts next ≡ not_read z.table z.code z.line
  pub accepted : z.code ≡ good → AllRead texts lines facts counts
