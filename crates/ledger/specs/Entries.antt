-- The ledger of a table in memory: where its lines come from, by the table's records and by the lines of memory, and what writing it asks.
-- ls and fs are the two arrays, n is a record, l a line, t is the table's rows. Assumes nothing.
use Rattle.std.specs.Prelude.{◌≡◌, List, [], ◌∷◌, ◌++◌, map, ℕ, zero, suc, ◌+◌, ◌<◌, ◌≤◌, length, get_or}
use Rattle.rules.specs.Limits.{LINES, BYTES}
use Rattle.rules.specs.Lists.{sum}
use Rattle.rules.specs.Quoted.{bytes as bytes_of}
use Rattle.rules.specs.Marks.{TOP}
use Rattle.rules.specs.Text.{TAB, LF}
use Rattle.rules.specs.Line.{Row}
use Rattle.rules.specs.Tree.{rows, tree_of}
use Rattle.rules.specs.Written.{digits}
use Rattle.rules.specs.Ledger.{Entry, ledger}
use Rattle.facts.specs.Memory.{NUMBER, PLACE, LENGTH, origin_of, field_on, field}
use Rattle.facts.specs.Table.{FactsAt}
use Rattle.facts.specs.declared.Facts.{Facts}

-- what the lines of so many records tell, in turn; `none` stands for what is read past the last, and may be anything
pub record Told (fs : List ℕ) (count : ℕ) (lines : List Facts) : Type 0 where
  pub many : length lines ≡ count
  pub each : (l : ℕ) (none : Facts) → l < count → FactsAt fs (l + 1) (get_or lines l none)

-- the entry of a record: its place names the origin of its content
abbrev pub entry_at : List ℕ → List ℕ → ℕ → Entry
entry_at ls fs n = record { number = n; origin = origin_of (field ls fs n PLACE); bytes = field ls fs n LENGTH }

-- "One line for each merged record in written order"
abbrev pub entries_in : List ℕ → List ℕ → List Row → List Entry
entries_in ls fs t = map (λ (x : Row). entry_at ls fs x.number) (rows TOP (tree_of t))

-- the entry that a line's facts tell
abbrev pub entry_of : Facts → Entry
entry_of f = record { number = f.number.number; origin = origin_of f.place; bytes = f.length }

-- the entry of the record on a line
abbrev pub entry_on : List ℕ → ℕ → Entry
entry_on fs l = record { number = field_on fs l NUMBER; origin = origin_of (field_on fs l PLACE); bytes = field_on fs l LENGTH }

-- those of the first lines behind the top's; where the lines stand in written order, they are the table's
abbrev pub entries_to : List ℕ → ℕ → List Entry
entries_to fs zero = []
entries_to fs (suc l) = entries_to fs l ++ (entry_on fs (suc l) ∷ [])

-- "the sums over the origin tables"
abbrev pub bytes_in : List Entry → ℕ
bytes_in es = sum (λ (e : Entry). e.bytes) es

-- the two numbers that every line of a ledger ends with
abbrev pub line_end : ℕ → ℕ → List ℕ
line_end a b = digits a ++ (TAB ∷ (digits b ++ (LF ∷ [])))

-- `total␉records␉bytes`
abbrev pub total_of : ℕ → ℕ → List ℕ
total_of records bytes = bytes_of "total" ++ (TAB ∷ line_end records bytes)

-- so many lines have so many content bytes, within the limits, and there is room for their ledger
pub record LedgerReady (fs : List ℕ) (count bytes room : ℕ) : Type 0 where
  pub total : bytes ≡ bytes_in (entries_to fs count)
  pub few : count ≤ LINES
  pub short : bytes ≤ BYTES
  pub fits : length (ledger (entries_to fs count)) ≤ room
