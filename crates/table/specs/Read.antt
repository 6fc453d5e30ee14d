-- What reading a table into memory answers and leaves there. text is the table's bytes, ls and fs are the two arrays after the call, t
-- is its rows, n a number, l what is told of a line. Assumes nothing.
use Rattle.std.specs.Prelude.{◌≡◌, true, cond, not, List, [], ℕ, ◌<◌, ◌≤◌, leb, length, get_or, Result, Ok, Err}
use Rattle.rules.specs.Limits.{LINES, BYTES}
use Rattle.rules.specs.Codes.{accepted, too_many_lines, number_twice, parent_missing}
use Rattle.rules.specs.Lists.{◌∈◌}
use Rattle.rules.specs.Text.{ended}
use Rattle.rules.specs.Line.{Row}
use Rattle.rules.specs.Table.{numbers, Verdict, readable, unreadable, verdict}
use Rattle.rules.specs.Calls.{content_answer}
use Rattle.facts.specs.Memory.{TABLES, no_lines, no_facts, opened}
use Rattle.facts.specs.Asked.{has_in, list_in}
use Rattle.facts.specs.Holds.{Holds, part_at}
use Rattle.rules.specs.Kinds.{fault_code}
use Rattle.rules.specs.declared.kinds.Fault.{Fault}
use Rattle.line.specs.declared.Reached.{Reached}
use Rattle.table.specs.declared.Unreadable.{Unreadable}

-- what reading tells: code, line, count of records
pub record Read : Type 0 where
  pub code : ℕ
  pub line : ℕ
  pub count : ℕ

abbrev pub told : ℕ → ℕ → ℕ → Read
told code line count = record { code = code; line = line; count = count }

abbrev pub read_told : Verdict → Read
read_told (readable t) = told accepted 0 (length t)
read_told (unreadable code line) = told code line 0

-- as the code answers it
abbrev pub told_by : Result ℕ Unreadable → Read
told_by (Ok count) = told accepted 0 count
told_by (Err why) = told (fault_code why.fault) why.line 0

-- the same where the count is told elsewhere
abbrev pub counted : Result Unit Unreadable → ℕ → Read
counted (Ok read) count = told accepted 0 count
counted (Err why) count = told (fault_code why.fault) why.line 0

-- a text that 1 and 2 do not refuse, and memory that knows no line yet
pub record Begins (text ls fs : List ℕ) : Type 0 where
  pub short : length text ≤ BYTES
  pub whole : ended text ≡ true
  pub no_line : ls ≡ no_lines
  pub no_fact : fs ≡ opened no_facts

-- the answer is the verdict, and memory holds the facts of an accepted table: its positions, and where each content lies
pub record Reads (text ls fs : List ℕ) (answer : Read) : Type 0 where
  pub answered : answer ≡ read_told (verdict text)
  pub held : (t : List Row) → verdict text ≡ readable t → Holds ls fs t
  pub placed : (t : List Row) → verdict text ≡ readable t → (n : ℕ) → n ∈ numbers t → part_at ls fs n ≡ content_answer text n

-- of what was found, after lines whose numbers ls knows
abbrev pub fault_after : List ℕ → Result Reached Fault → ℕ
fault_after ls (Err fault) = fault_code fault
fault_after ls (Ok found) =
    cond (has_in ls found.line.number.number) number_twice
    (cond (not (list_in ls found.line.parent.number)) parent_missing accepted)

-- "the lowest code of 3 to 10 wins": of what was found after the first `count` lines
abbrev pub fault_in : List ℕ → ℕ → Result Reached Fault → ℕ
fault_in ls count found = cond (leb LINES count) too_many_lines (fault_after ls found)

-- ---- tables side by side

-- the place of table t is all zeros
pub record Unread (lines facts : List (List ℕ)) (t : ℕ) : Type 0 where
  pub place : t < TABLES
  pub no_line : get_or lines t [] ≡ no_lines
  pub no_fact : get_or facts t [] ≡ no_facts

-- table t is read into its place, and the other tables stay
pub record Fills (text : List ℕ) (lines facts : List (List ℕ)) (t : ℕ) (lines' facts' : List (List ℕ)) (answer : Read) : Type 0 where
  pub read : Reads text (get_or lines' t []) (get_or facts' t []) answer
  pub lines_stay : (u : ℕ) → (u ≡ t → ⊥) → get_or lines' u [] ≡ get_or lines u []
  pub facts_stay : (u : ℕ) → (u ≡ t → ⊥) → get_or facts' u [] ≡ get_or facts u []
