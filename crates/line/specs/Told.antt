-- What is told of one line: its row with the place of its content, or its fault; and the place that is reached by reading it. l is a line
-- without its LF, `rest` what is left of a text from a line's start on. Assumes nothing.
use Rattle.std.specs.Prelude.{cond, List, ℕ, ◌+◌, ◌-◌, eqb, length, drop, Result, Ok, Err}
use Rattle.rules.specs.Codes.{accepted, byte_not_allowed, few_tabs, bad_number, bad_parent}
use Rattle.rules.specs.Kinds.{fault_code}
use Rattle.rules.specs.Text.{LF, before}
use Rattle.rules.specs.Line.{row_of, content_part, line_fault}
use Rattle.rules.specs.declared.kinds.Fault.{Fault}
use Rattle.rules.specs.declared.kinds.Fault.TheVariants.{ByteNotAllowed, FewTabs, BadNumber, BadParent, BadContent}
use Rattle.line.specs.declared.Line.{Line}
use Rattle.line.specs.declared.Reached.{Reached}
use Rattle.line.specs.declared.LineReader.{LineReader}

-- a good line: its row, where its content starts in the line and how long it is; and the place behind its LF
abbrev pub good : List ℕ → Reached
good l =
    record {
      line = record {
        number = record { number = (row_of l).number };
        parent = record { number = (row_of l).parent };
        start = length l - length (content_part l);
        length = length (content_part l);
      };
      at = length l + 1;
    }

-- the fault with a code of 4 to 8
abbrev pub fault_of : ℕ → Fault
fault_of code =
    cond (eqb code byte_not_allowed) ByteNotAllowed
    (cond (eqb code few_tabs) FewTabs
    (cond (eqb code bad_number) BadNumber
    (cond (eqb code bad_parent) BadParent BadContent)))

-- a line without a fault is told by its row, another by its fault
unfoldable pub line_told : List ℕ → Result Reached Fault
line_told l = cond (eqb (line_fault l) accepted) (Ok (good l)) (Err (fault_of (line_fault l)))

-- the code that is told: 0 for a line
abbrev pub code_told : Result Reached Fault → ℕ
code_told (Ok reached) = accepted
code_told (Err fault) = fault_code fault

-- the line that what is left of a text starts with, and the place behind it there
abbrev pub next_line : List ℕ → Result Reached Fault
next_line rest = line_told (before LF rest)

-- what is told of what is left from a place on, with the place reached as one of the text
abbrev pub from_place : ℕ → Result Reached Fault → Result Reached Fault
from_place place (Ok reached) = Ok (record { line = reached.line; at = place + reached.at })
from_place place (Err fault) = Err fault

-- the line at a place of a text, and the place behind it in the text
abbrev pub reached_from : List ℕ → ℕ → Result Reached Fault
reached_from text place = from_place place (next_line (drop place text))

-- ---- a reader

abbrev pub line_in : Result Reached Fault → Result Line Fault
line_in (Ok reached) = Ok reached.line
line_in (Err fault) = Err fault

-- a faulty line is not passed
abbrev pub place_after : ℕ → Result Reached Fault → ℕ
place_after place (Ok reached) = reached.at
place_after place (Err fault) = place

-- the line at a reader's place, and the reader behind it: the same text, and the place reached
abbrev pub line_of : LineReader → Result Line Fault
line_of reader = line_in (reached_from reader.text.now reader.at)

abbrev pub moved_on : LineReader → LineReader
moved_on reader = record { text = reader.text; at = place_after reader.at (reached_from reader.text.now reader.at) }
