-- One line, without its LF: `number␉parent␉content`. l is the line. Assumes nothing.
use Rattle.std.specs.Prelude.{Bool, cond, not, ◌&&◌, List, ℕ, leb, ltb}
use Rattle.rules.specs.Limits.{GREATEST}
use Rattle.rules.specs.Codes.{accepted, byte_not_allowed, few_tabs, bad_number, bad_parent, bad_content}
use Rattle.rules.specs.Lists.{every}
use Rattle.rules.specs.Marks.{is_record}
use Rattle.rules.specs.Text.{TAB, allowed, count, before, after, decimal, value, content_ok}

-- "Contents are equal when their bytes are."
abbrev pub Content : Type 0
Content = List ℕ

-- a record as a table has it
pub record Row : Type 0 where
  pub number : ℕ
  pub parent : ℕ
  pub content : Content

-- ---- the parts of a line

abbrev pub number_part : List ℕ → List ℕ
number_part l = before TAB l

abbrev pub parent_part : List ℕ → List ℕ
parent_part l = before TAB (after TAB l)

abbrev pub content_part : List ℕ → List ℕ
content_part l = after TAB (after TAB l)

abbrev pub row_of : List ℕ → Row
row_of l = record { number = value (number_part l); parent = value (parent_part l); content = content_part l }

-- ---- the rules of each part

-- "Number: decimal 1 to 65,535, no leading zero"
abbrev pub number_ok : List ℕ → Bool
number_ok s = decimal s && is_record (value s)

-- "Parent: decimal 0 to 65,535, no leading zero"
abbrev pub parent_ok : List ℕ → Bool
parent_ok s = decimal s && leb (value s) GREATEST

-- the lowest of codes 4 to 8 that the line has, or 0
abbrev pub line_fault : List ℕ → ℕ
line_fault l =
    cond (not (every allowed l)) byte_not_allowed
    (cond (ltb (count TAB l) 2) few_tabs
    (cond (not (number_ok (number_part l))) bad_number
    (cond (not (parent_ok (parent_part l))) bad_parent
    (cond (not (content_ok (content_part l))) bad_content accepted))))
