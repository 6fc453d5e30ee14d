-- What is new on each line of each branch, noted once. texts, lines and facts are those of all tables, `counts` how many records each has,
-- marks the marks of their lines; ls and fs are the arrays of one table. n is a record, i a line, k a table. Assumes nothing.
use Rattle.std.specs.Prelude.{◌≡◌, Bool, not, cond, List, [], map, ℕ, ◌%◌, ◌<◌, ◌≤◌, eqb, get_or, Option, None}
use Rattle.rules.specs.Marks.{START}
use Rattle.facts.specs.Memory.{TABLES, NUMBER, line_at, field_on, field}
use Rattle.edits.specs.Memory.{number_on, unmoved}
use Rattle.contents.specs.Contents.{fresh_content}
use Rattle.contents.specs.Memory.{tell}
use Rattle.contents.specs.declared.marks.Mark.{Mark}

-- ---- lines and numbers of a table fit together

pub record LinedTable (ls fs : List ℕ) (count : ℕ) : Type 0 where
  pub on_line_lem : (i : ℕ) → i ≤ count → line_at ls (field_on fs i NUMBER) ≡ i
  -- the number on the line of a record is the record
  pub named : (n : ℕ) → 0 < line_at ls n → field ls fs n NUMBER ≡ n
  pub few : (n : ℕ) → line_at ls n ≤ count
  -- a record or the top, and neither START nor END
  pub low : (i : ℕ) → i ≤ count → field_on fs i NUMBER < START

pub record Lined (lines facts : List (List ℕ)) (counts : List ℕ) : Type 0 where
  pub tables : (k : ℕ) → k < TABLES → LinedTable (get_or lines k []) (get_or facts k []) (get_or counts k 0)

-- ---- marks

-- 1 for an edit of the content, and 2 for a position that is not old's
abbrev pub mark_of : Bool → Bool → ℕ
mark_of edit alike = cond alike (cond edit 1 0) (cond edit 3 2)

abbrev pub mark_on : List (List ℕ) → List (List ℕ) → List (List ℕ) → ℕ → ℕ → ℕ
mark_on texts lines facts k i =
    mark_of (fresh_content (tell texts lines facts) k (number_on facts k i)) (unmoved lines facts k (number_on facts k i))

-- a mark as a number, and those of the lines of one table and of all
abbrev pub mark_number : Mark → ℕ
mark_number m = mark_of m.content (not m.position)

abbrev pub row_of_marks : List Mark → List ℕ
row_of_marks row = map mark_number row

abbrev pub marks_of : List (List Mark) → List (List ℕ)
marks_of marks = map row_of_marks marks

-- the lines of branch k up to `count` are marked
pub record MarkedTable (texts lines facts : List (List ℕ)) (k count : ℕ) (row : List ℕ) : Type 0 where
  pub on : (i : ℕ) → i ≤ count → get_or row i 0 ≡ mark_on texts lines facts k i

pub record Marked (texts lines facts : List (List ℕ)) (counts : List ℕ) (marks : List (List ℕ)) : Type 0 where
  pub branches : (k : ℕ) → 0 < k → k < TABLES → MarkedTable texts lines facts k (get_or counts k 0) (get_or marks k [])

-- the places that `at` has for the lines of the branches: none where nothing is marked
abbrev pub NoneUnmarked : (ℕ → ℕ → Option ℕ) → List (List ℕ) → List ℕ → Type 0
NoneUnmarked at marks counts =
    (k i : ℕ) → 0 < k → k < TABLES → i ≤ get_or counts k 0 → get_or (get_or marks k []) i 0 ≡ 0 → at k i ≡ None

-- ---- edits of contents, read off the marks

abbrev pub edited_in : List (List ℕ) → List (List ℕ) → ℕ → ℕ → Bool
edited_in lines marks k n = eqb (get_or (get_or marks k []) (line_at (get_or lines k []) n) 0 % 2) 1

-- they are those of the branches
pub record Noted (texts lines facts marks : List (List ℕ)) : Type 0 where
  pub edits : (k : ℕ) → 0 < k → k < TABLES → (n : ℕ) → edited_in lines marks k n ≡ fresh_content (tell texts lines facts) k n
