-- A whole table: which text is read, with which rows, and which is refused, with which code and line. `seen` are the rows of the
-- lines so far. Assumes nothing.
use Rattle.std.specs.Prelude.{Bool, cond, not, ◌&&◌, List, [], ◌∷◌, ◌++◌, map, ℕ, ◌+◌, eqb, leb, ltb, length}
use Rattle.rules.specs.Limits.{LINES, BYTES}
use Rattle.rules.specs.Codes.{accepted, text_too_long, unended, too_many_lines, number_twice, parent_missing}
use Rattle.rules.specs.Lists.{any}
use Rattle.rules.specs.Marks.{TOP}
use Rattle.rules.specs.Text.{LF, count, lines, ended}
use Rattle.rules.specs.Line.{Row, row_of, line_fault}

abbrev pub numbers : List Row → List ℕ
numbers t = map (λ (x : Row). x.number) t

-- the number stands on one of these lines
abbrev pub stands : ℕ → List Row → Bool
stands n seen = any (λ (m : ℕ). eqb m n) (numbers seen)

-- "the lowest code of 3 to 10 wins", or 0
abbrev pub fault : List Row → List ℕ → ℕ
fault seen l =
    cond (leb LINES (length seen)) too_many_lines
    (cond (not (eqb (line_fault l) accepted)) (line_fault l)
    (cond (stands (row_of l).number seen) number_twice
    (cond (not (eqb (row_of l).parent TOP) && not (stands (row_of l).parent seen)) parent_missing accepted)))

pub data Verdict : Type 0 where
  -- accepted, with its rows in line order
  readable : List Row → Verdict
  -- refused, with its code and line
  unreadable : ℕ → ℕ → Verdict

-- "then the first faulty line"
abbrev pub read_lines : List Row → List (List ℕ) → Verdict
read_lines seen [] = readable seen
read_lines seen (l ∷ ls) =
    cond (eqb (fault seen l) accepted) (read_lines (seen ++ (row_of l ∷ [])) ls) (unreadable (fault seen l) (length seen + 1))

-- "codes 1 and 2 for the whole text" come first; the place of 2 is the unended line
abbrev pub verdict : List ℕ → Verdict
verdict text =
    cond (ltb BYTES (length text)) (unreadable text_too_long 0)
    (cond (not (ended text)) (unreadable unended (count LF text + 1))
    (read_lines [] (lines text)))
