-- 25: edits that the merged table lacks, read off what the tables answer and tell: q k and w k are asked of table k, table 0 being old, and
-- m of the merged table. r is a parent, p the one before, n a record, k a branch. Assumes nothing.
use Rattle.std.specs.Prelude.{Bool, not, ◌&&◌, List, ℕ, eqb, get_or, Option}
use Rattle.rules.specs.Marks.{START}
use Rattle.facts.specs.Asked.{Asked, asked}
use Rattle.edits.specs.Least.{place, lesser, best_of}
use Rattle.edits.specs.Memory.{ask, number_on}
use Rattle.edits.specs.Positions.{fresh_after}
use Rattle.contents.specs.Contents.{Told, fresh_content}
use Rattle.contents.specs.Memory.{tell}

module _ (q : ℕ → Asked) (m : Asked) where
  -- the edit of who follows p
  abbrev pub lost_after : ℕ → ℕ → ℕ → Bool
  lost_after k r p = fresh_after q k r p && not (eqb ((q k).after r p) (m.after r p))

  -- what shows at record n of branch k: an edit behind it, or at the start of its list
  abbrev pub lost_position : ℕ → ℕ → Option ℕ
  lost_position k n = lesser (place (lost_after k ((q k).up n) n) ((q k).up n)) (place (lost_after k n START) n)

-- a new content of a record that is not there
abbrev pub lost_content : (ℕ → Told) → (ℕ → Bool) → ℕ → ℕ → Option ℕ
lost_content w has k n = place (not (has n) && fresh_content w k n) n

abbrev pub lost_place : (ℕ → Asked) → (ℕ → Told) → Asked → ℕ → ℕ → Option ℕ
lost_place q w m k n = lesser (lost_position q m k n) (lost_content w m.has k n)

-- ---- in memory: ls and fs are the arrays of the merged table, `counts` has how many records each table has

module _ (texts lines facts : List (List ℕ)) (ls fs : List ℕ) where
  -- on line i of branch k
  abbrev pub lost_on : ℕ → ℕ → Option ℕ
  lost_on k i = lost_place (ask lines facts) (tell texts lines facts) (asked ls fs) k (number_on facts k i)

  -- the least on all lines of all branches
  abbrev pub all_lost : List ℕ → Option ℕ
  all_lost counts = best_of lost_on (λ k. get_or counts k 0)
