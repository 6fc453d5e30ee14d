-- Edits, clashes and kept facts of positions, read off what the tables answer: q k is asked of table k, and table 0 is old. r is a parent,
-- p the one before, s the one after, n a record, o what old answers; 0 is the answer "none". Assumes nothing.
use Rattle.std.specs.Prelude.{Bool, not, ◌&&◌, ◌||◌, cond, ℕ, eqb, ltb, Option}
use Rattle.rules.specs.Marks.{TOP, START, END, is_record}
use Rattle.facts.specs.Asked.{Asked}
use Rattle.edits.specs.Branches.{first_branch, all_branches}
use Rattle.edits.specs.Least.{place, lesser}

-- "The edits are the facts of first or second that old lacks": somebody stands there, and it is not whom old has there
abbrev pub fresh : ℕ → ℕ → Bool
fresh o s = ltb 0 s && not (eqb s o)

-- in a table with these records: a record is known where it is; START and END are where the list is
abbrev pub knows : (ℕ → Bool) → ℕ → ℕ → Bool
knows has r n = cond (is_record n) (has n) (eqb r TOP || has r)

abbrev pub unknown : (ℕ → Bool) → ℕ → ℕ → ℕ → Bool
unknown has r p s = not (knows has r p) && not (knows has r s)

-- a branch keeps an old fact if it has it, or knows neither p nor s
abbrev pub keeps : Asked → ℕ → ℕ → ℕ → Bool
keeps q r p s = eqb (q.after r p) s || unknown q.has r p s

module _ (q : ℕ → Asked) where
  -- ---- edits

  abbrev pub fresh_after : ℕ → ℕ → ℕ → Bool
  fresh_after k r p = fresh ((q 0).after r p) ((q k).after r p)

  abbrev pub fresh_before : ℕ → ℕ → ℕ → Bool
  fresh_before k r s = fresh ((q 0).before r s) ((q k).before r s)

  -- at either side of n
  abbrev pub fresh_beside : ℕ → ℕ → ℕ → Bool
  fresh_beside k r n = fresh_after k r n || fresh_before k r n

  -- an edit gives the record its parent
  abbrev pub claims : ℕ → ℕ → Bool
  claims k n = (q k).has n && fresh_beside k ((q k).up n) n

  -- ---- the first branch with an edit there

  abbrev pub after_source : ℕ → ℕ → ℕ
  after_source r p = first_branch (λ k. fresh_after k r p)

  abbrev pub before_source : ℕ → ℕ → ℕ
  before_source r s = first_branch (λ k. fresh_before k r s)

  abbrev pub parent_source : ℕ → ℕ
  parent_source n = first_branch (λ k. claims k n)

  -- ---- clashes: an edit of branch k that is not the first branch's

  abbrev pub two_followers : ℕ → ℕ → ℕ → Bool
  two_followers k r p = fresh_after k r p && not (eqb ((q k).after r p) ((q (after_source r p)).after r p))

  abbrev pub two_forerunners : ℕ → ℕ → ℕ → Bool
  two_forerunners k r s = fresh_before k r s && not (eqb ((q k).before r s) ((q (before_source r s)).before r s))

  abbrev pub two_parents : ℕ → ℕ → Bool
  two_parents k n = claims k n && not (eqb ((q k).up n) ((q (parent_source n)).up n))

  -- the list of r is torn behind p or before s
  abbrev pub torn : ℕ → ℕ → ℕ → ℕ → Bool
  torn k r p s = two_followers k r p || two_forerunners k r s

  -- what shows at record n of branch k: two parents of it
  abbrev pub parent_place : ℕ → ℕ → Option ℕ
  parent_place k n = place (two_parents k n) n

  -- a list torn beside it, or its own list torn at the ends
  abbrev pub neighbour_place : ℕ → ℕ → Option ℕ
  neighbour_place k n = lesser (place (torn k ((q k).up n) n n) ((q k).up n)) (place (torn k n START END) n)

  -- ---- kept facts

  -- the old fact from p to s, if every branch keeps it
  abbrev pub kept_old : ℕ → ℕ → ℕ → ℕ
  kept_old r p s = cond (all_branches (λ k. keeps (q k) r p s)) s 0

  -- who follows p under r by the kept facts; 0 if no kept fact goes on
  abbrev pub kept_after : ℕ → ℕ → ℕ
  kept_after r p =
      cond (ltb 0 (after_source r p)) ((q (after_source r p)).after r p) (kept_old r p ((q 0).after r p))
