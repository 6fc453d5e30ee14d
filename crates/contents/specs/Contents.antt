-- Edits and clashes of contents, read off what the tables tell: w k is told of table k, and table 0 is old. n is a record. Assumes
-- nothing.
use Rattle.std.specs.Prelude.{Bool, not, ◌&&◌, ℕ, Option}
use Rattle.rules.specs.Line.{Content}
use Rattle.rules.specs.Facts.{same_content}
use Rattle.edits.specs.Branches.{first_branch, sum_branches}
use Rattle.edits.specs.Least.{place}

-- the records of a table, and what each holds
pub record Told : Type 0 where
  pub has : ℕ → Bool
  pub content : ℕ → Content

module _ (w : ℕ → Told) where
  -- an edit: a content that old does not have there
  abbrev pub fresh_content : ℕ → ℕ → Bool
  fresh_content k n = (w k).has n && not ((w 0).has n && same_content ((w k).content n) ((w 0).content n))

  -- the first branch with an edit there; old, if there is none
  abbrev pub content_source : ℕ → ℕ
  content_source n = first_branch (λ k. fresh_content k n)

  -- an edit of branch k that is not the first branch's
  abbrev pub two_contents : ℕ → ℕ → Bool
  two_contents k n = fresh_content k n && not (same_content ((w k).content n) ((w (content_source n)).content n))

  abbrev pub content_place : ℕ → ℕ → Option ℕ
  content_place k n = place (two_contents k n) n

  -- "1 if only first has it, 2 if only second, 3 if both": where no two edits clash, the sum of the branches with an edit
  abbrev pub content_origin : ℕ → ℕ
  content_origin n = sum_branches (λ k. fresh_content k n)
