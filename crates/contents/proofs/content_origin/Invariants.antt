-- The proof of `content_origin`: the sum of the branches so far (Sources). Assumes nothing.
use Rattle.std.proofs.Common.{◌+◌}
use Rattle.facts.specs.Inputs.{lines_of}
use Rattle.contents.specs.Marks.{marks_of, edited_in}
use Rattle.contents.proofs.Sources.{Summing}
use Rattle.contents.proofs.content_origin.Given as goal

abbrev pub invariant-loop-t : goal.invariant-loop-t
invariant-loop-t l =
    Summing (λ k. edited_in (lines_of l.news.inputs.now) (marks_of l.news.marks.now) k l.n.number) (l.t-index + 1) l.origin
