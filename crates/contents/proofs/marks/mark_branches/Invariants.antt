-- The proof of `mark_branches`: the branches before this one are marked (Marking). Assumes nothing.
use Rattle.std.proofs.Common.{◌≡◌, ◌+◌, length}
use Rattle.facts.specs.Memory.{TABLES}
use Rattle.facts.specs.Inputs.{texts_of, lines_of, facts_of, counts_of}
use Rattle.contents.specs.Marks.{marks_of}
use Rattle.contents.proofs.Marking.{Marking}
use Rattle.contents.proofs.marks.mark_branches.Given as goal

abbrev pub invariant-loop-t : goal.invariant-loop-t
invariant-loop-t l =
    (length l.marks ≡ TABLES)
    × Marking (texts_of l.inputs) (lines_of l.inputs) (facts_of l.inputs) (counts_of l.inputs) (marks_of l.marks) (l.t-index + 1)
