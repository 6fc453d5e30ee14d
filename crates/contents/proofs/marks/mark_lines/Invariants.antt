-- The proof of `mark_lines`: the lines before this one are marked (Marking). Assumes nothing.
use Rattle.std.proofs.Common.{◌≡◌, ◌+◌, length}
use Rattle.facts.specs.Inputs.{texts_of, lines_of, facts_of}
use Rattle.contents.proofs.Marking.{Filled}
use Rattle.contents.proofs.marks.mark_lines.Given as goal

abbrev pub invariant-loop-l : goal.invariant-loop-l
invariant-loop-l l =
    (length l.mark-items ≡ l.count + 1)
    × Filled (texts_of l.inputs) (lines_of l.inputs) (facts_of l.inputs) l.t.index l.mark-items l.l
