-- The proof of `mark_branches`: one branch more, and all of them (Marking). Assumes nothing.
use Rattle.std.proofs.Common.{refl, ◌∙◌, ◌+◌, arith, length-set}
use Rattle.facts.specs.Inputs.{texts_of, lines_of, facts_of, counts_of}
use Rattle.facts.proofs.Sides.{branch_at}
use Rattle.contents.specs.Marks.{marks_of}
use Rattle.contents.proofs.Marking.{marking_on, marking_end, noted}
use Rattle.contents.proofs.marks.mark_branches.Goals as goal

pub loop-t-preserved : goal.loop-t-preserved
loop-t-preserved c =
    let n = c.args.inputs.now in
    let long = c.loop-t.invariant.0 in (
      length-set c.loop-t.marks _ _ ∙ long,
      marking_on (texts_of n) (lines_of n) (facts_of n) (counts_of n) c.loop-t.marks (c.loop-t.t-index + 1) _ _ _
          (omega (arith, long, c.loop-t-test.true)) (branch_at _ _ _ _ c.loop-t-test.true refl refl) c.loop-t.invariant.1 c.count.ensures
          c.mark_lines.ensures,
    )

pub returns-clause-marked : goal.returns-clause-marked
returns-clause-marked c =
    let n = c.args.inputs.now in
    marking_end (texts_of n) (lines_of n) (facts_of n) (counts_of n) (marks_of c.loop-t.marks) (c.loop-t.t-index + 1) c.loop-t.invariant.1
    (omega (arith, c.loop-t-test.false))

pub returns-clause-noted : goal.returns-clause-noted
returns-clause-noted c =
    let n = c.args.inputs.now in
    noted (texts_of n) (lines_of n) (facts_of n) (counts_of n) c.requires.lined (marks_of c.loop-t.marks)
    (marking_end (texts_of n) (lines_of n) (facts_of n) (counts_of n) (marks_of c.loop-t.marks) (c.loop-t.t-index + 1) c.loop-t.invariant.1
    (omega (arith, c.loop-t-test.false)))
