-- The proof of `mark_lines`: one line more, and all of them (Marking). Assumes nothing.
use Rattle.std.proofs.Common.{◌∙◌, arith, length-set}
use Rattle.facts.specs.Inputs.{texts_of, lines_of, facts_of}
use Rattle.contents.proofs.Marking.{fill_on, fill_end}
use Rattle.contents.proofs.marks.mark_lines.Goals as goal

pub loop-l-preserved : goal.loop-l-preserved
loop-l-preserved c =
    let n = c.args.inputs.now in
    let done = c.loop-l.invariant in (
      length-set c.loop-l.mark-items c.loop-l.l c.mark_line.result ∙ done.0,
      fill_on (texts_of n) (lines_of n) (facts_of n) c.args.t.index c.loop-l.mark-items c.loop-l.l c.mark_line.result
          (omega (arith, c.loop-l-test.true, c.loop-l.auto.mark-items)) done.1 c.mark_line.ensures,
    )

pub returns : goal.returns
returns c =
    let n = c.args.inputs.now in
    let done = c.loop-l.invariant in
    fill_end (texts_of n) (lines_of n) (facts_of n) c.args.t.index c.loop-l.mark-items _ c.loop-l.l c.args.count
    (omega (arith, c.loop-l.auto.l-end, c.loop-l.auto.mark-items)) done.1
    (omega (arith, done.0, c.loop-l-test.false, c.loop-l.auto.mark-items))
