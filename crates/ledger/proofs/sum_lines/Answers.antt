use Rattle.std.proofs.Common.{arith, rules}
use Rattle.ledger.proofs.Summing.{sum-on}
use Rattle.ledger.proofs.sum_lines.Goals as goal

pub loop-f-preserved : goal.loop-f-preserved
loop-f-preserved c =
    sum-on c.loop-f.invariant (c.lines_to-f-items.ensures.each _ _ (omega arith))
    c.frame_line-frames.ensures.value c.frame_line-frames.ensures.upper_bound
    c.ledger_line-entries.ensures.value c.ledger_line-entries.ensures.upper_bound (search rules)
