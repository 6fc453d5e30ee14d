use Rattle.std.proofs.Common.{arith}
use Rattle.ledger.proofs.Going.{going_room, going_on, last-room, going_end}
use Rattle.ledger.proofs.write_ledger.Goals as goal

pub write_entry-at-requires : goal.write_entry-at-requires
write_entry-at-requires c =
    going_room _ _ _ _ c.loop-f.invariant (omega arith) (c.lines_to-f-items.ensures.each _ _ (omega arith))

pub loop-f-preserved : goal.loop-f-preserved
loop-f-preserved c =
    going_on _ _ _ _ c.loop-f.invariant (omega arith) (c.lines_to-f-items.ensures.each _ _ (omega arith)) c.write_entry-at.ensures

pub write_total-requires : goal.write_total-requires
write_total-requires c = last-room _ _ _ _ c.loop-f.invariant (omega arith)

pub returns : goal.returns
returns c = going_end _ _ _ _ c.loop-f.invariant (omega arith) c.write_total.ensures
