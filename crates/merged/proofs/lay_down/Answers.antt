-- The proof of `lay_down`: each way on is a law of Turns. Assumes nothing.
use Rattle.merged.proofs.Turns.{begun_at, turn_down, turn_up, all_laid}
use Rattle.merged.proofs.lay_down.Goals as goal

pub loop-lists-init : goal.loop-lists-init
loop-lists-init c = begun_at _ _ _ _

pub loop-lists-preserved-then-follows : goal.loop-lists-preserved-then-follows
loop-lists-preserved-then-follows c =
    turn_down c.loop-lists.invariant _ c.loop-lists-test.true c.kept_after-s.ensures _ _ c.if-follows.ensures c.lay_record.ensures

pub loop-lists-preserved : goal.loop-lists-preserved
loop-lists-preserved c =
    turn_up c.loop-lists.invariant _ c.loop-lists-test.true c.kept_after-s.ensures _ _ c.if-follows.ensures (cc) (cc)

pub returns-clause-laid_down : goal.returns-clause-laid_down
returns-clause-laid_down c = all_laid c.loop-lists.invariant c.loop-lists-test.false
