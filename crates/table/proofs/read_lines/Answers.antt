-- The proof of `read_lines`: each way on is a law of Steps. Assumes nothing.
use Rattle.table.proofs.Growing.{begins}
use Rattle.table.proofs.Steps.{faulty-line, start_fits, start_small, length_small, line-room, number_room, less_left, good-line}
use Rattle.table.proofs.read_lines.Goals as goal

pub loop-at-init : goal.loop-at-init
loop-at-init c = begins _ _ _ c.requires

pub returns-in-Err : goal.returns-in-Err
returns-in-Err c =
    faulty-line _ _ _ c.loop-at.at c.loop-at.count _ c.loop-at.invariant c.loop-at-test.true c.line_at.ensures c.in-Err.fault
    c.in-Err.ensures

pub overflow_add-start : goal.overflow_add-start
overflow_add-start c =
    start_fits _ _ _ c.loop-at.at c.loop-at.count _ c.loop-at.invariant c.loop-at-test.true c.line_at.ensures c.in-Ok.reached
    c.in-Ok.ensures

pub overflow_cast-start : goal.overflow_cast-start
overflow_cast-start c =
    start_small _ _ _ c.loop-at.at c.loop-at.count _ c.loop-at.invariant c.loop-at-test.true c.line_at.ensures c.in-Ok.reached
    c.in-Ok.ensures

pub overflow_cast-line-in-loop-at : goal.overflow_cast-line-in-loop-at
overflow_cast-line-in-loop-at c =
    length_small _ _ _ c.loop-at.at c.loop-at.count _ c.loop-at.invariant c.loop-at-test.true c.line_at.ensures c.in-Ok.reached
    c.in-Ok.ensures

pub loop-at-smaller : goal.loop-at-smaller
loop-at-smaller c =
    less_left _ _ _ c.loop-at.at c.loop-at.count _ c.loop-at.invariant c.loop-at-test.true c.line_at.ensures c.in-Ok.reached c.in-Ok.ensures

pub add_line-requires : goal.add_line-requires
add_line-requires c = (
  line-room _ _ _ c.loop-at.at c.loop-at.count _ c.loop-at.invariant c.loop-at-test.true c.line_at.ensures c.in-Ok.reached c.in-Ok.ensures,
  number_room _ _ _ c.loop-at.at c.loop-at.count _ c.loop-at.invariant c.loop-at-test.true c.line_at.ensures c.in-Ok.reached
      c.in-Ok.ensures,
)

pub loop-at-preserved : goal.loop-at-preserved
loop-at-preserved c =
    good-line _ _ _ c.loop-at.at c.loop-at.count _ c.loop-at.invariant c.loop-at-test.true c.line_at.ensures c.in-Ok.reached c.in-Ok.ensures
    _ _ c.add_line.ensures.lines_after c.add_line.ensures.facts_after
