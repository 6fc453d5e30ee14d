-- The proof of `read_lines`: at each line the verdict from there is the verdict from the start (Reading); each way on is a law of
-- Steps. Assumes nothing.
use Rattle.std.proofs.Common.{◌-◌, length}
use Rattle.facts.specs.Table.{lines_in, facts_in}
use Rattle.table.proofs.Reading.{Reading}
use Rattle.table.proofs.read_lines.Given as goal

abbrev pub invariant-loop-at : goal.invariant-loop-at
invariant-loop-at l = Reading l.text l.at (lines_in l.table) (facts_in l.table) l.count

abbrev pub decreases-loop-at : goal.decreases-loop-at
decreases-loop-at l = length l.text - l.at
