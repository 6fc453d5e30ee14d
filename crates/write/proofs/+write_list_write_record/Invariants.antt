-- The proof of `write_list` and `write_record`, which call each other: the count of records still unwritten falls with each record, and
-- each turn is a law of Turns. Assumes nothing.
use Rattle.std.proofs.Common.{map, ◌+◌}
use Rattle.facts.specs.Table.{lines_in, facts_in}
use Rattle.write.proofs.Turns.{Reached}
use Rattle.write.proofs.+write_list_write_record.Given as goal

abbrev pub decreases-write_list : goal.decreases-write_list
decreases-write_list l = l.p.left + l.p.left + 1

abbrev pub decreases-write_record : goal.decreases-write_record
decreases-write_record l = l.p.left + l.p.left

abbrev pub invariant-write_list-loop-r : goal.invariant-write_list-loop-r
invariant-write_list-loop-r l =
    Reached (map (λ x. x.now) l.texts) (lines_in l.table) (facts_in l.table) l.r.number
    l.initial.next.number l.initial.out l.initial.q.at l.initial.q.left l.next.number l.out l.q.at l.q.left

abbrev pub decreases-write_list-loop-r : goal.decreases-write_list-loop-r
decreases-write_list-loop-r l = l.q.left
