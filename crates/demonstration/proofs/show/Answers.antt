-- The proof of `show`: the merge is refused, and its numbers are put; or what it wrote lies in the buffers, and is put behind them
-- (Shows). Assumes nothing.
use Rattle.demonstration.proofs.Shows.{showings}
use Rattle.demonstration.proofs.show.Goals as goal

pub write_numbers-requires-clause-table_length_bound : goal.write_numbers-requires-clause-table_length_bound
write_numbers-requires-clause-table_length_bound c = (search showings, search showings)

pub write_numbers-requires-clause-answer_in_bounds : goal.write_numbers-requires-clause-answer_in_bounds
write_numbers-requires-clause-answer_in_bounds c = search showings

pub returns-then-answer-ne-ACCEPTED : goal.returns-then-answer-ne-ACCEPTED
returns-then-answer-ne-ACCEPTED c = search showings

pub slice_bounds-table-end : goal.slice_bounds-table-end
slice_bounds-table-end c = search showings

pub slice_bounds-write_done-end : goal.slice_bounds-write_done-end
slice_bounds-write_done-end c = search showings

pub slice_bounds-ledger-end : goal.slice_bounds-ledger-end
slice_bounds-ledger-end c = search showings

pub slice_bounds-write_done-end-2 : goal.slice_bounds-write_done-end-2
slice_bounds-write_done-end-2 c = search showings

pub write_done-requires-clause-table_length_bound : goal.write_done-requires-clause-table_length_bound
write_done-requires-clause-table_length_bound c = (search showings, search showings)

pub write_done-requires-clause-ledger_in_bounds : goal.write_done-requires-clause-ledger_in_bounds
write_done-requires-clause-ledger_in_bounds c = search showings

pub returns : goal.returns
returns c = search showings
