use Rattle.write.proofs.Parts.{rowings}
use Rattle.write.proofs.Turns.{lists, records}
use Rattle.write.proofs.+write_list_write_record.Goals as goal

pub write_list-write_record-q-requires : goal.write_list-write_record-q-requires
write_list-write_record-q-requires t c = search lists

pub write_list-loop-r-smaller : goal.write_list-loop-r-smaller
write_list-loop-r-smaller t c = search lists

pub write_list-loop-r-preserved : goal.write_list-loop-r-preserved
write_list-loop-r-preserved t c = search lists

pub write_list-returns : goal.write_list-returns
write_list-returns t c = search lists

pub write_record-write_line-at-requires : goal.write_record-write_line-at-requires
write_record-write_line-at-requires t c = search (rowings, records)

pub write_record-returns-then-is_end : goal.write_record-returns-then-is_end
write_record-returns-then-is_end t c = search (rowings, records)

pub write_record-returns : goal.write_record-returns
write_record-returns t c = search (rowings, records)
