-- The proof of `write_table`: the list of the top is the table (Laying). Assumes nothing.
use Rattle.write.proofs.Laying.{tables}
use Rattle.write.proofs.write_table.Goals as goal

pub write_list-requires : goal.write_list-requires
write_list-requires c = search tables

pub returns : goal.returns
returns c = search tables
