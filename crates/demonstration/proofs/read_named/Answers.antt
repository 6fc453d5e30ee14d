-- The proof of `read_named`: the file read is one of them (Filling). Assumes nothing.
use Rattle.std.proofs.Common.{rules}
use Rattle.demonstration.proofs.Filling.{filled, counted_there, read_there}
use Rattle.demonstration.proofs.read_named.Goals as goal

pub returns-clause-filled : goal.returns-clause-filled
returns-clause-filled g c = search (filled, rules)

pub returns-clause-counted : goal.returns-clause-counted
returns-clause-counted g c = search (counted_there, rules)

pub returns-clause-others : goal.returns-clause-others
returns-clause-others g c = search (read_there, rules)
