-- The proof of `read_all`: before each table the rest from there is the whole from the start (Turns). Assumes nothing.
use Rattle.facts.specs.Inputs.{texts_of}
use Rattle.table.proofs.Turns.{Reading}
use Rattle.table.proofs.read_all.Given as goal

abbrev pub invariant-loop-t : goal.invariant-loop-t
invariant-loop-t l = Reading (texts_of l.fn.inputs) l.input-items l.t
