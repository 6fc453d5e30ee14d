-- The proof of `kept_after`: one branch after the other, until one has an edit. Assumes nothing.
use Rattle.std.proofs.Common.{◌+◌}
use Rattle.facts.specs.Inputs.{lines_of, facts_of}
use Rattle.edits.specs.Memory.{ask}
use Rattle.edits.proofs.Ways.{Going}
use Rattle.edits.proofs.kept_after.Given as goal

abbrev pub invariant-loop-t : goal.invariant-loop-t
invariant-loop-t l = Going (ask (lines_of l.inputs) (facts_of l.inputs)) l.r.number l.p.number l.o.number l.kept (l.t-index + 1)
