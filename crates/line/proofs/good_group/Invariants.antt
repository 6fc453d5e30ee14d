-- `good_group` meets its contract: k of the bytes are looked at. Assumes nothing.
use mathlib.Core.Path.{◌≡◌}
use Rattle.line.specs.Parts.{good_from}
use Rattle.line.proofs.good_group.Given as goal

abbrev pub invariant-loop-k : goal.invariant-loop-k
invariant-loop-k g l = l.good ≡ good_from l.k l.s l.i
