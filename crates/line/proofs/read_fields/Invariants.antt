-- `read_fields` meets its contract: `last` is the byte before the next one, `filled` whether the fields before it are. Assumes nothing.
use mathlib.Core.Path.{◌≡◌}
use Prim.Native.Nat.{◌+◌}
use lib.ListN.{drop}
use Rattle.line.specs.Parts.{fields_from, rest_from}
use Rattle.line.proofs.read_fields.Given as goal

abbrev pub invariant-loop-count : goal.invariant-loop-count
invariant-loop-count l = rest_from l.filled l.last (l.from + l.count) (drop l.count l.rest) ≡ fields_from l.s l.start
