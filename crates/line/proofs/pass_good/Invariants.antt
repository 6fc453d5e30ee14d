-- `pass_good` meets its contract: i is the place reached. Assumes nothing.
use Prim.Native.Nat.{◌-◌, ◌≤◌}
use mathlib.Core.Path.{◌≡◌}
use lib.ListN.{length}
use Rattle.line.specs.Parts.{fields_at}
use Rattle.line.proofs.pass_good.Given as goal

abbrev pub invariant-loop-i : goal.invariant-loop-i
invariant-loop-i g l = (1 ≤ l.i) × (l.i ≤ length l.s) × (fields_at l.s l.i ≡ fields_at l.s l.from)

abbrev pub decreases-loop-i : goal.decreases-loop-i
decreases-loop-i g l = length l.s - l.i
