-- The proof of `copy_long`: the bytes put so far are the first of the part, and the last eight complete them (Copies). Assumes nothing.
use Prim.Native.Nat.{◌-◌}
use Rattle.bytes_out.proofs.Copies.{Copied}
use Rattle.bytes_out.proofs.copy_long.Given as goal

abbrev pub invariant-loop-i : goal.invariant-loop-i
invariant-loop-i l = Copied l.initial.out l.out l.at l.part l.i

abbrev pub decreases-loop-i : goal.decreases-loop-i
decreases-loop-i l = l.last - l.i
