-- The proof of `copy_short`: the bytes put so far are the first of the part (Copies). Assumes nothing.
use Rattle.bytes_out.proofs.Copies.{Short}
use Rattle.bytes_out.proofs.copy_short.Given as goal

abbrev pub invariant-loop-left : goal.invariant-loop-left
invariant-loop-left l = Short l.initial.out l.out l.at l.part l.i l.left

abbrev pub decreases-loop-left : goal.decreases-loop-left
decreases-loop-left l = l.left
