-- The proof of `depth`, which calls itself: the line's number falls. Assumes nothing.
use Rattle.depth.proofs.+depth.Given as goal

abbrev pub decreases-depth : goal.decreases-depth
decreases-depth l = l.l
