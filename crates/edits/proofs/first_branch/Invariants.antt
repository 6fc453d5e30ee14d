-- The proof of `first_branch`: no branch so far passes, whatever the tests come to. Assumes nothing.
use Rattle.std.proofs.Common.{◌≡◌, ◌+◌, ℕ, Bool}
use Rattle.edits.proofs.Branches.{Left}
use Rattle.edits.proofs.first_branch.Given as goal

abbrev pub invariant-loop-t : goal.invariant-loop-t
invariant-loop-t g l =
    (passes : ℕ → Bool) → ((t : _) (y : _) → goal.F-post g l.test t y → y ≡ passes t.index) → Left passes (l.t-index + 1)
