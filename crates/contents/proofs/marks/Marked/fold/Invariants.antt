-- The proof of `fold`: what the branches before this one come to, and the lines before this one (Folding). Assumes nothing.
use Rattle.std.proofs.Common.{◌≡◌, ◌+◌}
use Rattle.facts.specs.Inputs.{counts_of}
use Rattle.contents.specs.Marks.{marks_of}
use Rattle.contents.proofs.Folding.{Branches, Lines}
use Rattle.contents.proofs.marks.Marked.fold.Given as goal

abbrev pub invariant-loop-t : goal.invariant-loop-t
invariant-loop-t g l =
    let n = l.self.news in
    Branches (goal.F-post g l.step) (marks_of n.marks.now) (counts_of n.inputs.now) l.fn.first l.t-index l.all

abbrev pub invariant-loop-l : goal.invariant-loop-l
invariant-loop-l g l =
    let n = l.self.news in
    (l.t.index ≡ l.t-index + 1)
    × Lines (goal.F-post g l.step) (marks_of n.marks.now) (counts_of n.inputs.now) l.fn.first l.t-index l.t.index l.l l.all
