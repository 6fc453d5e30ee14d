-- The proof of `content_source`: each branch is asked for an edit there. Assumes nothing.
use Rattle.std.proofs.Common.{rules}
use Rattle.facts.specs.Inputs.{lines_of}
use Rattle.contents.specs.Marks.{marks_of, edited_in}
use Rattle.contents.proofs.content_source.Goals as goal

pub returns : goal.returns
returns c =
    let n = c.args.news in
    c.first_branch.ensures (λ k. edited_in (lines_of n.inputs.now) (marks_of n.marks.now) k c.args.n.number) (λ k y h. search rules)
