-- The proof of `least_lost`: nothing is lost where nothing is new (Unmarked). Assumes nothing.
use Rattle.std.proofs.Common.{refl, rules}
use Rattle.facts.specs.Table.{lines_in, facts_in}
use Rattle.facts.specs.Inputs.{texts_of, lines_of, facts_of, counts_of}
use Rattle.edits.specs.Least.{numbered}
use Rattle.contents.specs.Marks.{marks_of}
use Rattle.lost.specs.Lost.{lost_on}
use Rattle.lost.proofs.Unmarked.{none_unmarked}
use Rattle.lost.proofs.least_lost.Goals as goal

pub returns : goal.returns
returns c =
    let m = c.args.marked in
    let n = m.news.inputs.now in
    let ls = lines_in c.args.merged.now in
    let fs = facts_in c.args.merged.now in
    c.fold.ensures numbered (lost_on (texts_of n) (lines_of n) (facts_of n) ls fs) refl (λ a t l b h. search rules)
    (none_unmarked (texts_of n) (lines_of n) (facts_of n) ls fs (counts_of n) (marks_of m.news.marks.now) m.lined m.marked)
