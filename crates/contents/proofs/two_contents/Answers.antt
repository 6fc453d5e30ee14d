-- The proof of `two_contents`: an edit is asked for first, and the first branch clashes with none (Asking). Assumes nothing.
use Rattle.std.proofs.Common.{rules, ◌∙◌, ◌≡◌, true, false}
use Rattle.facts.specs.Inputs.{texts_of, lines_of, facts_of}
use Rattle.contents.specs.Marks.{marks_of}
use Rattle.contents.proofs.Asking.{two-first, two-asked}
use Rattle.contents.proofs.two_contents.Goals as goal

pub returns-then-ne : goal.returns-then-ne
returns-then-ne c =
    let s = c.args.news in
    let edited : c.edited.result ≡ true = search rules in
    two-asked (texts_of s.inputs.now) (lines_of s.inputs.now) (facts_of s.inputs.now) (marks_of s.marks.now) s.noted c.args.n.number
    c.args.t.index c.requires c.args.t.within c.edited.result c.edited.ensures c.content_source-first.result.index c.same_in.result edited
    c.content_source-first.ensures c.same_in.ensures

pub returns-else-ne : goal.returns-else-ne
returns-else-ne c =
    let s = c.args.news in
    let edited : c.edited.result ≡ true = search rules in
    let no : c.ne.result ≡ false = search rules in
    no ∙ two-first (texts_of s.inputs.now) (lines_of s.inputs.now) (facts_of s.inputs.now) (marks_of s.marks.now) s.noted c.args.n.number
    c.args.t.index c.requires c.args.t.within c.edited.result c.edited.ensures c.content_source-first.result.index edited
    c.content_source-first.ensures (search rules)
