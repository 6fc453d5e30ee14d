-- The proof of `clashes_on`: at a record that stands as in old (Unmarked). Assumes nothing.
use Rattle.std.proofs.Common.{◌∙◌, ◌≡◌, rules, false}
use Rattle.facts.specs.Inputs.{texts_of, lines_of, facts_of}
use Rattle.contents.proofs.Marking.{mark_stands}
use Rattle.clashes.proofs.Unmarked.{content_only}
use Rattle.clashes.proofs.clashes_on.Goals as goal

pub returns-then-not-mark : goal.returns-then-not-mark
returns-then-not-mark c =
    let m = c.args.marked in
    let t = c.args.t in
    let n = m.news.inputs.now in
    let stands : c.mark.result.position ≡ false = search rules in
    content_only (texts_of n) (lines_of n) (facts_of n) t.index c.args.l _ ((m.lined.tables t.index t.within).low c.args.l c.requires.1)
    (c.mark.ensures ∙ (m.marked.branches t.index c.requires.0 t.within).on c.args.l c.requires.1) _ _ (mark_stands c.mark.result stands)
    c.number_in-n.ensures c.content_place-content.ensures
