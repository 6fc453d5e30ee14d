-- The proof of `judge`: the clashes, then the walk, then what it shows. What `?` hands out is the refusal that it was given. Assumes
-- nothing.
use Rattle.std.proofs.Common.{◌∙◌}
use Rattle.std.proofs.lemmas.List.{length-map}
use Rattle.std.proofs.lemmas.Result.{err_from_is_err_and}
use Rattle.facts.specs.Inputs.{texts_of, lines_of, facts_of, counts_of}
use Rattle.rules.specs.declared.kinds.Clash.TheVariants.{Content, Parent, Neighbour, BrokenList, LostEdit}
use Rattle.judge.proofs.Judging.{none_told, judged_content, judged_parent, judged_neighbour, judged_broken, judged-lost, judged-tree}
use Rattle.judge.proofs.judge.Goals as goal

pub returns-in_err-none_at-clause-judges : goal.returns-in_err-none_at-clause-judges
returns-in_err-none_at-clause-judges c =
    let i = c.args.inputs.now in
    let p = err_from_is_err_and c.from_residual.result c.from_residual.ensures.1 in
    rw (p.1, p.2) (judged_content (texts_of i) (lines_of i) (facts_of i) (counts_of i) (length-map i.tables _ ∙ (cc))
    c.least_clashes-least.result c.least_clashes-least.ensures _ _ _ c.in_err-none_at.ensures)

pub returns-in_err-none_at-2-clause-judges : goal.returns-in_err-none_at-2-clause-judges
returns-in_err-none_at-2-clause-judges c =
    let i = c.args.inputs.now in
    let p = err_from_is_err_and c.from_residual-in_err-none_at-2.result c.from_residual-in_err-none_at-2.ensures.1 in
    rw (p.1, p.2) (judged_parent (texts_of i) (lines_of i) (facts_of i) (counts_of i) (length-map i.tables _ ∙ (cc))
    c.least_clashes-least.result c.least_clashes-least.ensures (none_told Content _ _ c.in_ok-none_at.ensures) _ _ _
    c.in_err-none_at-2.ensures)

pub returns-in_err-none_at-3-clause-judges : goal.returns-in_err-none_at-3-clause-judges
returns-in_err-none_at-3-clause-judges c =
    let i = c.args.inputs.now in
    let p = err_from_is_err_and c.from_residual-in_err-none_at-3.result c.from_residual-in_err-none_at-3.ensures.1 in
    rw (p.1, p.2) (judged_neighbour (texts_of i) (lines_of i) (facts_of i) (counts_of i) (length-map i.tables _ ∙ (cc))
    c.least_clashes-least.result c.least_clashes-least.ensures (none_told Content _ _ c.in_ok-none_at.ensures)
    (none_told Parent _ _ c.in_ok-none_at-2.ensures) _ _ _ c.in_err-none_at-3.ensures)

pub returns-in_err-none_at-4-clause-judges : goal.returns-in_err-none_at-4-clause-judges
returns-in_err-none_at-4-clause-judges c =
    let i = c.args.inputs.now in
    let p = err_from_is_err_and c.from_residual-in_err-none_at-4.result c.from_residual-in_err-none_at-4.ensures.1 in
    rw (p.1, p.2) (judged_broken (texts_of i) (lines_of i) (facts_of i) (counts_of i) (length-map i.tables _ ∙ (cc))
    c.least_clashes-least.result c.least_clashes-least.ensures (none_told Content _ _ c.in_ok-none_at.ensures)
    (none_told Parent _ _ c.in_ok-none_at-2.ensures) (none_told Neighbour _ _ c.in_ok-none_at-3.ensures) _ _ _ _ _
    (c.open.ensures.lines_same ∙ c.requires.blank.0) c.requires.blank.1 c.open.ensures.facts_after _ _
    c.lay_down-laid.ensures.laid_down _ c.in_err-none_at-4.ensures)

pub returns-in_err-none_at-5-clause-judges : goal.returns-in_err-none_at-5-clause-judges
returns-in_err-none_at-5-clause-judges c =
    let i = c.args.inputs.now in
    let p = err_from_is_err_and c.from_residual-in_err-none_at-5.result c.from_residual-in_err-none_at-5.ensures.1 in
    rw (p.1, p.2) (judged-lost (texts_of i) (lines_of i) (facts_of i) (counts_of i) (length-map i.tables _ ∙ (cc))
    c.least_clashes-least.result c.least_clashes-least.ensures (none_told Content _ _ c.in_ok-none_at.ensures)
    (none_told Parent _ _ c.in_ok-none_at-2.ensures) (none_told Neighbour _ _ c.in_ok-none_at-3.ensures) _ _ _ _ _
    (c.open.ensures.lines_same ∙ c.requires.blank.0) c.requires.blank.1 c.open.ensures.facts_after _ _
    c.lay_down-laid.ensures.laid_down
    (none_told BrokenList _ _ c.in_ok-none_at-4.ensures) _ c.least_lost.ensures _ c.in_err-none_at-5.ensures)

pub returns-clause-judges : goal.returns-clause-judges
returns-clause-judges c =
    let i = c.args.inputs.now in
    judged-tree (texts_of i) (lines_of i) (facts_of i) (counts_of i) (length-map i.tables _ ∙ (cc))
    c.least_clashes-least.result c.least_clashes-least.ensures (none_told Content _ _ c.in_ok-none_at.ensures)
    (none_told Parent _ _ c.in_ok-none_at-2.ensures) (none_told Neighbour _ _ c.in_ok-none_at-3.ensures) _ _ _ _ _
    (c.open.ensures.lines_same ∙ c.requires.blank.0) c.requires.blank.1 c.open.ensures.facts_after _ _
    c.lay_down-laid.ensures.laid_down
    (none_told BrokenList _ _ c.in_ok-none_at-4.ensures) _ c.least_lost.ensures (none_told LostEdit _ _ c.in_ok-none_at-5.ensures)
