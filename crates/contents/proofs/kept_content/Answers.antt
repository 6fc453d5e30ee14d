-- The proof of `kept_content`: the place put together; where no branch has an edit, the sum is 0 (Asking, Sources). Assumes nothing.
use Rattle.std.proofs.Common.{sym, ◌∙◌, ◌≡◌, ℕ, Bool}
use Rattle.facts.specs.Inputs.{texts_of, lines_of, facts_of}
use Rattle.edits.specs.Branches.{sum_branches}
use Rattle.contents.specs.Marks.{marks_of, edited_in}
use Rattle.contents.proofs.Asking.{kept-place, kept-length}
use Rattle.contents.proofs.Sources.{no_sum}
use Rattle.contents.proofs.kept_content.Goals as goal
use Rattle.contents.proofs.kept_content.Goals.{then-eq, else-eq}
use Rattle.facts.specs.Memory.{PLACE, LENGTH, field_on, line_at}
use borrow.Author.Tests.{eqb-true}

pub returns-clause-place_value : goal.returns-clause-place_value
returns-clause-place_value c =
    let s = c.args.news in
    let n = c.args.n.number in
    let k = c.content_source-source.result.index in
    let test : ℕ → Bool = λ j. edited_in (lines_of s.inputs.now) (marks_of s.marks.now) j n in
    let sum : c.if-eq.origin ≡ sum_branches test = elim c.if-eq.branch [
      | then-eq w ↦
          let none : k ≡ 0 = eqb-true k 0 (sym c.eq.ensures ∙ w.if-eq.true) in
          w.origin-is ∙ sym (no_sum test (sym c.content_source-source.ensures ∙ none))
      | else-eq w ↦ w.origin-is ∙ w.content_origin-origin.ensures.value
    ] in
    kept-place (texts_of s.inputs.now) (lines_of s.inputs.now) (facts_of s.inputs.now) (marks_of s.marks.now) n k s.noted
    c.content_source-source.ensures c.if-eq.origin _ sum
    (c.facts_of-facts.ensures.place ∙ (λ i. field_on (c.table.ensures.facts i) (line_at (c.table.ensures.lines i) n) PLACE))

pub returns-clause-length_value : goal.returns-clause-length_value
returns-clause-length_value c =
    let s = c.args.news in
    let n = c.args.n.number in
    kept-length (texts_of s.inputs.now) (lines_of s.inputs.now) (facts_of s.inputs.now) (marks_of s.marks.now) n
    c.content_source-source.result.index s.noted c.content_source-source.ensures _
    (c.facts_of-facts.ensures.length ∙ (λ i. field_on (c.table.ensures.facts i) (line_at (c.table.ensures.lines i) n) LENGTH))
