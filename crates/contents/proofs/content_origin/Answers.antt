-- The proof of `content_origin`: one branch more, and all of them (Sources). Assumes nothing.
use Rattle.std.proofs.Common.{refl, sym, ap, ◌∙◌, ◌≡◌, ◌+◌, ◌<◌, ℕ, Bool, arith, true, false, subst, add-zero}
use Rattle.facts.specs.Memory.{TABLES}
use Rattle.facts.specs.Inputs.{lines_of}
use Rattle.facts.proofs.Sides.{branch_at}
use Rattle.contents.specs.Marks.{marks_of, edited_in}
use Rattle.contents.proofs.Sources.{Summing, sum_start, sum_small, sum_fits, sum_on, sum_end}
use Rattle.contents.proofs.content_origin.Goals as goal
use Rattle.contents.proofs.content_origin.Goals.{then-edited, else-edited}

pub loop-t-init : goal.loop-t-init
loop-t-init c = sum_start _

pub overflow_add-origin : goal.overflow_add-origin
overflow_add-origin c =
    let n = c.args.news in
    let test : ℕ → Bool = λ k. edited_in (lines_of n.inputs.now) (marks_of n.marks.now) k c.args.n.number in
    sum_fits test (c.loop-t.t-index + 1) c.loop-t.origin _ (omega (arith, c.loop-t-test.true))
    (branch_at _ _ _ _ c.loop-t-test.true refl refl)
    c.loop-t.invariant

pub loop-t-preserved : goal.loop-t-preserved
loop-t-preserved c =
    let n = c.args.news in
    let test : ℕ → Bool = λ k. edited_in (lines_of n.inputs.now) (marks_of n.marks.now) k c.args.n.number in
    let i = c.loop-t.t-index in
    let origin = c.loop-t.origin in
    let at = branch_at _ _ _ _ c.loop-t-test.true refl refl in
    let asked = c.edited.ensures ∙ ap test at in
    let low : i + 1 < TABLES = omega (arith, c.loop-t-test.true) in
    elim c.if-edited.branch [
      | then-edited u ↦
          subst (Summing test (i + 1 + 1)) (sym u.origin-is)
          (sum_on test (i + 1) origin _ c.edited.result true low at c.loop-t.invariant asked u.if-edited.true)
      | else-edited u ↦
          let same : c.if-edited.origin ≡ origin + 0 = u.origin-is ∙ sym (add-zero origin) in
          subst (Summing test (i + 1 + 1)) (sym same)
          (sum_on test (i + 1) origin _ c.edited.result false low at c.loop-t.invariant asked u.if-edited.false)
    ]

pub returns-clause-value : goal.returns-clause-value
returns-clause-value c = sum_end _ (c.loop-t.t-index + 1) c.loop-t.origin (omega (arith, c.loop-t-test.false)) c.loop-t.invariant

pub returns-clause-upper_bound : goal.returns-clause-upper_bound
returns-clause-upper_bound c = sum_small _ _ _ c.loop-t.invariant
