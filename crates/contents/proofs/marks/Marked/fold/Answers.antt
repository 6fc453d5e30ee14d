-- The proof of `fold`: one line more, whether it is marked or not, one branch more, and all of them (Folding). Assumes nothing.
use Rattle.std.proofs.Common.{rules, refl, ◌≡◌, ◌+◌, arith}
use Rattle.facts.proofs.Sides.{branch_at}
use Rattle.contents.specs.Marks.{mark_number}
use Rattle.contents.proofs.Folding.{branches_start, lines_start, line_marked, line_unmarked, lines_end, branches_end}
use Rattle.contents.proofs.marks.Marked.fold.Goals as goal
use Rattle.contents.proofs.marks.Marked.fold.Goals.{then-ne, else-ne, else-loop-l-test, then-loop-l-test+else-l-l-end}

pub loop-t-init : goal.loop-t-init
loop-t-init g c = branches_start _ _ _ _

pub loop-l-init : goal.loop-l-init
loop-l-init g c = (branch_at _ _ _ _ c.loop-t-test.true refl refl, lines_start _ _ _ _ _ _ _ c.loop-t.invariant)

pub loop-l-preserved : goal.loop-l-preserved
loop-l-preserved g c =
    let n = c.args.self.news in
    let done = c.loop-l.invariant in (
      done.0,
      elim c.if-ne.branch [
        | then-ne w ↦ rw w.all-is (line_marked _ _ _ _ _ _ _ _ _ done.1 w.step-all.ensures)
        | else-ne w ↦ let none : mark_number c.mark.result ≡ 0 = search rules in
            rw w.all-is (line_unmarked _ _ _ _ _ _ _ _ _ done.1 (omega (arith, done.0)) (omega (arith, done.0, c.loop-t-test.true))
            (omega (arith, c.count-l-end.ensures, c.loop-l-test.true)) c.mark.ensures none)
      ],
    )

pub loop-t-preserved : goal.loop-t-preserved
loop-t-preserved g c =
    let done = c.loop-l.invariant in
    elim c.loop-l-test.branch [
      | else-loop-l-test v ↦ absurd (omega (arith, v.loop-l-test.false, c.loop-l.auto.l-end))
      | then-loop-l-test+else-l-l-end v ↦ rw v.all-is (lines_end _ _ _ _ _ _ (c.loop-l.l + 1) v.if-ne.all done.0
          (omega (arith, c.count-l-end.ensures, v.loop-l-test.true))
          (elim v.if-ne.branch [
            | then-ne w ↦ rw w.all-is (line_marked _ _ _ _ _ _ _ _ _ done.1 w.step-all.ensures)
            | else-ne w ↦ let none : mark_number v.mark.result ≡ 0 = search rules in
                rw w.all-is (line_unmarked _ _ _ _ _ _ _ _ _ done.1 (omega (arith, done.0)) (omega (arith, done.0, c.loop-t-test.true))
                (omega (arith, c.count-l-end.ensures, v.loop-l-test.true)) v.mark.ensures none)
          ]))
    ]

pub returns : goal.returns
returns g c = (branches_end _ _ _ _ _ _ c.loop-t.invariant (omega arith)).comes
