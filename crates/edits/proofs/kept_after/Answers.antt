-- The proof of `kept_after`: no branch so far has an edit, and whether they keep old's fact is noted. Assumes nothing.
use Rattle.std.proofs.Common.{refl, ap, ◌∙◌, ◌≡◌, ◌+◌, ℕ, ◌||◌, List, [], get_or, false, arith}
use lib.Dec.{eqb}
use Rattle.facts.specs.Inputs.{lines_of, facts_of}
use Rattle.facts.specs.Asked.{Asked, has_in}
use Rattle.facts.proofs.Sides.{branch_at}
use Rattle.edits.specs.Memory.{ask}
use Rattle.edits.specs.Positions.{unknown}
use Rattle.edits.proofs.Ways.{going_here, going_on, going_kept, going_gone}
use Rattle.edits.proofs.kept_after.Goals as goal
use Rattle.edits.proofs.kept_after.Goals.{then-kept, else-kept}

pub returns-then-fresh : goal.returns-then-fresh
returns-then-fresh c =
    let s = c.args in
    let q : ℕ → Asked = ask (lines_of s.inputs.now) (facts_of s.inputs.now) in
    going_here q s.r.number s.p.number c.follower_in-o.result.number (c.loop-t.t-index + 1) c.follower_in-s.result.number _ _
    c.loop-t.invariant
    c.follower_in-o.ensures (omega (arith, c.loop-t-test.true))
    (c.follower_in-s.ensures ∙ ap (λ (k : ℕ). (q k).after s.r.number s.p.number) (branch_at _ _ _ _ c.loop-t-test.true refl refl))
    c.fresh.ensures c.if-fresh.true

pub loop-t-preserved : goal.loop-t-preserved
loop-t-preserved c =
    let s = c.args in
    let q : ℕ → Asked = ask (lines_of s.inputs.now) (facts_of s.inputs.now) in
    let same : c.follower_in-s.result.number ≡ (q (c.loop-t.t-index + 1)).after s.r.number s.p.number =
    c.follower_in-s.ensures ∙ ap (λ (k : ℕ). (q k).after s.r.number s.p.number) (branch_at _ _ _ _ c.loop-t-test.true refl refl) in
    going_on q s.r.number s.p.number c.follower_in-o.result.number (c.loop-t.t-index + 1) c.follower_in-s.result.number _ _ _
    c.loop-t.invariant
    (omega (arith, c.loop-t-test.true)) same c.fresh.ensures c.if-fresh.false
    (elim c.if-kept.branch [
      | then-kept w ↦
          let ls =
          w.table.ensures.lines ∙ ap (λ (k : ℕ). get_or (lines_of s.inputs.now) k []) (branch_at _ _ _ _ c.loop-t-test.true refl refl) in
          rw w.if-kept.true (w.kept-is ∙ w.still_kept-kept.ensures
          ∙ ap (λ (l : List ℕ). eqb c.follower_in-s.result.number c.follower_in-o.result.number
          || unknown (has_in l) s.r.number s.p.number c.follower_in-o.result.number) ls)
      | else-kept w ↦ let no : c.if-kept.kept ≡ false = w.kept-is ∙ w.if-kept.false in rw w.if-kept.false no
    ])

pub returns-then-kept-2 : goal.returns-then-kept-2
returns-then-kept-2 c =
    let s = c.args in
    let q : ℕ → Asked = ask (lines_of s.inputs.now) (facts_of s.inputs.now) in
    going_kept q s.r.number s.p.number c.follower_in-o.result.number (c.loop-t.t-index + 1) _ c.loop-t.invariant c.follower_in-o.ensures
    (omega (arith, c.loop-t-test.false)) c.if-kept-2.true

pub returns-else-kept-2 : goal.returns-else-kept-2
returns-else-kept-2 c =
    let s = c.args in
    let q : ℕ → Asked = ask (lines_of s.inputs.now) (facts_of s.inputs.now) in
    going_gone q s.r.number s.p.number c.follower_in-o.result.number (c.loop-t.t-index + 1) _ c.loop-t.invariant c.follower_in-o.ensures
    (omega (arith, c.loop-t-test.false)) c.if-kept-2.false
