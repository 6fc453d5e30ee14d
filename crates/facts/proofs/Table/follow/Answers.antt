-- The proof of `follow`: one fact is stored on the line of the parent or of the one before (Rows). Assumes nothing.
use Rattle.std.proofs.Common.{refl, sym, ◌∙◌, arith}
use Rattle.facts.proofs.Rows.{put_first, put_follower}
use Rattle.facts.proofs.Table.follow.Goals as goal

pub returns-then-is_start-clause-facts_after : goal.returns-then-is_start-clause-facts_after
returns-then-is_start-clause-facts_after c =
    put_first c.args.self.now.lines c.args.self.now.facts c.args.n.number c.args.r.number c.args.p.number c.line_of-l.result _ _
    (sym c.is_start.ensures ∙ c.if-is_start.true) c.line_of-l.ensures.value (omega (arith, c.line_of-l.ensures.upper_bound)) refl

pub returns-else-is_start-clause-facts_after : goal.returns-else-is_start-clause-facts_after
returns-else-is_start-clause-facts_after c =
    put_follower c.args.self.now.lines c.args.self.now.facts c.args.n.number c.args.r.number c.args.p.number
    c.line_of-l-else-is_start.result _ _
    (sym c.is_start.ensures ∙ c.if-is_start.false) c.line_of-l-else-is_start.ensures.value
    (omega (arith, c.line_of-l-else-is_start.ensures.upper_bound)) refl
