-- The proof of `end_with`: one fact is stored on the parent's line (Rows). Assumes nothing.
use Rattle.std.proofs.Common.{refl, arith}
use Rattle.facts.specs.Memory.{LAST}
use Rattle.facts.proofs.Rows.{put_on}
use Rattle.facts.proofs.Table.end_with.Goals as goal

pub returns-clause-facts_after : goal.returns-clause-facts_after
returns-clause-facts_after c =
    put_on c.args.self.now.lines c.args.self.now.facts c.args.r.number c.line_of-l.result LAST _ _ _ c.line_of-l.ensures.value
    (omega (arith, c.line_of-l.ensures.upper_bound)) (omega arith) refl
