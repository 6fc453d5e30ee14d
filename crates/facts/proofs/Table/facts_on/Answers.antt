-- The proof of `facts_on`: what one place of the list tells (Rows). Assumes nothing.
use Rattle.std.proofs.Common.{arith}
use Rattle.facts.proofs.Rows.{facts_at}
use Rattle.facts.proofs.Table.facts_on.Goals as goal

pub returns : goal.returns
returns c = facts_at c.args.self.now.facts c.args.l _ (omega (arith, c.requires, c.type_inv.self))
