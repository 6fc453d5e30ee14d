-- The proof of `lay`: the facts of one line are stored together (Rows). Assumes nothing.
use Rattle.std.proofs.Common.{refl, arith}
use Rattle.facts.proofs.Rows.{flat_laid, flat_length}
use Rattle.facts.proofs.Table.lay.Goals as goal

pub returns-clause-facts_after : goal.returns-clause-facts_after
returns-clause-facts_after c = flat_laid c.args.self.now.facts c.args.l _ _ _ _ _ _ (omega (arith, c.requires)) refl

pub returns-clause-all_facts : goal.returns-clause-all_facts
returns-clause-all_facts c = omega (arith, flat_length c.args.self.now.facts)
