-- The proof of `write_ledger`: each turn is a law of Going. Assumes nothing.
use Rattle.facts.specs.Table.{facts_in}
use Rattle.ledger.proofs.Going.{Going}
use Rattle.ledger.proofs.write_ledger.Given as goal

abbrev pub invariant-loop-f : goal.invariant-loop-f
invariant-loop-f l = Going (facts_in l.table) l.initial.out l.count l.bytes l.out l.at l.f-index
