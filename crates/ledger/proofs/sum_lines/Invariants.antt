-- The proof of `sum_lines`: each turn adds one line (Summing). Assumes nothing.
use Rattle.facts.specs.Table.{facts_in}
use Rattle.ledger.proofs.Summing.{Summing}
use Rattle.ledger.proofs.sum_lines.Given as goal

abbrev pub invariant-loop-f : goal.invariant-loop-f
invariant-loop-f l = Summing (facts_in l.table) l.frames l.entries l.bytes l.f-index
