-- `few_ends` meets its contract: the ends are counted of what was passed over. Assumes nothing.
use Rattle.std.proofs.Common.{◌≡◌, count_by, eqb, take}
use Rattle.rules.specs.Text.{LF}
use Rattle.text.proofs.few_ends.Given as goal

abbrev pub invariant-loop-x : goal.invariant-loop-x
invariant-loop-x l = l.count ≡ count_by (λ x. eqb x LF) (take l.x-index l.s)
