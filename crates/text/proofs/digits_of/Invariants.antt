-- `digits_of` meets its contract: what is left of the digits goes on behind those passed over. Assumes nothing.
use mathlib.Core.Path.{◌≡◌}
use lib.ListN.{drop}
use Rattle.text.specs.Reads.{digits_of}
use Rattle.text.proofs.Decimals.{digits_from}
use Rattle.text.proofs.digits_of.Given as goal

abbrev pub invariant-loop-count : goal.invariant-loop-count
invariant-loop-count l = digits_from l.value l.count (drop l.count l.s) ≡ digits_of l.s
