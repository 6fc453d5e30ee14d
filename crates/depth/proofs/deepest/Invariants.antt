-- The proof of `deepest`: the greatest so far, and only right depths are noted. Assumes nothing.
use Rattle.std.proofs.Common.{◌≡◌, ◌-◌, ◌≤◌}
use Rattle.facts.specs.Table.{lines_in, facts_in}
use Rattle.depth.specs.Climbing.{greatest_on, Noted}
use Rattle.depth.proofs.deepest.Given as goal

abbrev pub invariant-loop-l : goal.invariant-loop-l
invariant-loop-l l = record {
  within : l.l - 1 ≤ l.count;
  greatest : l.best ≡ greatest_on (lines_in l.table) (facts_in l.table) (l.l - 1);
  noted : Noted (lines_in l.table) (facts_in l.table) l.noted;
}
