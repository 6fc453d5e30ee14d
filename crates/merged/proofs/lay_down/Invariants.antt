-- The proof of `lay_down`: at each turn the lists that are begun stand on a path (Outer); each way on is a law of Turns. Assumes nothing.
use Rattle.std.proofs.Common.{◌+◌, ◌-◌}
use Rattle.facts.specs.Memory.{ROOM}
use Rattle.facts.specs.Table.{lines_in, facts_in}
use Rattle.facts.specs.Inputs.{texts_of, lines_of, facts_of}
use Rattle.edits.specs.Least.{numbered}
use Rattle.merged.specs.Memory.{kept_next, kept_part}
use Rattle.merged.proofs.Turns.{Outer}
use Rattle.merged.proofs.lay_down.Given as goal

abbrev pub invariant-loop-lists : goal.invariant-loop-lists
invariant-loop-lists l =
    let n = l.inputs in
    Outer (kept_next (lines_of n) (facts_of n)) (kept_part (texts_of n) (lines_of n) (facts_of n)) (lines_in l.initial.merged)
    (facts_in l.initial.merged) (lines_in l.merged) (facts_in l.merged) l.r.number l.p.number l.count l.lists (numbered l.broken)

abbrev pub decreases-loop-lists : goal.decreases-loop-lists
decreases-loop-lists l = (ROOM - l.count) + (ROOM - l.count) + l.lists
