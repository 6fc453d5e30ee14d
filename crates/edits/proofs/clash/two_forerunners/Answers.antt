-- The proof of `two_forerunners`: each table is asked who stands there. Assumes nothing.
use Rattle.std.proofs.Common.{rules}
use Rattle.facts.specs.Inputs.{lines_of, facts_of}
use Rattle.edits.specs.Memory.{ask}
use Rattle.edits.proofs.clash.two_forerunners.Goals as goal

pub returns : goal.returns
returns c =
    let a = c.args in
    c.two_neighbours.ensures (λ k. (ask (lines_of a.inputs.now) (facts_of a.inputs.now) k).before a.r.number a.s.number)
    (λ k y h. search rules)
