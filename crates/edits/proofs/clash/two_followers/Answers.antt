-- The proof of `two_followers`: each table is asked who stands there. Assumes nothing.
use Rattle.std.proofs.Common.{rules}
use Rattle.facts.specs.Inputs.{lines_of, facts_of}
use Rattle.edits.specs.Memory.{ask}
use Rattle.edits.proofs.clash.two_followers.Goals as goal

pub returns : goal.returns
returns c =
    let a = c.args in
    c.two_neighbours.ensures (λ k. (ask (lines_of a.inputs.now) (facts_of a.inputs.now) k).after a.r.number a.p.number)
    (λ k y h. search rules)
