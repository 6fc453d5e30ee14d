-- `ends` meets its contract. Assumes nothing.
use Rattle.std.proofs.Common.{◌∙◌, ap, length, length-append, arith}
use Rattle.rules.specs.Text.{LF, count}
use Rattle.text.proofs.Endings.{count_le, count-append}
use Rattle.text.proofs.ends.Goals as goal

pub loop-part-preserved : goal.loop-part-preserved
loop-part-preserved c =
    let part = c.in-Some.part.now in
    let rest = c.next.new.self.rest.now in
    let steps = c.in-Some.ensures.steps in
    let same = ap (count LF) steps.1.0 ∙ count-append part rest in
    let long = ap length steps.1.0 ∙ length-append part rest in
    (omega (arith, steps.0), omega (arith, long, count_le part), omega (arith, same))

pub returns : goal.returns
returns c = omega (arith, c.in-None.ensures.steps.1.0, count_le c.loop-part.part-iterator.rest.now)
