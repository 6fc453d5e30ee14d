-- The proof of `content_part`: each way through it is a law of Told. Assumes nothing.
use Rattle.std.proofs.Common.{rules, refl, sym, ◌∙◌, ◌≡◌, true, false}
use Rattle.brooksaddle.proofs.Told.{told_ok, part_absent, part_there}
use Rattle.brooksaddle.proofs.content_part.Goals as goal

pub returns-then-not-has : goal.returns-then-not-has
returns-then-not-has c =
    let absent : c.has.result ≡ false = search rules in
    part_absent c.args.text.now _ _ _ c.read_table.ensures (told_ok _ (sym c.is_err.ensures.value ∙ c.if-is_err.false))
    c.from-n.result.number
    c.args.number c.has.result _ c.from-n.ensures c.has.ensures absent refl

pub returns : goal.returns
returns c =
    let there : c.has.result ≡ true = search rules in
    part_there c.args.text.now _ _ _ c.read_table.ensures (told_ok _ (sym c.is_err.ensures.value ∙ c.if-is_err.false))
    c.from-n.result.number
    c.args.number _ _ c.has.result c.from-n.ensures c.has.ensures there c.facts_of-facts.ensures.place c.facts_of-facts.ensures.length
