-- The proof of `read_all`: one table more, or the first that is refused (Turns). Assumes nothing.
use Rattle.std.proofs.Common.{rules}
use Rattle.facts.specs.Inputs.{texts_of}
use Rattle.table.proofs.Turns.{reading-start, reading_unread, reading_refused, reading_on, texts_same}
use Rattle.table.proofs.read_all.Goals as goal

pub loop-t-init : goal.loop-t-init
loop-t-init c = reading-start _ (search rules) c.requires

pub read_input-requires : goal.read_input-requires
read_input-requires c = reading_unread (texts_of c.args.inputs.now) c.loop-t.input-items c.loop-t.t c.loop-t.invariant (search rules) _

pub returns-in-Err-clause-texts : goal.returns-in-Err-clause-texts
returns-in-Err-clause-texts c =
    texts_same (texts_of c.args.inputs.now) c.loop-t.input-items c.loop-t.t c.loop-t.invariant (search rules) _ _ c.in-Err.ensures.text

pub returns-in-Err-clause-read : goal.returns-in-Err-clause-read
returns-in-Err-clause-read c =
    reading_refused (texts_of c.args.inputs.now) c.loop-t.input-items c.loop-t.t c.loop-t.invariant (search rules) _ _ c.in-Err.ensures.text
    c.in-Err.why c.in-Err.ensures.read

pub loop-t-preserved : goal.loop-t-preserved
loop-t-preserved c =
    reading_on (texts_of c.args.inputs.now) c.loop-t.input-items c.loop-t.t c.loop-t.invariant (search rules) _ _ c.in_default.ensures.text
    (search rules)
