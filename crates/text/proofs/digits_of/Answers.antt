use mathlib.Core.Path.{sym, ◌∙◌}
use Rattle.text.proofs.Decimals.{digits_great, digits_other}
use Rattle.text.proofs.digits_of.Goals as goal
use Rattle.text.proofs.digits_of.Goals.{then-value-gt-GREATEST-via-then-value-gt-GREATEST}
use Rattle.text.proofs.digits_of.Goals.{then-value-gt-GREATEST-via-else-value-gt-GREATEST+then-not-is_ascii_digit}

pub returns-then-value-gt-GREATEST : goal.returns-then-value-gt-GREATEST
returns-then-value-gt-GREATEST c =
    let l = c.loop-count in
    let h = c.loop-count-test.true in
    elim c.then-value-gt-GREATEST.branch [
      | then-value-gt-GREATEST-via-then-value-gt-GREATEST w ↦
          digits_great c.args.s.now _ l.value l.count l.invariant h w.if-value-gt-GREATEST.true
      | then-value-gt-GREATEST-via-else-value-gt-GREATEST+then-not-is_ascii_digit w ↦
          digits_other c.args.s.now _ l.value l.count l.invariant h (sym w.is_ascii_digit.ensures.value ∙ w.if-not-is_ascii_digit.true)
    ]
