-- `number_at` meets its contract. Assumes nothing.
use Rattle.std.proofs.Common.{◌≡◌, ◌&&◌, ◌∙◌, leb, rules}
use Rattle.rules.specs.Limits.{GREATEST}
use Rattle.rules.specs.Text.{no_leading_zero}
use Rattle.text.proofs.Decimals.{number_read}
use Rattle.text.proofs.number_at.Goals as goal
use Rattle.text.proofs.number_at.Goals.{then-no_leading_zero, else-no_leading_zero}

pub returns : goal.returns
returns c = search (rules, number_read, decimal)
  where
    decimal : c.if-no_leading_zero.decimal ≡ (no_leading_zero c.split_at.result.0.now && leb c.digits_of-digits.result.value GREATEST)
    decimal =
        elim c.if-no_leading_zero.branch [
          | then-no_leading_zero w ↦ rw (← c.no_leading_zero.ensures, w.if-no_leading_zero.true) w.decimal-is
          | else-no_leading_zero w ↦
              rw (← c.no_leading_zero.ensures, w.if-no_leading_zero.false) (w.decimal-is ∙ w.if-no_leading_zero.false)
        ]
