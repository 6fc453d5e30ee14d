-- The digits of a number, put into a buffer from the last to the first. n is the number, o the buffer, at the place
-- of the first digit, to that of the digit put last, rest what of the number is not put yet. Assumes nothing.
use mathlib.Core.Path.{◌≡◌, sym, ap, ◌∙◌}
use mathlib.Core.Logic.{inr}
use mathlib.Core.List.{List, [], ◌∷◌}
use Prim.Native.Nat.{ℕ, suc, ◌+◌, ◌-◌, ◌/◌, ◌%◌, ◌<◌}
use native.Mathlib.Omega.{arith}
use lib.ListN.{set}
use lib.Seq.{sets}
use Rattle.rules.specs.Written.{last_digits}
use Rattle.readback.proofs.Decimals.{last_digits-length}
use Rattle.bytes_out.proofs.Puts.{sets-append, sets_apart}

-- one more digit, in front of which j others are still to be put
one_digit : (o : List ℕ) (at rest to j k : ℕ) → to ≡ at + j → k ≡ suc j
    → sets (set o to (48 + rest % 10)) at (last_digits j (rest / 10)) ≡ sets o at (last_digits k rest)
one_digit o at rest to j k e f =
    let l = last_digits-length j (rest / 10) in
    rw (e, f)
    (sets_apart o at (last_digits j (rest / 10)) (at + j) (48 + rest % 10) (inr (omega (arith, l)))
    ∙ ap (λ (i : ℕ). set (sets o at (last_digits j (rest / 10))) (at + i) (48 + rest % 10)) (sym l)
    ∙ sym (sets-append o at (last_digits j (rest / 10)) ((48 + rest % 10) ∷ [])))

pub digits_on : (o : List ℕ) (at rest to : ℕ) → at < to
    → sets (set o (to - 1) (48 + rest % 10)) at (last_digits (to - 1 - at) (rest / 10)) ≡ sets o at (last_digits (to - at) rest)
digits_on o at rest to h = one_digit o at rest (to - 1) (to - 1 - at) (to - at) (omega arith) (omega arith)
