-- The number that the plain bytes from a place on write: its digits, as their loop goes, and then the byte that ended them. s is the
-- text, i and `from` are places in it, t is what is left of it, v the number that the digits before write, x a byte. Assumes nothing.
use mathlib.Core.Path.{◌≡◌, refl, sym, ap, ◌∙◌}
use mathlib.Core.Bool.{Bool, true, false, cond, ◌&&◌, true≢false, and-false}
use mathlib.Core.List.{List, [], ◌∷◌}
use Prim.Native.Nat.{ℕ, suc, ◌+◌, ◌-◌, ◌*◌, ◌^◌, ◌<◌, ◌≤◌}
use native.Mathlib.Omega.{arith}
use native.Mathlib.Nat.{le_trans}
use lib.Dec.{leb}
use lib.ListN.{length, get_or, take, drop, length-drop}
use lib.Seq.{get_or-drop}
use mir.Val.{Fits}
use mir.Syntax.{w64}
use borrow.Author.Rules.{rules}
use borrow.Author.Tests.{le-leb, lt-leb, leb-true, leb-false}
use Rattle.std.specs.Prelude.{Option, Some, None}
use Rattle.std.specs.Bool.{then_some}
use Rattle.rules.specs.Limits.{GREATEST}
use Rattle.rules.specs.Lists.{every}
use Rattle.rules.specs.Text.{LF, digit, no_leading_zero, value_from, value}
use Rattle.text.specs.Reads.{byte_at, plain, plain_run, number_in, number_at, digit_run, digits_of}
use Rattle.text.specs.declared.Digits.{Digits}
use Rattle.text.specs.declared.Number.{Number}
use Rattle.text.proofs.Places.{left-next}
use Rattle.text.proofs.Runs.{both, run_le}

-- ---- the digits, as their loop goes

-- those behind the ones that write v, if s starts at a place: how many there are up to their end, and what they write
abbrev pub digits_from : ℕ → ℕ → List ℕ → Digits
digits_from v place s = record { count = place + digit_run v s; value = value_from v (take (digit_run v s) s) }

-- they end where what they write is above the greatest number, or where no digit is next
module _ (s : List ℕ) (whole : Digits) (v i : ℕ) (same : digits_from v i (drop i s) ≡ whole) (h : i < length s) where
  stopped : digit_run v (drop i s) ≡ 0 → record { count = i; value = v } ≡ whole
  stopped e = (λ j. record { count = place j; value = written j }) ∙ same
    where
      place : i ≡ i + digit_run v (drop i s)
      place = omega (arith, e)

      written : v ≡ value_from v (take (digit_run v (drop i s)) (drop i s))
      written = rw e

  pub digits_great : GREATEST < v → record { count = i; value = v } ≡ whole
  digits_great g = stopped (rw (left-next s i h, lt-leb v GREATEST g))

  pub digits_other : digit (get_or s i 0) ≡ false → record { count = i; value = v } ≡ whole
  digits_other f = stopped (rw (left-next s i h, f, and-false (leb v GREATEST)))

-- ---- the digits among the plain bytes

digit-plain : (x : ℕ) → digit x ≡ true → plain x ≡ true
digit-plain x e =
    let a = both (leb 48 x) (leb x 57) e in
    rw (le-leb 32 x (omega (arith, leb-true 48 x a.0)), le-leb x 126 (omega (arith, leb-true x 57 a.1)))

-- the value only grows
value_grows : (v : ℕ) (t : List ℕ) → v ≤ value_from v t
value_grows v [] = search rules
value_grows v (x ∷ t) = le_trans (omega arith) (value_grows (v * 10 + (x - 48)) t)

digits_le : (v : ℕ) (t : List ℕ) → digit_run v t ≤ length t
digits_le v [] = omega arith
digits_le v (x ∷ t) = go (leb v GREATEST && digit x) (digits_le (v * 10 + (x - 48)) t)
  where
    go : (u : Bool) → digit_run (v * 10 + (x - 48)) t ≤ length t → cond u (suc (digit_run (v * 10 + (x - 48)) t)) 0 ≤ suc (length t)
    go true h = omega arith
    go false h = omega arith

digits-all : (v : ℕ) (t : List ℕ) → every digit (take (digit_run v t) t) ≡ true
digits-all v [] = refl
digits-all v (x ∷ t) = go (leb v GREATEST && digit x) refl (digits-all (v * 10 + (x - 48)) t)
  where
    go : (u : Bool) → (leb v GREATEST && digit x) ≡ u → every digit (take (digit_run (v * 10 + (x - 48)) t) t) ≡ true
        → every digit (take (cond u (suc (digit_run (v * 10 + (x - 48)) t)) 0) (x ∷ t)) ≡ true
    go true q ih = rw (both (leb v GREATEST) (digit x) q).1 ih
    go false q ih = refl

-- the plain bytes go on behind the digits
digits_run : (v : ℕ) (t : List ℕ) → digit_run v t + plain_run (drop (digit_run v t) t) ≡ plain_run t
digits_run v [] = refl
digits_run v (x ∷ t) = go (leb v GREATEST && digit x) refl (digits_run (v * 10 + (x - 48)) t)
  where
    n : ℕ
    n = digit_run (v * 10 + (x - 48)) t

    go : (u : Bool) → (leb v GREATEST && digit x) ≡ u → n + plain_run (drop n t) ≡ plain_run t
        → cond u (suc n) 0 + plain_run (drop (cond u (suc n) 0) (x ∷ t)) ≡ plain_run (x ∷ t)
    go true q ih = rw (digit-plain x (both (leb v GREATEST) (digit x) q).1) (omega (arith, ih))
    go false q ih = omega arith

-- and where no plain byte follows, they are the plain bytes
run_none : (t : List ℕ) → plain (byte_at t 0) ≡ false → plain_run t ≡ 0
run_none [] e = refl
run_none (x ∷ t) e = rw e

run_ends : (v : ℕ) (t : List ℕ) → plain (byte_at t (digit_run v t)) ≡ false → plain_run t ≡ digit_run v t
run_ends v t e =
    let n : digit_run v t + 0 ≡ digit_run v t = omega arith in
    let first : byte_at (drop (digit_run v t) t) 0 ≡ byte_at t (digit_run v t)
    = get_or-drop (digit_run v t) t 0 LF ∙ ap (byte_at t) n in
    omega (arith, digits_run v t, run_none (drop (digit_run v t) t) (ap plain first ∙ e))

-- where one follows, it is no digit, or what is written is above the greatest number before it
run_bad : (v : ℕ) (t : List ℕ) → plain (byte_at t (digit_run v t)) ≡ true
    → (every digit (take (plain_run t) t) && leb (value_from v (take (plain_run t) t)) GREATEST) ≡ false
run_bad v [] e = absurd (true≢false (sym e))
run_bad v (x ∷ t) e = go (leb v GREATEST) (digit x) refl refl e (run_bad (v * 10 + (x - 48)) t)
  where
    n : ℕ
    n = digit_run (v * 10 + (x - 48)) t

    r : List ℕ
    r = take (plain_run t) t

    great : leb v GREATEST ≡ false → leb (value_from v (x ∷ r)) GREATEST ≡ false
    great q = lt-leb (value_from v (x ∷ r)) GREATEST (le_trans (leb-false v GREATEST q) (value_grows v (x ∷ r)))

    go : (a b : Bool) → leb v GREATEST ≡ a → digit x ≡ b → plain (byte_at (x ∷ t) (cond (a && b) (suc n) 0)) ≡ true
        → (plain (byte_at t n) ≡ true → (every digit r && leb (value_from (v * 10 + (x - 48)) r) GREATEST) ≡ false)
        → (every digit (take (plain_run (x ∷ t)) (x ∷ t)) && leb (value_from v (take (plain_run (x ∷ t)) (x ∷ t))) GREATEST) ≡ false
    go true true p q f ih = rw (digit-plain x q, q) (ih f)
    go true false p q f ih = rw (f, q)
    go false b p q f ih = rw (f, great p) (and-false (every digit (x ∷ r)))

-- ---- the ways through reading a number

chosen : (b : Bool) (n : ℕ) → then_some b n ≡ cond b (Some n) None
chosen true n = refl
chosen false n = refl

-- what is told of what is left from a place on
abbrev number_of : ℕ → List ℕ → Number
number_of from t = record { end = from + plain_run t; value = number_in (take (plain_run t) t) }

-- t is what is left from a place on, `found` its digits, `written` the digits themselves, `behind` what stands behind them
module _ (s t : List ℕ) (from : ℕ) (found : Digits) (e : t ≡ drop from s) (f : found ≡ digits_of t) where
  count_is : found.count ≡ digit_run 0 t
  count_is = ap (λ (d : Digits). d.count) f

  pub count_le : found.count ≤ length t
  count_le = omega (arith, count_is, digits_le 0 t)

  -- nothing is left of a text that ends before the place
  pub left_fits : (n : ℕ) → from < 2 ^ 64 → length s < 2 ^ 64 → n ≤ length t → Fits w64 (from + n)
  left_fits n h k l = record { fits = omega (arith, h, k, l, ap length e, length-drop from s) }

  module _ (behind : List ℕ) (u : Bool) (b : behind ≡ drop found.count t) (p : u ≡ plain (byte_at behind 0)) where
    left : behind ≡ drop (digit_run 0 t) t
    left = b ∙ ap (λ (n : ℕ). drop n t) count_is

    tested : u ≡ plain (byte_at t (digit_run 0 t))
    tested =
        let z : digit_run 0 t + 0 ≡ digit_run 0 t = omega arith in
        p ∙ ap (λ (r : List ℕ). plain (byte_at r 0)) left ∙ ap plain (get_or-drop (digit_run 0 t) t 0 LF ∙ ap (byte_at t) z)

    run_is : found.count + plain_run behind ≡ plain_run t
    run_is = omega (arith, count_is, ap plain_run left, digits_run 0 t)

    pub run_fits : found.count + plain_run behind ≤ length t
    run_fits = omega (arith, run_is, run_le t)

    pub number_plain : u ≡ true → record { end = from + found.count + plain_run behind; value = None } ≡ number_at s from
    number_plain q = (λ i. record { end = finish i; value = none i }) ∙ ap (number_of from) e
      where
        finish : from + found.count + plain_run behind ≡ from + plain_run t
        finish = omega (arith, run_is)

        bad : (x y z : Bool) → (x && z) ≡ false → ((x && y) && z) ≡ false
        bad true true z g = g
        bad true false z g = refl
        bad false y z g = refl

        none : None ≡ number_in (take (plain_run t) t)
        none =
            let all = every digit (take (plain_run t) t) in
            let low = leb (value (take (plain_run t) t)) GREATEST in
            rw (bad all (no_leading_zero (take (plain_run t) t)) low (run_bad 0 t (sym tested ∙ q)))

    pub number_read : (written : List ℕ) (decimal : Bool) (n : Option ℕ) → u ≡ false → written ≡ take found.count t
        → decimal ≡ (no_leading_zero written && leb found.value GREATEST) → n ≡ then_some decimal found.value
        → record { end = from + found.count; value = n } ≡ number_at s from
    number_read written decimal n q w d g = (λ i. record { end = finish i; value = same i }) ∙ ap (number_of from) e
      where
        ends : plain_run t ≡ digit_run 0 t
        ends = run_ends 0 t (sym tested ∙ q)

        finish : from + found.count ≡ from + plain_run t
        finish = omega (arith, count_is, ends)

        same : n ≡ number_in (take (plain_run t) t)
        same = g ∙ chosen_is ∙ chosen _ _ ∙ rw (ends, digits-all 0 t)
          where
            r : List ℕ
            r = take (digit_run 0 t) t

            value_is : found.value ≡ value r
            value_is = ap (λ (g : Digits). g.value) f

            written_is : written ≡ r
            written_is = w ∙ ap (λ (n : ℕ). take n t) count_is

            chosen_is : then_some decimal found.value ≡ then_some (no_leading_zero r && leb (value r) GREATEST) (value r)
            chosen_is =
                (λ i. then_some (d i) found.value)
                ∙ (λ i. then_some (no_leading_zero (written_is i) && leb (value_is i) GREATEST) (value_is i))

pub ruleset numbers = (count_le, left_fits, run_fits, number_plain, number_read)
