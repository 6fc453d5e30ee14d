-- Decimals: the digits of a number are a decimal that writes it, and a decimal is the digits of the number that it writes. n is a
-- number, k how many digits, s a part of a text, x a byte. Assumes nothing.
use mathlib.Core.Path.{◌≡◌, refl, sym, ap, ◌∙◌, subst}
use mathlib.Core.Bool.{Bool, true, false, cond}
use mathlib.Core.List.{List, [], ◌∷◌, ◌++◌, append-nil}
use Prim.Native.Nat.{ℕ, zero, suc, ◌+◌, ◌-◌, ◌*◌, ◌/◌, ◌%◌, ◌<◌, ◌≤◌}
use native.Mathlib.Omega.{arith}
use lib.ListN.{length, length-append}
use lib.Seq.{append_snoc}
use lib.Dec.{T, T_not, ltb, leb, eqb}
use mir.Facts.{and_yes, yes_and, leb_yes, yes_leb, yes_eqb}
use borrow.Author.Tests.{lt-ltb, le-ltb, ltb-true, ltb-false, ne_eqb}
use Rattle.rules.specs.Lists.{every}
use Rattle.rules.specs.Text.{digit, no_leading_zero, decimal, value_from, value}
use Rattle.rules.specs.Written.{last_digits, width, digits}
use Rattle.trees.proofs.Lists.{is_true}
use Rattle.readback.proofs.Splitting.{every_append, every-left, every_right}

-- ---- digits

-- 10 to the power k
abbrev tens : ℕ → ℕ
tens zero = 1
tens (suc k) = tens k * 10

tens_low : (k : ℕ) → 1 ≤ tens k
tens_low zero = omega arith
tens_low (suc k) = omega (arith, tens_low k)

-- a digit is a byte from `0` to `9`
is_digit : (x : ℕ) → 48 ≤ x → x ≤ 57 → T (digit x)
is_digit x l h = yes_and (leb 48 x) (leb x 57) (yes_leb l) (yes_leb h)

pub digit_is : (x : ℕ) → T (digit x) → (48 ≤ x) × (x ≤ 57)
digit_is x t = let a = and_yes (leb 48 x) (leb x 57) t in (leb_yes a.0, leb_yes a.1)

-- the first byte
abbrev leading : List ℕ → ℕ
leading [] = 0
leading (x ∷ s) = x

leading_snoc : (s : List ℕ) (x : ℕ) → 0 < length s → leading (s ++ (x ∷ [])) ≡ leading s
leading_snoc [] x h = absurd (omega arith)
leading_snoc (y ∷ s) x h = refl

no_zero : (s : List ℕ) → 0 < length s → (leading s ≡ 48 → ⊥) → no_leading_zero s ≡ true
no_zero [] h f = absurd (omega arith)
no_zero (x ∷ []) h f = refl
no_zero (x ∷ y ∷ s) h f = rw (ne_eqb x 48 f)

value_snoc : (v : ℕ) (s : List ℕ) (x : ℕ) → value_from v (s ++ (x ∷ [])) ≡ value_from v s * 10 + (x - 48)
value_snoc v [] x = refl
value_snoc v (y ∷ s) x = value_snoc (v * 10 + (y - 48)) s x

-- ---- the last k digits of n

pub last_digits-length : (k n : ℕ) → length (last_digits k n) ≡ k
last_digits-length zero n = refl
last_digits-length (suc k) n = length-append (last_digits k (n / 10)) ((48 + n % 10) ∷ []) ∙ omega (arith, last_digits-length k (n / 10))

last_digits-value : (k n : ℕ) → n < tens k → value (last_digits k n) ≡ n
last_digits-value zero n h = omega arith
last_digits-value (suc k) n h =
    value_snoc 0 (last_digits k (n / 10)) (48 + n % 10) ∙ omega (arith, last_digits-value k (n / 10) (omega arith))

last_digits-every : (k n : ℕ) → T (every digit (last_digits k n))
last_digits-every zero n = tt
last_digits-every (suc k) n =
    every_append digit (last_digits k (n / 10)) ((48 + n % 10) ∷ []) (last_digits-every k (n / 10))
    (yes_and (digit (48 + n % 10)) true (is_digit (48 + n % 10) (omega arith) (omega arith)) tt)

last_digits-leading : (k n : ℕ) → tens k ≤ n → n < tens (suc k) → leading (last_digits (suc k) n) ≡ 48 → ⊥
last_digits-leading zero n l h e = omega arith
last_digits-leading (suc k) n l h e =
    last_digits-leading k (n / 10) (omega arith) (omega arith)
    (sym (leading_snoc (last_digits (suc k) (n / 10)) (48 + n % 10) (omega (arith, last_digits-length (suc k) (n / 10)))) ∙ e)

-- ---- the width of n

-- n has k digits
record Wide (n k : ℕ) : Type 0 where
  high : n < tens k
  plain : no_leading_zero (last_digits k n) ≡ true

wide_at : (k n : ℕ) → tens k ≤ n → n < tens (suc k) → Wide n (suc k)
wide_at k n l h =
    record { high = h; plain = no_zero (last_digits (suc k) n) (omega (arith, last_digits-length (suc k) n)) (last_digits-leading k n l h) }

wide : (n : ℕ) → n < 1000000 → Wide n (width n)
wide n h = go₁ (ltb n 10) refl
  where
    go₅ : 10000 ≤ n → (t : Bool) → ltb n 100000 ≡ t → Wide n (cond t 5 6)
    go₅ l true e = wide_at 4 n l (ltb-true n 100000 e)
    go₅ l false e = wide_at 5 n (ltb-false n 100000 e) h

    go₄ : 1000 ≤ n → (t : Bool) → ltb n 10000 ≡ t → Wide n (cond t 4 (cond (ltb n 100000) 5 6))
    go₄ l true e = wide_at 3 n l (ltb-true n 10000 e)
    go₄ l false e = go₅ (ltb-false n 10000 e) (ltb n 100000) refl

    go₃ : 100 ≤ n → (t : Bool) → ltb n 1000 ≡ t → Wide n (cond t 3 (cond (ltb n 10000) 4 (cond (ltb n 100000) 5 6)))
    go₃ l true e = wide_at 2 n l (ltb-true n 1000 e)
    go₃ l false e = go₄ (ltb-false n 1000 e) (ltb n 10000) refl

    go₂ : 10 ≤ n → (t : Bool) → ltb n 100 ≡ t → Wide n (cond t 2 (cond (ltb n 1000) 3 (cond (ltb n 10000) 4 (cond (ltb n 100000) 5 6))))
    go₂ l true e = wide_at 1 n l (ltb-true n 100 e)
    go₂ l false e = go₃ (ltb-false n 100 e) (ltb n 1000) refl

    go₁ : (t : Bool) → ltb n 10 ≡ t
        → Wide n (cond t 1 (cond (ltb n 100) 2 (cond (ltb n 1000) 3 (cond (ltb n 10000) 4 (cond (ltb n 100000) 5 6)))))
    go₁ true e = record { high = ltb-true n 10 e; plain = refl }
    go₁ false e = go₂ (ltb-false n 10 e) (ltb n 100) refl

-- ---- digits are a decimal

pub digits-length : (n : ℕ) → length (digits n) ≡ width n
unfolding digits
digits-length n = last_digits-length (width n) n

pub digits-every : (n : ℕ) → T (every digit (digits n))
unfolding digits
digits-every n = last_digits-every (width n) n

-- "no leading zero (0 is written `0`)"
pub digits_decimal : (n : ℕ) → n < 1000000 → decimal (digits n) ≡ true
unfolding digits
digits_decimal n h = rw (is_true (every digit (last_digits (width n) n)) (last_digits-every (width n) n), (wide n h).plain)

-- the digits of n write n
pub digits_value : (n : ℕ) → n < 1000000 → value (digits n) ≡ n
unfolding digits
digits_value n h = last_digits-value (width n) n (wide n h).high

-- ---- a decimal is digits

-- a law on texts, from the last byte to the first
from_end : (P : List ℕ → Type 0) → P [] → ((s : List ℕ) (x : ℕ) → P s → P (s ++ (x ∷ []))) → (s : List ℕ) → P s
from_end P none more s = go [] none s
  where
    go : (seen : List ℕ) → P seen → (s : List ℕ) → P (seen ++ s)
    go seen p [] = subst P (sym (append-nil seen)) p
    go seen p (x ∷ s) = subst P (append_snoc seen x s) (go (seen ++ (x ∷ [])) (more seen x p) s)

length_snoc : (s : List ℕ) (x : ℕ) → length (s ++ (x ∷ [])) ≡ suc (length s)
length_snoc s x = length-append s (x ∷ []) ∙ omega arith

-- all digits but the last, and the last
every_snoc : (s : List ℕ) (x : ℕ) → T (every digit (s ++ (x ∷ []))) → T (every digit s) × (48 ≤ x) × (x ≤ 57)
every_snoc s x t =
    let d = digit_is x (and_yes (digit x) true (every_right digit s (x ∷ []) t)).0 in
    (every-left digit s (x ∷ []) t, d.0, d.1)

-- digits are the last digits of their value
last_digits_of : (s : List ℕ) → T (every digit s) → last_digits (length s) (value s) ≡ s
last_digits_of = from_end (λ s. T (every digit s) → last_digits (length s) (value s) ≡ s) (λ t. refl) more
  where
    more : (s : List ℕ) (x : ℕ) → (T (every digit s) → last_digits (length s) (value s) ≡ s)
        → T (every digit (s ++ (x ∷ []))) → last_digits (length (s ++ (x ∷ []))) (value (s ++ (x ∷ []))) ≡ s ++ (x ∷ [])
    more s x ih t =
        let d = every_snoc s x t in
        let front : (value s * 10 + (x - 48)) / 10 ≡ value s = omega (arith, d.1, d.2) in
        let end : 48 + (value s * 10 + (x - 48)) % 10 ≡ x = omega (arith, d.1, d.2) in
        rw (length_snoc s x, value_snoc 0 s x, front, end) (ap (λ (l : List ℕ). l ++ (x ∷ [])) (ih d.0))

value_high : (s : List ℕ) → T (every digit s) → value s < tens (length s)
value_high = from_end (λ s. T (every digit s) → value s < tens (length s)) (λ t. omega arith) more
  where
    more : (s : List ℕ) (x : ℕ) → (T (every digit s) → value s < tens (length s))
        → T (every digit (s ++ (x ∷ []))) → value (s ++ (x ∷ [])) < tens (length (s ++ (x ∷ [])))
    more s x ih t =
        let d = every_snoc s x t in
        rw (length_snoc s x, value_snoc 0 s x) (omega (arith, ih d.0, d.1, d.2))

value_low : (s : List ℕ) → T (every digit s) → 49 ≤ leading s → tens (length s) ≤ value s * 10
value_low = from_end (λ s. T (every digit s) → 49 ≤ leading s → tens (length s) ≤ value s * 10) (λ t h. absurd (omega arith)) more
  where
    more : (s : List ℕ) (x : ℕ) → (T (every digit s) → 49 ≤ leading s → tens (length s) ≤ value s * 10)
        → T (every digit (s ++ (x ∷ []))) → 49 ≤ leading (s ++ (x ∷ [])) → tens (length (s ++ (x ∷ []))) ≤ value (s ++ (x ∷ [])) * 10
    more [] x ih t h = omega arith
    more (y ∷ s) x ih t h =
        let d = every_snoc (y ∷ s) x t in
        rw (length_snoc s x, value_snoc (0 * 10 + (y - 48)) s x) (omega (arith, ih d.0 h))

width_is : (k n : ℕ) → n < 1000000 → n < tens (suc k) → tens (suc k) ≤ n * 10 → width n ≡ suc k
width_is zero n m h l = rw (lt-ltb n 10 h)
width_is (suc zero) n m h l = rw (le-ltb n 10 (omega arith), lt-ltb n 100 h)
width_is (suc (suc zero)) n m h l = rw (le-ltb n 10 (omega arith), le-ltb n 100 (omega arith), lt-ltb n 1000 h)
width_is (suc (suc (suc zero))) n m h l =
    rw (le-ltb n 10 (omega arith), le-ltb n 100 (omega arith), le-ltb n 1000 (omega arith), lt-ltb n 10000 h)
width_is (suc (suc (suc (suc zero)))) n m h l =
    rw (le-ltb n 10 (omega arith), le-ltb n 100 (omega arith), le-ltb n 1000 (omega arith), le-ltb n 10000 (omega arith), lt-ltb n 100000 h)
width_is (suc (suc (suc (suc (suc zero))))) n m h l =
    rw (
      le-ltb n 10 (omega arith),
      le-ltb n 100 (omega arith),
      le-ltb n 1000 (omega arith),
      le-ltb n 10000 (omega arith),
      le-ltb n 100000 (omega arith),
    )
width_is (suc (suc (suc (suc (suc (suc k)))))) n m h l = absurd (omega (arith, tens_low k))

width_of : (s : List ℕ) → T (every digit s) → T (no_leading_zero s) → value s < 1000000 → width (value s) ≡ length s
width_of [] d z h = absurd z
width_of (x ∷ []) d z h =
    let q = digit_is x (and_yes (digit x) true d).0 in
    rw (lt-ltb (0 * 10 + (x - 48)) 10 (omega (arith, q.1)))
width_of (x ∷ y ∷ s) d z h =
    let q = digit_is x (and_yes (digit x) (every digit (y ∷ s)) d).0 in
    let n : x ≡ 48 → ⊥ = λ e. T_not (eqb x 48) z (yes_eqb e) in
    width_is (suc (length s)) (value (x ∷ y ∷ s)) h (value_high (x ∷ y ∷ s) d) (value_low (x ∷ y ∷ s) d (omega (arith, q.0)))

-- a decimal is the digits of the number that it writes
pub decimal-digits : (s : List ℕ) → T (decimal s) → value s < 1000000 → digits (value s) ≡ s
unfolding digits
decimal-digits s t h =
    let a = and_yes (every digit s) (no_leading_zero s) t in
    ap (λ (k : ℕ). last_digits k (value s)) (width_of s a.0 a.1 h) ∙ last_digits_of s a.0
