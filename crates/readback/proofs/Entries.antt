-- How long the lines of a ledger are, and how many digits numbers have at most. n is a number, e an entry, es are a ledger's entries.
-- Assumes nothing.
use mathlib.Core.Path.{◌≡◌, ◌∙◌}
use mathlib.Core.Bool.{Bool, true, false, cond}
use mathlib.Core.List.{List, [], ◌∷◌, ◌++◌}
use Prim.Native.Nat.{ℕ, ◌+◌, ◌<◌, ◌≤◌}
use native.Mathlib.Omega.{arith}
use lib.Dec.{ltb}
use lib.ListN.{length, length-append}
use borrow.Author.Tests.{lt-ltb}
use Rattle.rules.specs.Lists.{sum}
use Rattle.rules.specs.Text.{TAB, LF}
use Rattle.rules.specs.Written.{width, digits}
use Rattle.rules.specs.Ledger.{Entry, entry_line, total_line}
use Rattle.readback.proofs.Decimals.{digits-length}

-- ---- digits

pub width_one : (n : ℕ) → n < 10 → width n ≡ 1
width_one n h = rw (lt-ltb n 10 h)

pub width_three : (n : ℕ) → n < 1000 → width n ≤ 3
width_three n h = go (ltb n 10) (ltb n 100) (ltb n 1000) (lt-ltb n 1000 h)
  where
    go : (a b c : Bool) → c ≡ true → cond a 1 (cond b 2 (cond c 3 (cond (ltb n 10000) 4 (cond (ltb n 100000) 5 6)))) ≤ 3
    go true b c e = omega arith
    go false true c e = omega arith
    go false false c e = rw e (omega arith)

pub width-five : (n : ℕ) → n < 100000 → width n ≤ 5
width-five n h = go (ltb n 10) (ltb n 100) (ltb n 1000) (ltb n 10000) (ltb n 100000) (lt-ltb n 100000 h)
  where
    go : (a b c d e : Bool) → e ≡ true → cond a 1 (cond b 2 (cond c 3 (cond d 4 (cond e 5 6)))) ≤ 5
    go true b c d e q = omega arith
    go false true c d e q = omega arith
    go false false true d e q = omega arith
    go false false false true e q = omega arith
    go false false false false e q = rw q (omega arith)

-- ---- lines

-- the two numbers that every line of a ledger ends with
pub end-length : (a b : ℕ) → length (digits a ++ (TAB ∷ (digits b ++ (LF ∷ [])))) ≡ 2 + width a + width b
end-length a b =
    length-append (digits a) (TAB ∷ (digits b ++ (LF ∷ [])))
    ∙ omega (arith, length-append (digits b) (LF ∷ []), digits-length a, digits-length b)

pub entry_length : (e : Entry) → length (entry_line e) ≡ 3 + width e.number + width e.origin + width e.bytes
entry_length e =
    length-append (digits e.number) (TAB ∷ (digits e.origin ++ (TAB ∷ (digits e.bytes ++ (LF ∷ [])))))
    ∙ omega (arith, end-length e.origin e.bytes, digits-length e.number)

pub total_length_lem : (es : List Entry) → length (total_line es) ≡ 8 + width (length es) + width (sum (λ (e : Entry). e.bytes) es)
total_length_lem es = omega (arith, end-length (length es) (sum (λ (e : Entry). e.bytes) es))
