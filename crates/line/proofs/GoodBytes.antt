-- Bytes of a content tested in groups: each is plain, or a tab behind no tab. s is a text or what is left of one, i a place in it, x a
-- byte, y the byte before it, n how many bytes are tested. Assumes nothing.
use mathlib.Core.Path.{◌≡◌, refl, sym, ap, ◌∙◌}
use mathlib.Core.Bool.{Bool, true, false, not, ◌&&◌, ◌||◌, and-true, and_assoc, true≢false}
use mathlib.Core.List.{List, [], ◌∷◌}
use Prim.Native.Nat.{ℕ, zero, suc, ◌+◌, ◌-◌, ◌<◌, ◌≤◌}
use native.Mathlib.Omega.{arith}
use lib.Dec.{eqb}
use lib.ListN.{length, get_or, drop, length-drop}
use lib.Seq.{get_or-drop, drop-drop}
use borrow.Author.Tests.{eqb-true}
use Rattle.std.proofs.lemmas.List.{get_or_default}
use Rattle.rules.specs.Text.{TAB, LF}
use Rattle.text.specs.Reads.{byte_at, plain}
use Rattle.text.proofs.Places.{left-next}
use Rattle.text.proofs.Runs.{both}
use Rattle.line.specs.Parts.{allowed_run, good_after, good_bytes, good_from, rest_filled, fields_at}

-- ---- one byte

-- a good byte is allowed
good_run : (y x : ℕ) (s : List ℕ) → good_after y x ≡ true → allowed_run (x ∷ s) ≡ suc (allowed_run s)
good_run y x s g = go (eqb x TAB) (plain x) refl refl g
  where
    go : (t p : Bool) → eqb x TAB ≡ t → plain x ≡ p → ((t && not (eqb y TAB)) || p) ≡ true → allowed_run (x ∷ s) ≡ suc (allowed_run s)
    go true p q r h = rw q
    go false true q r h = rw (q, r)
    go false false q r h = absurd (true≢false (sym h))

-- and leaves to be judged what stands behind it
good-filled : (y x : ℕ) (s : List ℕ) → good_after y x ≡ true → rest_filled y (x ∷ s) ≡ rest_filled x s
good-filled y x s g = go (eqb x TAB) (plain x) (eqb y TAB) refl refl refl g
  where
    go : (t p w : Bool) → eqb x TAB ≡ t → plain x ≡ p → eqb y TAB ≡ w → ((t && not w) || p) ≡ true → rest_filled y (x ∷ s) ≡ rest_filled x s
    go true true w q r z h = let k : plain TAB ≡ true = sym (ap plain (eqb-true x TAB q)) ∙ r in absurd (true≢false (sym k))
    go true false true q r z h = absurd (true≢false (sym h))
    go true false false q r z h = rw (q, z)
    go false true w q r z h = rw (q, r)
    go false false w q r z h = absurd (true≢false (sym h))

-- ---- some bytes

-- the byte before the place n of s, where y stands before s
abbrev before-place : ℕ → List ℕ → ℕ → ℕ
before-place y s n = get_or (y ∷ s) n LF

bytes-long : (n y : ℕ) (s : List ℕ) → good_bytes n y s ≡ true → n ≤ length s
bytes-long zero y s g = omega arith
bytes-long (suc n) y [] g = absurd (true≢false (sym g))
bytes-long (suc n) y (x ∷ s) g = let h = bytes-long n x s (both (good_after y x) (good_bytes n x s) g).1 in omega (arith, h)

bytes_run : (n y : ℕ) (s : List ℕ) → good_bytes n y s ≡ true → n + allowed_run (drop n s) ≡ allowed_run s
bytes_run zero y s g = omega arith
bytes_run (suc n) y [] g = absurd (true≢false (sym g))
bytes_run (suc n) y (x ∷ s) g =
    let w = both (good_after y x) (good_bytes n x s) g in
    omega (arith, bytes_run n x s w.1, good_run y x s w.0)

bytes-filled : (n y : ℕ) (s : List ℕ) → good_bytes n y s ≡ true → rest_filled (before-place y s n) (drop n s) ≡ rest_filled y s
bytes-filled zero y s g = refl
bytes-filled (suc n) y [] g = absurd (true≢false (sym g))
bytes-filled (suc n) y (x ∷ s) g =
    let w = both (good_after y x) (good_bytes n x s) g in
    bytes-filled n x s w.1 ∙ sym (good-filled y x s w.0)

-- m bytes, and n behind them
bytes_parted : (m n y : ℕ) (s : List ℕ) → (good_bytes m y s && good_bytes n (before-place y s m) (drop m s)) ≡ good_bytes (m + n) y s
bytes_parted zero n y s = let k : n ≡ 0 + n = omega arith in ap (λ (k : ℕ). good_bytes k y s) k
bytes_parted (suc m) n y [] = let k : suc (m + n) ≡ suc m + n = omega arith in ap (λ (k : ℕ). good_bytes k y []) k
bytes_parted (suc m) n y (x ∷ s) =
    let k : suc (m + n) ≡ suc m + n = omega arith in
    and_assoc (good_after y x) (good_bytes m x s) (good_bytes n (before-place x s m) (drop m s))
    ∙ ap (λ (u : Bool). good_after y x && u) (bytes_parted m n x s)
    ∙ ap (λ (k : ℕ). good_bytes k y (x ∷ s)) k

-- ---- the bytes of a text from a place on

module _ (s : List ℕ) (i : ℕ) where
  -- the byte before the place behind some bytes
  byte_behind : (n : ℕ) → before-place (byte_at s (i - 1)) (drop i s) n ≡ byte_at s (i + n - 1)
  byte_behind zero = let k : i - 1 ≡ i + 0 - 1 = omega arith in ap (byte_at s) k
  byte_behind (suc n) = let k : i + n ≡ i + suc n - 1 = omega arith in get_or-drop i s n LF ∙ ap (byte_at s) k

  left_behind : (n : ℕ) → drop n (drop i s) ≡ drop (i + n) s
  left_behind n = drop-drop n i s

  from_in : (n : ℕ) → 1 ≤ n → good_from n s i ≡ true → i + n ≤ length s
  from_in n h g = omega (arith, bytes-long n (byte_at s (i - 1)) (drop i s) g, length-drop i s)

  from_out : (n : ℕ) → 1 ≤ n → length s < i + n → false ≡ good_from n s i
  from_out n h k = go (good_from n s i) refl
    where
      go : (u : Bool) → good_from n s i ≡ u → false ≡ u
      go true q = absurd (omega (arith, from_in n h q))
      go false q = refl

  -- the fields from behind them are those from before them
  from_on : (n : ℕ) → good_from n s i ≡ true → fields_at s (i + n) ≡ fields_at s i
  from_on n g = λ j. record { end = place j; filled = all j }
    where
      y : ℕ
      y = byte_at s (i - 1)

      place : i + n + allowed_run (drop (i + n) s) ≡ i + allowed_run (drop i s)
      place = omega (arith, bytes_run n y (drop i s) g, ap allowed_run (left_behind n))

      all : rest_filled (byte_at s (i + n - 1)) (drop (i + n) s) ≡ rest_filled y (drop i s)
      all = (λ j. rest_filled (sym (byte_behind n) j) (sym (left_behind n) j)) ∙ bytes-filled n y (drop i s) g

  from_parted : (m n : ℕ) → (good_from m s i && good_from n s (i + m)) ≡ good_from (m + n) s i
  from_parted m n =
      (λ j. good_from m s i && good_bytes n (sym (byte_behind m) j) (sym (left_behind m) j))
      ∙ bytes_parted m n (byte_at s (i - 1)) (drop i s)

  -- one byte more is good
  pub good_on : (k : ℕ) → 1 ≤ i → i + k < length s
      → (good_from k s i && good_after (get_or s (i + k - 1) 0) (get_or s (i + k) 0)) ≡ good_from (k + 1) s i
  good_on k h n = ap (λ (u : Bool). good_from k s i && u) (sym one) ∙ from_parted k 1
    where
      one : good_from 1 s (i + k) ≡ good_after (get_or s (i + k - 1) 0) (get_or s (i + k) 0)
      one =
          rw (← get_or_default s (i + k - 1) 0 LF (omega arith), left-next s (i + k) n)
          (and-true (good_after (get_or s (i + k - 1) 0) (get_or s (i + k) 0)))

pub good_few : (s : List ℕ) (i n : ℕ) → length s - i < n → false ≡ good_from n s i
good_few s i n h = from_out s i n (omega arith) (omega arith)

pub ruleset groups = (good_on, good_few)

-- ---- the loop that passes over them

module _ (s : List ℕ) (i n : ℕ) (r : Bool) (e : r ≡ good_from n s i) (t : r ≡ true) where
  pub passed_in : 1 ≤ n → i + n ≤ length s
  passed_in h = from_in s i n h (sym e ∙ t)

  pub passed_on : fields_at s (i + n) ≡ fields_at s i
  passed_on = from_on s i n (sym e ∙ t)

pub ruleset passing = (passed_in, passed_on)
