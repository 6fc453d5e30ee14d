-- The plain bytes of a text from a place on, the byte behind them, and the number that they write. s is the text, `from` the place,
-- `end` the place where the plain bytes end, x the byte there. Assumes nothing.
use mathlib.Core.Path.{◌≡◌, sym, ap, ◌∙◌}
use mathlib.Core.Bool.{false}
use mathlib.Core.List.{List, ◌∷◌, ◌++◌}
use Prim.Native.Nat.{ℕ, suc, ◌+◌, ◌-◌, ◌<◌, ◌≤◌}
use native.Mathlib.Omega.{arith}
use lib.Dec.{T}
use lib.ListN.{length, get_or, take, drop, length-drop, take-append-drop}
use lib.Seq.{length-take-le, get_or-drop, drop-drop}
use Rattle.rules.specs.Lists.{every}
use Rattle.rules.specs.Text.{TAB, LF}
use Rattle.text.specs.Reads.{byte_at, plain, plain_run, number_in, number_at}
use Rattle.text.specs.declared.Number.{Number}
use Rattle.text.proofs.Runs.{run_le}
use Rattle.line.proofs.PlainBytes.{run_plain, run_stops, run_next}

-- the byte at a place is the first of what is left there
pub byte_first : (s : List ℕ) (place : ℕ) → get_or (drop place s) 0 LF ≡ byte_at s place
byte_first s place = let e : place + 0 ≡ place = omega arith in get_or-drop place s 0 LF ∙ ap (λ (n : ℕ). get_or s n LF) e

-- ---- the part of s between two places

abbrev pub part : List ℕ → ℕ → ℕ → List ℕ
part s from end = take (end - from) (drop from s)

-- plain bytes that end with a tab
pub record Tabbed (s : List ℕ) (from end : ℕ) : Type 0 where
  pub low : from ≤ end
  pub high : end < length s
  pub bytes : T (every plain (part s from end))
  pub long : length (part s from end) ≡ end - from
  pub parted : drop from s ≡ part s from end ++ (TAB ∷ drop (end + 1) s)

module _ (s : List ℕ) (from end x : ℕ) (e : end ≡ from + plain_run (drop from s)) (b : x ≡ byte_at s end) where
  run_long : end - from ≡ plain_run (drop from s)
  run_long = omega (arith, e)

  pub part-plain : T (every plain (part s from end))
  part-plain = rw run_long (run_plain (drop from s))

  part-long : length (part s from end) ≡ end - from
  part-long = length-take-le (end - from) (drop from s) (omega (arith, run_long, run_le (drop from s)))

  pub part_left : drop from s ≡ part s from end ++ drop end s
  part_left =
      let k : from + (end - from) ≡ end = omega (arith, e) in
      sym (take-append-drop (end - from) (drop from s))
      ∙ ap (λ (t : List ℕ). part s from end ++ t) (drop-drop (end - from) from s ∙ ap (λ (n : ℕ). drop n s) k)

  byte_is : x ≡ get_or (drop from s) (plain_run (drop from s)) LF
  byte_is = b ∙ ap (λ (n : ℕ). get_or s n LF) e ∙ sym (get_or-drop from s (plain_run (drop from s)) LF)

  -- the byte behind the plain ones is not plain
  pub byte_stops : plain x ≡ false
  byte_stops = ap plain byte_is ∙ run_stops (drop from s)

  -- what is left there starts with it, unless it is an LF or the end of the text
  pub left_byte : (x ≡ LF → ⊥) → drop end s ≡ x ∷ drop (end + 1) s
  left_byte n =
      let k : from + suc (plain_run (drop from s)) ≡ end + 1 = omega (arith, e) in
      ap (λ (m : ℕ). drop m s) e ∙ sym (drop-drop (plain_run (drop from s)) from s)
      ∙ run_next (drop from s) (λ f. n (byte_is ∙ f))
      ∙ ap (λ (y : ℕ). y ∷ drop (suc (plain_run (drop from s))) (drop from s)) (sym byte_is)
      ∙ ap (λ (t : List ℕ). x ∷ t) (drop-drop (suc (plain_run (drop from s))) from s ∙ ap (λ (m : ℕ). drop m s) k)

  pub tabbed : x ≡ TAB → Tabbed s from end
  tabbed t =
      let other : x ≡ LF → ⊥ = λ f. absurd (omega (arith, t, f)) in
      let l : drop end s ≡ TAB ∷ drop (end + 1) s = left_byte other ∙ ap (λ (y : ℕ). y ∷ drop (end + 1) s) t in
      record {
        low = omega (arith, e);
        high = omega (arith, ap length l, length-drop end s);
        bytes = part-plain;
        long = part-long;
        parted = part_left ∙ ap (λ (r : List ℕ). part s from end ++ r) l;
      }

-- the number that they write
module _ (s : List ℕ) (from : ℕ) (number : Number) (e : number ≡ number_at s from) where
  pub number_end : number.end ≡ from + plain_run (drop from s)
  number_end = ap (λ (n : Number). n.end) e

  pub part_number : number.value ≡ number_in (part s from number.end)
  part_number =
      let long : plain_run (drop from s) ≡ number.end - from = omega (arith, number_end) in
      ap (λ (n : Number). n.value) e ∙ ap (λ (k : ℕ). number_in (take k (drop from s))) long

  -- a tab behind it stands within the text
  pub number_high : (x : ℕ) → x ≡ byte_at s number.end → x ≡ TAB → number.end < length s
  number_high x b t = (tabbed s from number.end x number_end b t).high
