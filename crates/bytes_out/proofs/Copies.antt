-- A part copied into a buffer, one or eight bytes at a time; the last eight are put even where some of them lie there already. s is the
-- part, o the buffer, at the place of its first byte, i the count of bytes that are copied, left that of the others, k the place of the
-- last eight. Assumes nothing.
use mathlib.Core.Path.{◌≡◌, refl, sym, ap, ◌∙◌}
use mathlib.Core.Logic.{inl}
use mathlib.Core.List.{List, [], ◌∷◌, ◌++◌}
use Prim.Native.Nat.{ℕ, suc, ◌+◌, ◌-◌, ◌<◌, ◌≤◌}
use native.Mathlib.Omega.{arith}
use lib.ListN.{length, get_or, set, take, drop, length-drop, take-append-drop}
use lib.Seq.{sets, length-sets, set-set, take-add, take_all, drop-drop, length-take-le}
use borrow.Author.Rules.{rules}
use borrow.Rule.Slice.PartMut.{put_mid}
use Rattle.text.proofs.Places.{left-next}
use Rattle.bytes_out.specs.Put.{Put}
use Rattle.bytes_out.proofs.Puts.{sets-append, sets_apart, part_set}

-- ---- i bytes of the part are put, and nothing else

pub record Copied (o₀ o : List ℕ) (at : ℕ) (s : List ℕ) (i : ℕ) : Type 0 where
  pub low : i ≤ length s
  pub long : length o ≡ length o₀
  pub is : o ≡ sets o₀ at (take i s)

pub copied_start : (o : List ℕ) (at : ℕ) (s : List ℕ) → Copied o o at s 0
copied_start o at s = record { low = omega arith; long = refl; is = refl }

-- so many more
copied_more : (o₀ o o' : List ℕ) (at : ℕ) (s : List ℕ) (i more : ℕ) → Copied o₀ o at s i → i + more ≤ length s
    → o' ≡ sets o (at + i) (take more (drop i s)) → Copied o₀ o' at s (i + more)
copied_more o₀ o o' at s i more d h e = record {
  low = h;
  long = ap length e ∙ length-sets o (at + i) (take more (drop i s)) ∙ d.long;
  is =
      e ∙ ap (λ (l : List ℕ). sets l (at + i) (take more (drop i s))) d.is
      ∙ ap (λ (j : ℕ). sets (sets o₀ at (take i s)) (at + j) (take more (drop i s))) (sym (length-take-le i s d.low))
      ∙ sym (sets-append o₀ at (take i s) (take more (drop i s))) ∙ ap (sets o₀ at) (sym (take-add i more s));
}

-- ---- one byte at a time

pub record Short (o₀ o : List ℕ) (at : ℕ) (s : List ℕ) (i left : ℕ) : Type 0 where
  pub all : i + left ≡ length s
  pub copied : Copied o₀ o at s i

pub short_start : (o : List ℕ) (at : ℕ) (s : List ℕ) → Short o o at s 0 (length s)
short_start o at s = record { all = omega arith; copied = copied_start o at s }

module _ (o₀ o : List ℕ) (at : ℕ) (s : List ℕ) (i left : ℕ) (d : Short o₀ o at s i left) where
  -- a byte is left
  pub short_low : (j : ℕ) → j < left → i < length s
  short_low j h = omega (arith, d.all)

  pub short_on : (j : ℕ) → j < left → Short o₀ (set o (at + i) (get_or s i 0)) at s (i + 1) (left - 1)
  short_on j h = record {
    all = omega (arith, d.all);
    copied =
        copied_more o₀ o (set o (at + i) (get_or s i 0)) at s i 1 d.copied (omega (arith, d.all))
        (ap (λ (l : List ℕ). sets o (at + i) (take 1 l)) (sym (left-next s i (short_low j h))));
  }

  pub short_end : left ≤ 0 → Put o₀ o at (at + i) s
  short_end h = record {
    wrote = d.copied.is ∙ ap (sets o₀ at) (take_all i s (omega (arith, d.all)));
    place = omega (arith, d.all);
    long = d.copied.long;
  }

pub ruleset shorts = (short_start, short_low, short_on, short_end, rules)

-- ---- eight bytes at a time

-- t are eight bytes of the part
pub eight_set : (o t s : List ℕ) (to i : ℕ) → t ≡ take (i + 8 - i) (drop i s) → i + 8 ≤ length s → to + 8 ≤ length o
    → put_mid to (to + 8 - to) o t ≡ sets o to (take 8 (drop i s))
eight_set o t s to i e h g =
    let eight : i + 8 - i ≡ 8 = omega arith in
    let long : length (take 8 (drop i s)) ≡ 8 = length-take-le 8 (drop i s) (omega (arith, h, length-drop i s)) in
    part_set o t to (to + 8 - to) (take 8 (drop i s)) (e ∙ ap (λ j. take j (drop i s)) eight) (omega (arith, long))
    (omega (arith, g, long))

sets_twice : (o : List ℕ) (at : ℕ) (s : List ℕ) → sets (sets o at s) at s ≡ sets o at s
sets_twice o at [] = refl
sets_twice o at (x ∷ s) =
    ap (λ (l : List ℕ). sets l (suc at) s)
    (sym (sets_apart (set o at x) (suc at) s at x (inl (omega arith))) ∙ ap (λ (l : List ℕ). sets l (suc at) s) (set-set o at x x))
    ∙ sets_twice (set o at x) (suc at) s

-- b lies there already
sets_again : (o : List ℕ) (at : ℕ) (a b c : List ℕ) → sets (sets o at (a ++ b)) (at + length a) (b ++ c) ≡ sets o at (a ++ (b ++ c))
sets_again o at a b c =
    let k = at + length a in
    sets-append (sets o at (a ++ b)) k b c
    ∙ ap (λ (l : List ℕ). sets l (k + length b) c)
    (ap (λ (l : List ℕ). sets l k b) (sets-append o at a b) ∙ sets_twice (sets o at a) k b)
    ∙ sym (sets-append (sets o at a) k b c) ∙ sym (sets-append o at a (b ++ c))

module _ (o₀ o : List ℕ) (at : ℕ) (s : List ℕ) (i : ℕ) (d : Copied o₀ o at s i) {o' : List ℕ} where
  pub long-on : (k : ℕ) → k ≡ length s - 8 → i < k → o' ≡ sets o (at + i) (take 8 (drop i s)) → Copied o₀ o' at s (i + 8)
  long-on k q h e = copied_more o₀ o o' at s i 8 d (omega arith) e

  pub long-end : (k : ℕ) → 8 ≤ length s → k ≡ length s - 8 → k ≤ i → o' ≡ sets o (at + k) (take 8 (drop k s))
      → Put o₀ o' at (at + length s) s
  long-end k g q h e = record {
    wrote =
        e ∙ (λ j. sets ((d.is ∙ ap (sets o₀ at) split) j) (at + sym (length-take-le k s (omega arith)) j) (all j))
        ∙ sets_again o₀ at (take k s) (take (i - k) (drop k s)) (drop i s)
        ∙ ap (sets o₀ at) (ap (λ (l : List ℕ). take k s ++ l) (sym whole) ∙ take-append-drop k s);
    place = refl;
    long = ap length e ∙ length-sets o (at + k) (take 8 (drop k s)) ∙ d.long;
  }
    where
      split : take i s ≡ take k s ++ take (i - k) (drop k s)
      split = let m : k + (i - k) ≡ i = omega arith in ap (λ (j : ℕ). take j s) (sym m) ∙ take-add k (i - k) s

      whole : drop k s ≡ take (i - k) (drop k s) ++ drop i s
      whole =
          let m : k + (i - k) ≡ i = omega arith in
          sym (take-append-drop (i - k) (drop k s))
          ∙ ap (λ (l : List ℕ). take (i - k) (drop k s) ++ l) (drop-drop (i - k) k s ∙ ap (λ (j : ℕ). drop j s) m)

      all : take 8 (drop k s) ≡ take (i - k) (drop k s) ++ drop i s
      all = take_all 8 (drop k s) (omega (arith, length-drop k s)) ∙ whole

pub ruleset longs = (copied_start, long-on, long-end, rules)
