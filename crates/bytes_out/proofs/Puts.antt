-- Bytes put into a lent buffer, one run of them after the other, and the line that they make up. o is the buffer, with a number for each
-- state of it; a, b and c are places. Assumes nothing.
use mathlib.Core.Path.{◌≡◌, refl, sym, ap, ◌∙◌, subst}
use mathlib.Core.Logic.{◌⊎◌, inl, inr}
use mathlib.Core.List.{List, [], ◌∷◌, ◌++◌, append_assoc}
use Prim.Native.Nat.{ℕ, suc, ◌+◌, ◌<◌, ◌≤◌}
use native.Mathlib.Omega.{arith}
use native.Mathlib.Nat.{add-zero}
use lib.ListN.{length, set, drop, length-append, length-set}
use lib.Seq.{sets, sets-eq, length-sets, set_comm, drop-drop}
use borrow.Author.Rules.{rules}
use borrow.Rule.Slice.PartMut.{put_mid}
use Rattle.rules.specs.Text.{TAB, LF}
use Rattle.rules.specs.Line.{Row}
use Rattle.rules.specs.Written.{digits, line, over}
use Rattle.bytes_out.specs.Put.{Put, number_field}

-- ---- one after the other

pub sets-append : (o : List ℕ) (at : ℕ) (s t : List ℕ) → sets o at (s ++ t) ≡ sets (sets o at s) (at + length s) t
sets-append o at [] t = rw add-zero
sets-append o at (x ∷ s) t =
    sets-append (set o at x) (suc at) s t ∙ ap (λ (k : ℕ). sets (sets (set o at x) (suc at) s) k t) (omega arith)

-- a byte apart from them, before or behind, may be put first
pub sets_apart : (o : List ℕ) (at : ℕ) (s : List ℕ) (j x : ℕ) → (j < at) ⊎ (at + length s ≤ j)
    → sets (set o j x) at s ≡ set (sets o at s) j x
sets_apart o at [] j x h = refl
sets_apart o at (y ∷ s) j x h =
    ap (λ (l : List ℕ). sets l (suc at) s) (set_comm o j at x y (other h)) ∙ sets_apart (set o at y) (suc at) s j x (further h)
  where
    other : (j < at) ⊎ (at + length (y ∷ s) ≤ j) → j ≡ at → ⊥
    other (inl k) e = omega arith
    other (inr k) e = omega arith

    further : (j < at) ⊎ (at + length (y ∷ s) ≤ j) → (j < suc at) ⊎ (suc at + length s ≤ j)
    further (inl k) = inl (omega arith)
    further (inr k) = inr (omega arith)

pub put_none : (o : List ℕ) (a : ℕ) → Put o o a a []
put_none o a = record { wrote = refl; place = omega arith; long = refl }

pub put_byte : (o : List ℕ) (a x : ℕ) → Put o (set o a x) a (a + 1) (x ∷ [])
put_byte o a x = record { wrote = refl; place = refl; long = length-set o a x }

-- a part of the buffer gets other bytes

pub part_set : (o t : List ℕ) (at k : ℕ) (s : List ℕ) → t ≡ s → k ≡ length s → at + length s ≤ length o → put_mid at k o t ≡ sets o at s
part_set o t at k s d e h = rw (d, e) (simp drop-drop (sym (simp append_assoc at (sets-eq s o at h))))

pub put_part : (o t : List ℕ) (at k : ℕ) (s : List ℕ) → t ≡ s → k ≡ length s → at + length s ≤ length o
    → Put o (put_mid at k o t) at (at + length s) s
put_part o t at k s d e h =
    let same = part_set o t at k s d e h in
    record { wrote = same; place = refl; long = ap length same ∙ length-sets o at s }

pub put_then : {o₀ o₁ o₂ : List ℕ} {a b c : ℕ} {s t : List ℕ} → Put o₀ o₁ a b s → Put o₁ o₂ b c t → Put o₀ o₂ a c (s ++ t)
put_then {o₀} {o₁} {o₂} {a} {b} {c} {s} {t} p q = record {
  wrote = q.wrote ∙ rw (p.wrote, p.place) (sym (sets-append o₀ a s t));
  place = q.place ∙ omega (arith, p.place, length-append s t);
  long = q.long ∙ p.long;
}

-- from byte 0 on: the bytes, and behind them what lay there
pub put-over : {o o' : List ℕ} {b : ℕ} {s : List ℕ} → Put o o' 0 b s → length s ≤ length o → o' ≡ over s o
put-over {o} {o'} {b} {s} p h =
    let e : 0 + length s ≡ length s = omega arith in p.wrote ∙ sets-eq s o 0 (omega arith) ∙ ap (λ (k : ℕ). s ++ drop k o) e

-- ---- the line of a row

pub field_put : (n : ℕ) {o o₁ : List ℕ} {at a : ℕ} → Put o o₁ at a (digits n) → Put o (set o₁ a TAB) at (a + 1) (number_field n)
field_put n {o} {o₁} {at} {a} p = put_then p (put_byte o₁ a TAB)

line-joined : (x : Row) → number_field x.number ++ (number_field x.parent ++ (x.content ++ (LF ∷ []))) ≡ line x
line-joined x = simp append_assoc

pub line-put : (n r : ℕ) (s : List ℕ) {o o₁ o₂ o₃ : List ℕ} {at a b c : ℕ} → Put o o₁ at a (number_field n)
    → Put o₁ o₂ a b (number_field r) → Put o₂ o₃ b c s
    → Put o (set o₃ c LF) at (c + 1) (line (record { number = n; parent = r; content = s }))
line-put n r s {o} {o₁} {o₂} {o₃} {at} {a} {b} {c} p q w =
    subst (Put o (set o₃ c LF) at (c + 1)) (line-joined (record { number = n; parent = r; content = s }))
    (put_then p (put_then q (put_then w (put_byte o₃ c LF))))

pub ruleset puts = (field_put, line-put, rules)
