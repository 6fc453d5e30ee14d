-- The lines of a ledger: how long each is, and what was put, one after the other, makes it up. o is the buffer, with a number for each
-- state of it; p and q are places, l is a line, n a record. Assumes nothing.
use mathlib.Core.Path.{◌≡◌, sym, ap, ◌∙◌, subst}
use mathlib.Core.List.{List, [], ◌∷◌, ◌++◌}
use Prim.Native.Nat.{ℕ, ◌+◌, ◌<◌}
use native.Mathlib.Omega.{arith}
use lib.ListN.{length, set, get_or, take, drop}
use Rattle.std.proofs.lemmas.List.{get_or-take, length-take-le, length-drop}
use Rattle.std.proofs.lemmas.Grind.{get_or_after_one}
use lib.Seq.{append_snoc}
use Rattle.rules.specs.Text.{TAB, LF}
use Rattle.rules.specs.Written.{digits, width}
use Rattle.readback.proofs.Entries.{end-length, entry_length}
use Rattle.facts.specs.Table.{flat, FactsAt}
use Rattle.facts.specs.declared.Facts.{Facts}
use Rattle.facts.proofs.Rows.{facts_at}
use Rattle.bytes_out.specs.Put.{Put, number_field}
use Rattle.bytes_out.proofs.Puts.{put_then, put_byte}
use Rattle.ledger.specs.Entries.{line_end, total_of, Told}
use Rattle.ledger.specs.Sums.{total_length}

-- ---- how long

pub total_length_lem : (a b : ℕ) → length (total_of a b) ≡ total_length a b
total_length_lem a b = omega (arith, end-length a b)

-- by its three numbers, as the code has them
pub entry_long : (n origin long : ℕ) → length (digits n ++ (TAB ∷ line_end origin long)) ≡ 3 + width n + width origin + width long
entry_long n origin long = entry_length (record { number = n; origin = origin; bytes = long })

-- ---- what they are made of

pub end-put : (a b : ℕ) {o o₁ o₂ : List ℕ} {at p q : ℕ} → Put o o₁ at p (number_field a) → Put o₁ o₂ p q (digits b)
    → Put o (set o₂ q LF) at (q + 1) (line_end a b)
end-put a b {o} {o₁} {o₂} {at} {p} {q} x y =
    subst (Put o (set o₂ q LF) at (q + 1)) (append_snoc (digits a) TAB (digits b ++ (LF ∷ [])))
    (put_then x (put_then y (put_byte o₂ q LF)))

pub entry_put : (n origin long : ℕ) {o o₁ o₂ : List ℕ} {at p q : ℕ} → Put o o₁ at p (number_field n) → Put o₁ o₂ p q (line_end origin long)
    → Put o o₂ at q (digits n ++ (TAB ∷ line_end origin long))
entry_put n origin long {o} {o₁} {o₂} {at} {p} {q} x y =
    subst (Put o o₂ at q) (append_snoc (digits n) TAB (line_end origin long)) (put_then x y)

-- ---- what lines tell

pub told : (facts : List Facts) (count n : ℕ) → count < length facts → n ≡ count → Told (flat facts) count (take n (drop 1 facts))
told facts count n h q = rw q record {
  many = length-take-le count (drop 1 facts) (omega (arith, length-drop 1 facts));
  each = λ l none k.
      let e : get_or (take count (drop 1 facts)) l none ≡ get_or facts (l + 1) none =
      get_or-take count (drop 1 facts) l none k ∙ get_or_after_one facts l none ∙ ap (λ (i : ℕ). get_or facts i none) (omega arith) in
      subst (FactsAt (flat facts) (l + 1)) (sym e) (facts_at facts (l + 1) none (omega arith));
}
