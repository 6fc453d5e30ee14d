-- What the answer of reading says of the text: it is refused with this code and line, or it is a table of so many records. text is the
-- table's bytes, ls and fs are the two arrays, a is the answer, t the table's rows. Assumes nothing.
use mathlib.Core.Path.{◌≡◌, refl, sym, ap, ◌∙◌}
use mathlib.Core.List.{List}
use Prim.Native.Nat.{ℕ}
use Rattle.rules.specs.Line.{Row}
use Rattle.rules.specs.Table.{Verdict, readable, unreadable, verdict}
use Rattle.readback.proofs.Accepting.{refused_code}
use Rattle.table.specs.Read.{Read, read_told, Reads}

-- the table that was read
pub record Accepted (text : List ℕ) (a : Read) : Type 0 where
  pub t : List Row
  pub is : verdict text ≡ readable t
  pub answer : a ≡ read_told (readable t)

module _ (text ls fs : List ℕ) (a : Read) (w : Reads text ls fs a) where
  -- the verdict's own numbers
  tells : (v : Verdict) → verdict text ≡ v → a ≡ read_told v
  tells v q = w.answered ∙ ap read_told q

  pub refused : (a.code ≡ 0 → ⊥) → verdict text ≡ unreadable a.code a.line
  refused f = go (verdict text) refl
    where
      go : (v : Verdict) → verdict text ≡ v → verdict text ≡ unreadable a.code a.line
      go (readable t) q = absurd (f (ap (λ (z : Read). z.code) (tells (readable t) q)))
      go (unreadable c l) q =
          let e = sym (tells (unreadable c l) q) in
          q ∙ (λ i. unreadable (e i).code (e i).line)

  pub accepted : a.code ≡ 0 → Accepted text a
  accepted fine = go (verdict text) refl
    where
      go : (v : Verdict) → verdict text ≡ v → Accepted text a
      go (readable t) q = record { t = t; is = q; answer = tells (readable t) q }
      go (unreadable c l) q =
          absurd (refused_code text c l q (sym (ap (λ (z : Read). z.code) (tells (unreadable c l) q)) ∙ fine))
