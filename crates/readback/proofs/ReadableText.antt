-- A text is read, with its rows, exactly if it is a table with these rows in document 01's words. t is a table, `seen` are the rows of the
-- lines before, x is a row. Assumes nothing.
use mathlib.Core.Path.{◌≡◌, refl, sym, ap, ◌∙◌, subst}
use mathlib.Core.Logic.{◌⊎◌, inl, inr, ◌↔◌}
use mathlib.Core.List.Memᴰ
use mathlib.Core.List.Memᴰ.{head as here}
use mathlib.Core.List.Memᴰ.{tail as there}
use mathlib.Core.List.{List, [], ◌∷◌, ◌++◌, append-nil}
use Prim.Native.Nat.{ℕ, ◌+◌, ◌≤◌}
use native.Mathlib.Omega.{arith}
use lib.Dec.{leb}
use lib.ListN.{length, length-append}
use lib.Seq.{append_snoc}
use mir.Facts.{and_yes, yes_and, leb_yes, yes_leb}
use Rattle.rules.specs.Limits.{GREATEST}
use Rattle.rules.specs.Lists.{◌∈◌}
use Rattle.rules.specs.Marks.{TOP}
use Rattle.rules.specs.Line.{Row}
use Rattle.rules.specs.Table.{numbers, readable, verdict}
use Rattle.rules.specs.Written.{written}
use Rattle.rules.specs.ReadableText.{IsRow, IsTable}
use Rattle.readback.proofs.Contents.{writable_content, content_writable}
use Rattle.readback.proofs.Following.{Follows, Good, good_few, seen_cases}
use Rattle.readback.proofs.Accepting.{good}
use Rattle.readback.proofs.ReadBack.{read_back}
use Rattle.readback.proofs.Canonical.{canonical}

-- ---- one row

follows_row : (seen : List Row) (x : Row) → Follows seen x → IsRow seen x
follows_row seen x f =
    record {
      number = let a = and_yes (leb 1 x.number) (leb x.number GREATEST) f.number in (leb_yes a.0, leb_yes a.1);
      once = f.new;
      parent = up f.under;
      content = writable_content x.content f.content;
    }
  where
    up : x.parent ∈ TOP ∷ numbers seen → (x.parent ≡ 0) ⊎ (x.parent ∈ numbers seen)
    up (here e) = inl e
    up (there m) = inr m

-- the numbers of the lines before are in the range
abbrev Ranged : List Row → Type 0
Ranged seen = (n : ℕ) → n ∈ numbers seen → n ≤ 65535

row_follows : (seen : List Row) (x : Row) → Ranged seen → length seen + 1 ≤ 512 → IsRow seen x → Follows seen x
row_follows seen x ranged room r =
    record {
      room = omega arith;
      number =
          yes_and (leb 1 x.number) (leb x.number GREATEST) (yes_leb r.number.0) (yes_leb r.number.1);
      parent = high r.parent;
      new = r.once;
      under = up r.parent;
      content = content_writable x.content r.content;
    }
  where
    high : (x.parent ≡ 0) ⊎ (x.parent ∈ numbers seen) → x.parent ≤ GREATEST
    high (inl e) = omega arith
    high (inr m) = ranged x.parent m

    up : (x.parent ≡ 0) ⊎ (x.parent ∈ numbers seen) → x.parent ∈ TOP ∷ numbers seen
    up (inl e) = here e
    up (inr m) = there m

-- ---- all rows

-- each row of t stands behind those before it
abbrev Each : List Row → List Row → Type 0
Each seen t = (before : List Row) (x : Row) (after : List Row) → t ≡ before ++ (x ∷ after) → IsRow (seen ++ before) x

good_each : (seen t : List Row) → Good seen t → Each seen t
good_each seen [] g [] x after e = let o : ◌≡◌ {A = ℕ} 0 1 = cc in absurd (omega arith)
good_each seen [] g (y ∷ before) x after e = let o : ◌≡◌ {A = ℕ} 0 1 = cc in absurd (omega arith)
good_each seen (y ∷ t) g [] x after e =
    let same : y ≡ x = cc in
    subst (λ (z : Row). IsRow (seen ++ []) z) same (subst (λ (s : List Row). IsRow s y) (sym (append-nil seen)) (follows_row seen y g.0))
good_each seen (y ∷ t) g (z ∷ before) x after e =
    let same : y ≡ z = cc in
    let rest : t ≡ before ++ (x ∷ after) = cc in
    subst (λ (s : List Row). IsRow s x) (append_snoc seen y before ∙ ap (λ (w : Row). seen ++ (w ∷ before)) same)
    (good_each (seen ++ (y ∷ [])) t g.1 before x after rest)

each_good : (seen t : List Row) → Ranged seen → length seen + length t ≤ 512 → Each seen t → Good seen t
each_good seen [] ranged few h = tt
each_good seen (x ∷ t) ranged few h = (
  row_follows seen x ranged (omega arith) first,
  each_good (seen ++ (x ∷ [])) t more (omega (arith, length-append seen (x ∷ []))) rest,
)
  where
    first : IsRow seen x
    first = subst (λ (s : List Row). IsRow s x) (append-nil seen) (h [] x t refl)

    more : Ranged (seen ++ (x ∷ []))
    more n m = elim (seen_cases seen x n m) [ inl k ↦ ranged n k | inr e ↦ omega (arith, first.number.1) ]

    rest : Each (seen ++ (x ∷ [])) t
    rest before y after e =
        subst (λ (s : List Row). IsRow s y) (sym (append_snoc seen x before)) (h (x ∷ before) y after (ap (λ (r : List Row). x ∷ r) e))

-- ---- the text

-- what is written of rows that may follow one another is a table, if it is not too long
pub good-table : (t : List Row) → Good [] t → length (written t) ≤ 32768 → IsTable (written t) t
good-table t g h = record { lines = refl; rows = good_each [] t g; few = good_few t g; short = h }

pub readable_exactly : (text : List ℕ) (t : List Row) → (verdict text ≡ readable t) ↔ IsTable text t
readable_exactly text t = (to, from)
  where
    to : verdict text ≡ readable t → IsTable text t
    to e =
        let g = good text t e in
        let k = canonical text t e in
        record { lines = k.0; rows = good_each [] t g; few = good_few t g; short = k.1 }

    from : IsTable text t → verdict text ≡ readable t
    from w =
        ap verdict w.lines
        ∙ read_back t (each_good [] t (λ n m. absurd (Memᴰ.not-nil m)) (omega (arith, w.few)) w.rows)
        (omega (arith, ap length w.lines, w.short))
