-- Read-back: what is written of rows that may follow one another is accepted, with these rows. And the length of what is written.
-- x is a row, t a table, `seen` are the rows of the lines before, l is a line, s a part of a text. Assumes nothing.
use mathlib.Core.Path.{◌≡◌, refl, sym, ap, ◌∙◌, subst}
use mathlib.Core.List.Memᴰ
use mathlib.Core.List.{List, [], ◌∷◌, ◌++◌, map}
use Prim.Native.Nat.{ℕ, ◌+◌, ◌<◌, ◌≤◌}
use native.Mathlib.Omega.{arith}
use lib.ListN.{length, length-append}
use lib.Dec.{T}
use mir.Facts.{and_yes, yes_and, yes_leb}
use borrow.Author.Tests.{ne_eqb, le-leb}
use Rattle.rules.specs.Limits.{BYTES}
use Rattle.rules.specs.Codes.{accepted}
use Rattle.rules.specs.Lists.{◌∈◌, every}
use Rattle.rules.specs.Text.{TAB, LF, allowed, count, before, after, lines, ended, digit, value}
use Rattle.rules.specs.Line.{Row, number_part, parent_part, content_part, row_of}
use Rattle.rules.specs.Table.{fault, readable, verdict}
use Rattle.rules.specs.Written.{width, digits, body, line, written, content_bytes, frame_bytes}
use Rattle.rules.specs.Demands.{Writable}
use Rattle.trees.proofs.Marks.{record_high}
use Rattle.readback.proofs.Splitting.{every_in, every_append, before_at, after-at, count_at, joined, joined-ended, joined-lines}
use Rattle.readback.proofs.Decimals.{digit_is, digits-every, digits_decimal, digits_value, digits-length}
use Rattle.readback.proofs.Following.{Follows, Good, good_writable}
use Rattle.readback.proofs.Faults.{KeepsRules, no_fault}
use Rattle.readback.proofs.Accepting.{Faultless, text_readable}

-- ---- digits in a line

no_tab : (n : ℕ) → TAB ∈ digits n → ⊥
no_tab n m = every_in digit (digits n) (digits-every n) m

digit-allowed : (x : ℕ) → T (digit x) → T (allowed x)
digit-allowed x t =
    let d = digit_is x t in
    rw (ne_eqb x TAB (omega (arith, d.0)), le-leb 32 x (omega (arith, d.0)), le-leb x 126 (omega (arith, d.1))) tt

every-allowed : (s : List ℕ) → T (every digit s) → T (every allowed s)
every-allowed [] t = tt
every-allowed (x ∷ s) t =
    let a = and_yes (digit x) (every digit s) t in
    yes_and (allowed x) (every allowed s) (digit-allowed x a.0) (every-allowed s a.1)

pub digits-allowed : (n : ℕ) → T (every allowed (digits n))
digits-allowed n = every-allowed (digits n) (digits-every n)

-- ---- one line

module _ (x : Row) where
  -- what stands after the number and its tab
  abbrev rest : List ℕ
  rest = digits x.parent ++ (TAB ∷ x.content)

  body_number : number_part (body x) ≡ digits x.number
  body_number = before_at TAB (digits x.number) rest (no_tab x.number)

  body-rest : after TAB (body x) ≡ rest
  body-rest = after-at TAB (digits x.number) rest (no_tab x.number)

  body_parent : parent_part (body x) ≡ digits x.parent
  body_parent = ap (before TAB) body-rest ∙ before_at TAB (digits x.parent) x.content (no_tab x.parent)

  body-content : content_part (body x) ≡ x.content
  body-content = ap (after TAB) body-rest ∙ after-at TAB (digits x.parent) x.content (no_tab x.parent)

  body_bytes : Writable x.content → T (every allowed (body x))
  body_bytes w =
      every_append allowed (digits x.number) (TAB ∷ rest) (digits-allowed x.number)
      (every_append allowed (digits x.parent) (TAB ∷ x.content) (digits-allowed x.parent) w.bytes)

  body_tabs : 2 ≤ count TAB (body x)
  body_tabs = omega (arith, count_at TAB (digits x.number) rest, count_at TAB (digits x.parent) x.content)

  module _ (seen : List Row) (f : Follows seen x) where
    number_fits : x.number < 1000000
    number_fits = omega (arith, record_high x.number f.number)

    parent_fits : x.parent < 1000000
    parent_fits = omega (arith, f.parent)

    body_rules : KeepsRules (body x)
    body_rules = record {
      bytes = body_bytes f.content;
      tabs = body_tabs;
      number = rw (body_number, digits_decimal x.number number_fits, digits_value x.number number_fits) f.number;
      parent = rw (body_parent, digits_decimal x.parent parent_fits, digits_value x.parent parent_fits) (yes_leb f.parent);
      content = rw body-content f.content.rule;
    }

    -- the row of a written line is the row
    row_back : row_of (body x) ≡ x
    row_back =
        let n : value (number_part (body x)) ≡ x.number = ap value body_number ∙ digits_value x.number number_fits in
        let p : value (parent_part (body x)) ≡ x.parent = ap value body_parent ∙ digits_value x.parent parent_fits in
        λ i. record { number = n i; parent = p i; content = body-content i }

    body-fault : fault seen (body x) ≡ accepted
    body-fault = no_fault seen (body x) body_rules (subst (Follows seen) (sym row_back) f)

-- ---- all lines

pub written-joined : (t : List Row) → written t ≡ joined (map body t)
written-joined [] = refl
written-joined (x ∷ t) = ap (λ (s : List ℕ). line x ++ s) (written-joined t)

pub bodies_faultless : (seen t : List Row) → Good seen t → Faultless seen (map body t)
bodies_faultless seen [] g = tt
bodies_faultless seen (x ∷ t) g =
    let rest : Faultless (seen ++ (x ∷ [])) (map body t) = bodies_faultless (seen ++ (x ∷ [])) t g.1 in
    (body-fault x seen g.0, subst (λ (y : Row). Faultless (seen ++ (y ∷ [])) (map body t)) (sym (row_back x seen g.0)) rest)

pub bodies_rows : (seen t : List Row) → Good seen t → map row_of (map body t) ≡ t
bodies_rows seen [] g = refl
bodies_rows seen (x ∷ t) g = rw (row_back x seen g.0) (ap (λ (r : List Row). x ∷ r) (bodies_rows (seen ++ (x ∷ [])) t g.1))

pub written-lines : (t : List Row) → Good [] t → lines (written t) ≡ map body t
written-lines t g = ap lines (written-joined t) ∙ joined-lines (map body t) no_end
  where
    no_end : (l : List ℕ) → l ∈ map body t → LF ∈ l → ⊥
    no_end l m k =
        let w = Memᴰ.of_map body t m in
        let b : T (every allowed (body w.0)) = body_bytes w.0 (good_writable t g w.0 w.1) in
        every_in allowed l (subst (λ (s : List ℕ). T (every allowed s)) w.2 b) k

-- what is written of rows that may follow one another is accepted, with these rows
pub read_back : (t : List Row) → Good [] t → length (written t) ≤ BYTES → verdict (written t) ≡ readable t
read_back t g h = text_readable (written t) t (record {
  short = h;
  whole = ap ended (written-joined t) ∙ joined-ended (map body t);
  rows = sym (ap (map row_of) (written-lines t g) ∙ bodies_rows [] t g);
  faultless = subst (Faultless []) (sym (written-lines t g)) (bodies_faultless [] t g);
})

-- ---- lengths

pub line-length : (x : Row) → length (line x) ≡ length x.content + (3 + width x.number + width x.parent)
line-length x =
    let number = length-append (digits x.number) (TAB ∷ rest x) in
    let parent = length-append (digits x.parent) (TAB ∷ x.content) in
    length-append (body x) (LF ∷ []) ∙ omega (arith, number, parent, digits-length x.number, digits-length x.parent)

-- "The table's length is that byte total plus, for each record, three and the digits of its number and parent."
pub written-length : (t : List Row) → length (written t) ≡ content_bytes t + frame_bytes t
written-length [] = refl
written-length (x ∷ t) = length-append (line x) (written t) ∙ omega (arith, line-length x, written-length t)
