-- The call of content: `content` (crates/brooksaddle/src/lib.rt) asks nothing, and ensures `HandsBack` of the text handed in and the part
-- handed back; its export answers where that part starts and how long it is. What follows holds of every such call: the part holds the
-- record's content, and stands on the record's own line, behind its number and parent; for a refused table or an absent number it is the
-- empty part at the start of the text. t are a table's rows, x and y are some of them, n is a number. Assumes nothing.
use mathlib.Core.Path.{◌≡◌, refl, sym, ap, ◌∙◌, subst}
use mathlib.Core.List.Memᴰ.{head as here}
use mathlib.Core.List.Memᴰ.{tail as there}
use mathlib.Core.List.{List, [], ◌∷◌, ◌++◌, map}
use Prim.Native.Nat.{ℕ, ◌+◌, ◌-◌, ◌<◌}
use native.Mathlib.Nat.{add-zero}
use native.Mathlib.Omega.{arith}
use denote.Ref.{Bor}
use lib.ListN.{length, take, drop, length-append}
use borrow.Author.Tests.{eq-eqb, ne_eqb}
use Rattle.rules.specs.Lists.{◌∈◌}
use Rattle.rules.specs.Text.{TAB, LF, lines}
use Rattle.rules.specs.Line.{Row, row_of, content_part}
use Rattle.rules.specs.Table.{Verdict, readable, verdict, numbers}
use Rattle.rules.specs.Written.{digits, body, line, written}
use Rattle.rules.specs.Calls.{no_part, part_from, part_of, content_answer}
use Rattle.rules.specs.Promises.{HandsBack}
use Rattle.rules.specs.ReadableText.{IsTable}
use Rattle.rules.specs.UnreadableText.{Refused}
use Rattle.rules.specs.declared.answers.Part.{Part}
use Rattle.readback.proofs.ReadableText.{readable_exactly}
use Rattle.readback.proofs.UnreadableText.{unreadable_exactly}
use Rattle.readback.proofs.Accepting.{good}
use Rattle.readback.proofs.ReadBack.{bodies_rows, written-lines}
use Rattle.readback.proofs.Parts.{part-content, part_none}

-- ---- the part on its own line

-- what stands on a record's line before its content: `number␉parent␉`
abbrev pub frame : Row → ℕ
frame x = length (digits x.number) + 1 + length (digits x.parent) + 1

-- the content of x, behind the lines of the rows before it and its own number and parent
abbrev pub own_part : List Row → Row → Part
own_part before x = record { start = length (written before) + frame x; length = length x.content }

body-long : (x : Row) → length (body x) ≡ frame x + length x.content
body-long x =
    let number = length-append (digits x.number) (TAB ∷ (digits x.parent ++ (TAB ∷ x.content))) in
    omega (arith, number, length-append (digits x.parent) (TAB ∷ x.content))

abbrev part_at : ℕ → Row → List Row → Part
part_at place x before = record { start = place + (length (written before) + frame x); length = length x.content }

-- the lines from a place on, each read as its row: the first with the number of x is that of x
part-own : (place : ℕ) (before : List Row) (x : Row) (after : List Row)
    → map row_of (map body (before ++ (x ∷ after))) ≡ before ++ (x ∷ after) → (x.number ∈ numbers before → ⊥)
    → part_from x.number place (map body (before ++ (x ∷ after))) ≡ part_at place x before
part-own place [] x after r f =
    let row : row_of (body x) ≡ x = cc in
    let c : content_part (body x) ≡ x.content = ap (λ (y : Row). y.content) row in
    let p : place + (length (body x) - length (content_part (body x))) ≡ place + (0 + frame x) = omega (arith, body-long x, ap length c) in
    rw (eq-eqb (row_of (body x)).number x.number (ap (λ (y : Row). y.number) row)) (λ i. record { start = p i; length = length (c i) })
part-own place (y ∷ before) x after r f =
    let row : row_of (body y) ≡ y = cc in
    let rest : map row_of (map body (before ++ (x ∷ after))) ≡ before ++ (x ∷ after) = cc in
    let other : (row_of (body y)).number ≡ x.number → ⊥ = λ e. f (here (sym e ∙ ap (λ (z : Row). z.number) row)) in
    let long : length (written (y ∷ before)) ≡ length (body y) + 1 + length (written before) =
    length-append (line y) (written before) ∙ omega (arith, length-append (body y) (LF ∷ [])) in
    let p : place + (length (body y) + 1) + (length (written before) + frame x) ≡ place + (length (written (y ∷ before)) + frame x) =
    omega (arith, long) in
    rw (ne_eqb (row_of (body y)).number x.number other)
    (part-own (place + (length (body y) + 1)) before x after rest (λ m. f (there m))
    ∙ λ i. record { start = p i; length = length x.content })

-- the part of a later record starts behind that of an earlier one
pub own_apart : (before : List Row) (x : Row) (between : List Row) (y : Row)
    → (own_part before x).start + (own_part before x).length < (own_part (before ++ (x ∷ between)) y).start
own_apart [] x between y =
    omega (arith, body-long x, length-append (line x) (written between), length-append (body x) (LF ∷ []))
own_apart (z ∷ before) x between y =
    omega (
      arith,
      own_apart before x between y,
      length-append (line z) (written before),
      length-append (line z) (written (before ++ (x ∷ between))),
    )

-- ---- the export: start and length

module _ (text : List ℕ) (n : ℕ) (answer : Part) (call : answer ≡ content_answer text n) where
  -- "the very part of the lent text that holds the content"
  pub told-bytes : (t : List Row) → IsTable text t → (x : Row) → x ∈ t → x.number ≡ n
      → take answer.length (drop answer.start text) ≡ x.content
  told-bytes t w x m e =
      ap (λ (p : Part). take p.length (drop p.start text)) (call ∙ ap (content_answer text) (sym e))
      ∙ part-content text t ((readable_exactly text t).1 w) x m

  -- it starts on the record's own line, behind `number␉parent␉`: an equal content on another line is not it
  pub told-own : (t : List Row) → IsTable text t → (before : List Row) (x : Row) (after : List Row) → t ≡ before ++ (x ∷ after)
      → x.number ≡ n → answer ≡ own_part before x
  told-own t w before x after e k =
      let v : verdict text ≡ readable t = (readable_exactly text t).1 w in
      let r : map row_of (map body (before ++ (x ∷ after))) ≡ before ++ (x ∷ after) =
      subst (λ (u : List Row). map row_of (map body u) ≡ u) e (bodies_rows [] t (good text t v)) in
      let start : 0 + (length (written before) + frame x) ≡ length (written before) + frame x = omega arith in
      call
      ∙ ap (content_answer text) (sym k)
      ∙ ap (λ (d : Verdict). part_of d text x.number) v
      ∙ ap (part_from x.number 0) (ap lines w.lines ∙ written-lines t (good text t v) ∙ ap (map body) e)
      ∙ part-own 0 before x after r (w.rows before x after e).once
      ∙ λ i. record { start = start i; length = length x.content }

  -- "For a refused table or an absent number it is the empty part at the start of the text."
  pub told_absent : (t : List Row) → IsTable text t → (n ∈ numbers t → ⊥) → answer ≡ record { start = 0; length = 0 }
  told_absent t w f = call ∙ part_none text t ((readable_exactly text t).1 w) n f

  pub told_refused : (code line : ℕ) → Refused text code line → answer ≡ record { start = 0; length = 0 }
  told_refused code line w = call ∙ ap (λ (v : Verdict). part_of v text n) ((unreadable_exactly text code line).1 w)

-- ---- the part handed back

-- the empty part at the start of the text: in its own block of memory, at its first byte
pub record EmptyAtStart (text handed : Bor (List ℕ)) : Type 0 where
  pub block : handed.ref_ptr.0 ≡ text.ref_ptr.0
  pub place : handed.ref_ptr.1 ≡ text.ref_ptr.1
  pub bytes : handed.now ≡ []

module _ (text : Bor (List ℕ)) (n : ℕ) (handed : Bor (List ℕ)) (call : HandsBack text n handed) where
  abbrev part : Part
  part = content_answer text.now n

  pub content-bytes : (t : List Row) → IsTable text.now t → (x : Row) → x ∈ t → x.number ≡ n → handed.now ≡ x.content
  content-bytes t w x m e = call.part.bytes ∙ told-bytes text.now n part refl t w x m e

  -- the part handed back stands on the record's own line
  pub content-own : (t : List Row) → IsTable text.now t → (before : List Row) (x : Row) (after : List Row) → t ≡ before ++ (x ∷ after)
      → x.number ≡ n → (handed.ref_ptr.0 ≡ text.ref_ptr.0) × (handed.ref_ptr.1 ≡ text.ref_ptr.1 + (length (written before) + frame x))
  content-own t w before x after e k = (
    call.part.block,
    call.part.place ∙ ap (λ (p : Part). text.ref_ptr.1 + p.start) (told-own text.now n part refl t w before x after e k),
  )

  empty : part ≡ no_part → EmptyAtStart text handed
  empty e =
      record {
        block = call.part.block;
        place = call.part.place ∙ ap (λ (p : Part). text.ref_ptr.1 + p.start) e ∙ add-zero text.ref_ptr.1;
        bytes = call.part.bytes ∙ ap (λ (p : Part). take p.length (drop p.start text.now)) e;
      }

  pub content_absent : (t : List Row) → IsTable text.now t → (n ∈ numbers t → ⊥) → EmptyAtStart text handed
  content_absent t w f = empty (told_absent text.now n part refl t w f)

  pub content_refused : (code line : ℕ) → Refused text.now code line → EmptyAtStart text handed
  content_refused code line w = empty (told_refused text.now n part refl code line w)
