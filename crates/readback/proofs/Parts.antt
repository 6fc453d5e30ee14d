-- The content call: the part told for a record of an accepted text holds its content. t is a table, x a row, n a number, ls are the
-- lines from a place of the text on. Assumes nothing.
use mathlib.Core.Path.{◌≡◌, refl, sym, ap, ◌∙◌, subst}
use mathlib.Core.Bool.{Bool, true, false, cond}
use mathlib.Core.List.Memᴰ
use mathlib.Core.List.Memᴰ.{head as here}
use mathlib.Core.List.Memᴰ.{tail as there}
use mathlib.Core.List.{List, [], ◌∷◌, ◌++◌, map, append_assoc}
use Prim.Native.Nat.{ℕ, ◌+◌, ◌-◌, ◌≤◌}
use native.Mathlib.Omega.{arith}
use lib.ListN.{length, take, drop, length-append}
use lib.Seq.{drop-drop, drop-append-le, drop_at, take-append_seam}
use lib.Dec.{eqb}
use borrow.Author.Tests.{eqb-true, eqb-false, ne_eqb}
use Rattle.rules.specs.Lists.{◌∈◌, NoneTwice}
use Rattle.rules.specs.Text.{TAB, LF, after, lines}
use Rattle.rules.specs.Line.{Row, content_part, row_of}
use Rattle.rules.specs.Table.{numbers, Verdict, readable, verdict}
use Rattle.rules.specs.Calls.{no_part, part_from, part_of, content_answer}
use Rattle.rules.specs.declared.answers.Part.{Part}
use Rattle.readback.proofs.Splitting.{after-le, after-left, ended_line, joined, lines-joined}
use Rattle.readback.proofs.Following.{good_readable}
use Rattle.readback.proofs.Accepting.{accepted_text, good}

-- ---- one line

-- the content is the end of its line
pub content-left : (l : List ℕ) → content_part l ≡ drop (length l - length (content_part l)) l
content-left l =
    let s = after TAB l in
    let i = length l - length s in
    let j = length s - length (after TAB s) in
    let e : i + j ≡ length l - length (after TAB s) = omega (arith, after-le TAB l, after-le TAB s) in
    after-left TAB s ∙ ap (drop j) (after-left TAB l) ∙ drop-drop j i l ∙ ap (λ (k : ℕ). drop k l) e

pub content-le : (l : List ℕ) → length (content_part l) ≤ length l
content-le l = omega (arith, after-le TAB l, after-le TAB (after TAB l))

-- the part of its content, if the line starts at this place of the text
abbrev content_at : ℕ → List ℕ → Part
content_at place l = record { start = place + (length l - length (content_part l)); length = length (content_part l) }

-- ---- the lines from a place on

-- the text from the place on is these lines
record Left (text : List ℕ) (place : ℕ) (ls : List (List ℕ)) : Type 0 where
  bytes : drop place text ≡ joined ls
  long : place + length (joined ls) ≡ length text

-- the part of the text holds these bytes
record Holds (text : List ℕ) (part : Part) (content : List ℕ) : Type 0 where
  same : take part.length (drop part.start text) ≡ content
  within : part.start + part.length ≤ length text

module _ (text : List ℕ) (place : ℕ) (l : List ℕ) (ls : List (List ℕ)) (h : Left text place (l ∷ ls)) where
  line-long : length (joined (l ∷ ls)) ≡ length l + 1 + length (joined ls)
  line-long = length-append (ended_line l) (joined ls) ∙ omega (arith, length-append l (LF ∷ []))

  next-bytes : drop (place + (length l + 1)) text ≡ joined ls
  next-bytes =
      sym (drop-drop (length l + 1) place text) ∙ ap (drop (length l + 1)) h.bytes
      ∙ drop_at (ended_line l) (joined ls) (length l + 1) (length-append l (LF ∷ []))

  next-left : Left text (place + (length l + 1)) ls
  next-left = record { bytes = next-bytes; long = omega (arith, h.long, line-long) }

  -- what stands after the content of l
  abbrev rest : List ℕ
  rest = (LF ∷ []) ++ joined ls

  content-bytes : drop (content_at place l).start text ≡ content_part l ++ rest
  content-bytes =
      let k = length l - length (content_part l) in
      sym (drop-drop k place text) ∙ ap (drop k) (h.bytes ∙ append_assoc l (LF ∷ []) (joined ls))
      ∙ drop-append-le k l rest (omega arith) ∙ ap (λ (s : List ℕ). s ++ rest) (sym (content-left l))

  content-holds : Holds text (content_at place l) (content_part l)
  content-holds = record {
    same = ap (take (length (content_part l))) content-bytes ∙ take-append_seam (content_part l) rest;
    within = omega (arith, content-le l, h.long, line-long);
  }

lines_hold : (text : List ℕ) (x : Row) (place : ℕ) (ls : List (List ℕ)) → Left text place ls → NoneTwice (numbers (map row_of ls))
    → x ∈ map row_of ls → Holds text (part_from x.number place ls) x.content
lines_hold text x place [] h d m = absurd (Memᴰ.not-nil m)
lines_hold text x place (l ∷ ls) h d m =
    go (eqb (row_of l).number x.number) refl m (lines_hold text x (place + (length l + 1)) ls (next-left text place l ls h) d.1)
  where
    later : Part
    later = part_from x.number (place + (length l + 1)) ls

    go : (b : Bool) → eqb (row_of l).number x.number ≡ b → x ∈ row_of l ∷ map row_of ls
        → (x ∈ map row_of ls → Holds text later x.content) → Holds text (cond b (content_at place l) later) x.content
    go true q (here e) ih = subst (Holds text (content_at place l)) (ap (λ (y : Row). y.content) (sym e)) (content-holds text place l ls h)
    go true q (there k) ih = absurd (d.0 (Memᴰ.cast (eqb-true (row_of l).number x.number q) (Memᴰ.map (λ (y : Row). y.number) k)))
    go false q (here e) ih = absurd (eqb-false (row_of l).number x.number q (ap (λ (y : Row). y.number) (sym e)))
    go false q (there k) ih = ih k

lines_none : (n place : ℕ) (ls : List (List ℕ)) → (n ∈ numbers (map row_of ls) → ⊥) → part_from n place ls ≡ no_part
lines_none n place [] f = refl
lines_none n place (l ∷ ls) f =
    rw (ne_eqb (row_of l).number n (λ e. f (here (sym e)))) (lines_none n (place + (length l + 1)) ls (λ m. f (there m)))

-- ---- the call

module _ (text : List ℕ) (t : List Row) (e : verdict text ≡ readable t) where
  answer_is : (n : ℕ) → content_answer text n ≡ part_from n 0 (lines text)
  answer_is n = ap (λ (v : Verdict). part_of v text n) e

  all_left : Left text 0 (lines text)
  all_left =
      let whole : joined (lines text) ≡ text = lines-joined text (accepted_text text t e).whole in
      record { bytes = sym whole; long = omega (arith, ap length whole) }

  part-holds : (x : Row) → x ∈ t → Holds text (content_answer text x.number) x.content
  part-holds x m =
      let r = (accepted_text text t e).rows in
      let once = subst (λ (u : List Row). NoneTwice (numbers u)) r (good_readable t (good text t e)).distinct.once in
      rw (answer_is x.number) (lines_hold text x 0 (lines text) all_left once (subst (λ (u : List Row). x ∈ u) r m))

  -- the part told for a record holds its content
  pub part-content : (x : Row) → x ∈ t
      → take (content_answer text x.number).length (drop (content_answer text x.number).start text) ≡ x.content
  part-content x m = (part-holds x m).same

  -- and lies within the text
  pub part_within : (x : Row) → x ∈ t → (content_answer text x.number).start + (content_answer text x.number).length ≤ length text
  part_within x m = (part-holds x m).within

  -- for "an absent number it is the empty part at the start of the text"
  pub part_none : (n : ℕ) → (n ∈ numbers t → ⊥) → content_answer text n ≡ no_part
  part_none n f = answer_is n ∙ lines_none n 0 (lines text) (subst (λ (u : List Row). n ∈ numbers u → ⊥) (accepted_text text t e).rows f)
