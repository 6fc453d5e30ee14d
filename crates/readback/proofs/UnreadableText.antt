-- A text is refused with a code and a line exactly if document 01's words give it that code on that line: 1 and 2 for the whole text, then
-- the lowest code of the first faulty line. ls are lines, `seen` are the rows of the lines before, x is a byte. Assumes nothing.
use mathlib.Core.Path.{◌≡◌, refl, sym, ap, ◌∙◌, subst}
use mathlib.Core.Logic.{inl, inr, ◌↔◌}
use mathlib.Core.Bool.{Bool, true, false, cond, not, true≢false}
use mathlib.Core.List.Memᴰ.{head as here}
use mathlib.Core.List.Memᴰ.{tail as there}
use mathlib.Core.List.{List, [], ◌∷◌, ◌++◌, map, append_assoc, append-nil}
use mathlib.Core.List.Memᴰ
use Prim.Native.Nat.{ℕ, ◌+◌, ◌<◌, ◌≤◌}
use native.Mathlib.Omega.{arith}
use lib.ListN.{length, length-append}
use lib.Seq.{append_snoc}
use lib.Dec.{eqb, ltb}
use borrow.Author.Tests.{eqb-true, eqb-false, ltb-true, ltb-false, lt-ltb, le-ltb, ne_eqb}
use Rattle.rules.specs.Limits.{BYTES}
use Rattle.rules.specs.Codes.{accepted}
use Rattle.rules.specs.Lists.{◌∈◌}
use Rattle.rules.specs.Text.{LF, count, onto, lines, last, ended}
use Rattle.rules.specs.Line.{Row, row_of}
use Rattle.rules.specs.Table.{fault, unreadable, read_lines, verdict}
use Rattle.rules.specs.Written.{body, written}
use Rattle.rules.specs.UnreadableText.{Fault, line513, bad_byte, few_tabs, bad_number, bad_parent, bad_content, number_twice}
use Rattle.rules.specs.UnreadableText.{parent_missing}
use Rattle.rules.specs.UnreadableText.{FirstFault, EndsIn, Refused, too_long, unended, on_line}
use Rattle.readback.proofs.Splitting.{last-append, lines_at, ended_line, joined, lines-joined}
use Rattle.readback.proofs.Following.{Good}
use Rattle.readback.proofs.LineFaults.{fault_lowest}
use Rattle.readback.proofs.Accepting.{Faultless, faultless_good, good}
use Rattle.readback.proofs.ReadBack.{written-joined, written-lines, bodies_faultless, bodies_rows}
use Rattle.readback.proofs.Canonical.{lines_canonical}
use Rattle.readback.proofs.ReadableText.{good-table, readable_exactly}

-- ---- lines

-- no line holds an LF
onto-plain : (x : ℕ) → (x ≡ LF → ⊥) → (ls : List (List ℕ)) → ((l : List ℕ) → l ∈ ls → LF ∈ l → ⊥) → (l : List ℕ) → l ∈ onto x ls
    → LF ∈ l → ⊥
onto-plain x f [] h l (here e) m = first (subst (λ (s : List ℕ). LF ∈ s) e m)
  where
    first : LF ∈ x ∷ [] → ⊥
    first (here e) = f (sym e)
    first (there k) = Memᴰ.not-nil k
onto-plain x f [] h l (there i) m = Memᴰ.not-nil i
onto-plain x f (part ∷ ls) h l (here e) m = first (subst (λ (s : List ℕ). LF ∈ s) e m)
  where
    first : LF ∈ x ∷ part → ⊥
    first (here e) = f (sym e)
    first (there k) = h part (here refl) k
onto-plain x f (part ∷ ls) h l (there i) m = h l (there i) m

lines-plain : (s l : List ℕ) → l ∈ lines s → LF ∈ l → ⊥
lines-plain [] l i m = Memᴰ.not-nil i
lines-plain (x ∷ s) l i m = go (eqb x LF) refl i (lines-plain s)
  where
    go : (b : Bool) → eqb x LF ≡ b → l ∈ cond b ([] ∷ lines s) (onto x (lines s)) → ((l : List ℕ) → l ∈ lines s → LF ∈ l → ⊥) → ⊥
    go true q (here e) ih = Memᴰ.not-nil (subst (λ (r : List ℕ). LF ∈ r) e m)
    go true q (there k) ih = ih l k m
    go false q k ih = onto-plain x (eqb-false x LF q) (lines s) ih l k m

joined-append : (ls ks : List (List ℕ)) → joined (ls ++ ks) ≡ joined ls ++ joined ks
joined-append [] ks = refl
joined-append (l ∷ ls) ks =
    ap (λ (s : List ℕ). ended_line l ++ s) (joined-append ls ks) ∙ sym (append_assoc (ended_line l) (joined ls) (joined ks))

-- the lines of joined lines and of what follows them
lines_more : (ls : List (List ℕ)) (s : List ℕ) → ((l : List ℕ) → l ∈ ls → LF ∈ l → ⊥) → lines (joined ls ++ s) ≡ ls ++ lines s
lines_more [] s f = refl
lines_more (l ∷ ls) s f =
    ap lines (append_assoc (ended_line l) (joined ls) s ∙ append_snoc l LF (joined ls ++ s))
    ∙ lines_at l (joined ls ++ s) (f l (here refl))
    ∙ ap (λ (r : List (List ℕ)). l ∷ r) (lines_more ls s (λ k m. f k (there m)))

-- ---- the last byte

ends_in : (x : ℕ) (s : List ℕ) → EndsIn (x ∷ s) (last x s)
ends_in x [] = record { start = []; text_is = refl }
ends_in x (y ∷ s) =
    let w = ends_in y s in
    record { start = x ∷ w.start; text_is = ap (λ (r : List ℕ). x ∷ r) w.text_is }

ended_in : (text : List ℕ) (x : ℕ) → EndsIn text x → ended text ≡ eqb x LF
ended_in text x w = ap ended w.text_is ∙ ap (λ (y : ℕ). eqb y LF) (last-append LF w.start (x ∷ []))

-- ---- where reading stops

record Stop (seen : List Row) (ls : List (List ℕ)) (code line : ℕ) : Type 0 where
  fine : List (List ℕ)
  faulty : List ℕ
  rest : List (List ℕ)
  split : ls ≡ fine ++ (faulty ∷ rest)
  faultless : Faultless seen fine
  told : code ≡ fault (seen ++ map row_of fine) faulty
  some : code ≡ 0 → ⊥
  place : line ≡ length (seen ++ map row_of fine) + 1

stops : (seen : List Row) (ls : List (List ℕ)) (code line : ℕ) → read_lines seen ls ≡ unreadable code line → Stop seen ls code line
stops seen [] code line e = let o : ◌≡◌ {A = ℕ} 0 1 = cc in absurd (omega arith)
stops seen (l ∷ ls) code line e = go (eqb (fault seen l) accepted) refl e (stops (seen ++ (row_of l ∷ [])) ls code line)
  where
    next : List Row
    next = seen ++ (row_of l ∷ [])

    go : (b : Bool) → eqb (fault seen l) accepted ≡ b
        → cond b (read_lines (seen ++ (row_of l ∷ [])) ls) (unreadable (fault seen l) (length seen + 1)) ≡ unreadable code line
        → (read_lines (seen ++ (row_of l ∷ [])) ls ≡ unreadable code line → Stop (seen ++ (row_of l ∷ [])) ls code line)
        → Stop seen (l ∷ ls) code line
    go true q e ih =
        let w = ih e in
        let same : seen ++ (row_of l ∷ []) ++ map row_of w.fine ≡ seen ++ (row_of l ∷ map row_of w.fine) =
        append_snoc seen (row_of l) (map row_of w.fine) in
        record {
          fine = l ∷ w.fine;
          faulty = w.faulty;
          rest = w.rest;
          split = ap (λ (r : List (List ℕ)). l ∷ r) w.split;
          faultless = (eqb-true (fault seen l) accepted q, w.faultless);
          told = w.told ∙ ap (λ (r : List Row). fault r w.faulty) same;
          some = w.some;
          place = w.place ∙ ap (λ (r : List Row). length r + 1) same;
        }
    go false q e ih =
        let c : fault seen l ≡ code = cc in
        let p : length seen + 1 ≡ line = cc in
        let same : seen ++ [] ≡ seen = append-nil seen in
        record {
          fine = [];
          faulty = l;
          rest = ls;
          split = refl;
          faultless = tt;
          told = sym c ∙ ap (λ (r : List Row). fault r l) (sym same);
          some = λ z. eqb-false (fault seen l) accepted q (c ∙ z);
          place = sym p ∙ ap (λ (r : List Row). length r + 1) (sym same);
        }

-- ---- from the verdict to the words

module _ (text : List ℕ) (short : length text ≤ 32768) (whole : ended text ≡ true) (code line : ℕ)
    (stop : Stop [] (lines text) code line) where
  abbrev before : List Row
  before = map row_of stop.fine

  parts : text ≡ written before ++ (stop.faulty ++ (LF ∷ joined stop.rest))
  parts =
      sym (lines-joined text whole)
      ∙ ap joined stop.split
      ∙ joined-append stop.fine (stop.faulty ∷ stop.rest)
      ∙ ap (λ (s : List ℕ). s ++ (ended_line stop.faulty ++ joined stop.rest))
      (sym (lines_canonical [] stop.fine stop.faultless))
      ∙ ap (λ (s : List ℕ). written before ++ s) (append_snoc stop.faulty LF (joined stop.rest))

  first-fault : FirstFault text code line
  first-fault =
      let low = fault_lowest before stop.faulty in
      record {
        before = before;
        faulty = stop.faulty;
        rest = joined stop.rest;
        text_is = parts;
        whole = lines-plain text stop.faulty faulty_in;
        fine = good-table before (faultless_good [] stop.fine stop.faultless) few;
        fault = subst (Fault before stop.faulty) (sym stop.told) (low.has (λ z. stop.some (stop.told ∙ z)));
        lowest = λ other h f. low.lower f (inl (omega (arith, stop.told)));
        place = stop.place;
      }
    where
      faulty_in : stop.faulty ∈ lines text
      faulty_in = subst (λ (ls : List (List ℕ)). stop.faulty ∈ ls) (sym stop.split) (Memᴰ.append_right stop.fine (here refl))

      few : length (written before) ≤ 32768
      few = omega (arith, ap length parts, length-append (written before) (stop.faulty ++ (LF ∷ joined stop.rest)))

refused_words : (text : List ℕ) (code line : ℕ) → verdict text ≡ unreadable code line → Refused text code line
refused_words text code line e = go (ltb BYTES (length text)) (ended text) refl refl e
  where
    -- a text that is read line by line and stops is not empty
    not_empty : (s : List ℕ) → ended s ≡ true → Stop [] (lines s) code line → EndsIn s LF
    not_empty [] q w = nothing w.fine w.split
      where
        nothing : (fine : List (List ℕ)) → [] ≡ fine ++ (w.faulty ∷ w.rest) → EndsIn [] LF
        nothing [] e = let o : ◌≡◌ {A = ℕ} 0 1 = cc in absurd (omega arith)
        nothing (l ∷ ls) e = let o : ◌≡◌ {A = ℕ} 0 1 = cc in absurd (omega arith)
    not_empty (x ∷ s) q w = subst (EndsIn (x ∷ s)) (eqb-true (last x s) LF q) (ends_in x s)

    -- an unended text has a last byte, which is no LF
    last_byte : (s : List ℕ) → ended s ≡ false → (x : ℕ) × EndsIn s x × (x ≡ LF → ⊥)
    last_byte [] q = absurd (true≢false q)
    last_byte (x ∷ s) q = (last x s, ends_in x s, eqb-false (last x s) LF q)

    go : (long whole : Bool) → ltb BYTES (length text) ≡ long → ended text ≡ whole
        → cond long (unreadable 1 0) (cond (not whole) (unreadable 2 (count LF text + 1)) (read_lines [] (lines text)))
        ≡ unreadable code line → Refused text code line
    go true whole p q e =
        let c : 1 ≡ code = cc in
        let l : 0 ≡ line = cc in
        subst (λ (k : ℕ). Refused text k line) c (subst (Refused text 1) l (too_long (ltb-true BYTES (length text) p)))
    go false false p q e =
        let c : 2 ≡ code = cc in
        let l : count LF text + 1 ≡ line = cc in
        let w = last_byte text q in
        subst (λ (k : ℕ). Refused text k line) c
        (subst (Refused text 2) l (unended (ltb-false BYTES (length text) p) w.0 w.1 w.2))
    go false true p q e =
        let w = stops [] (lines text) code line e in
        let h : length text ≤ 32768 = ltb-false BYTES (length text) p in
        on_line code line h (not_empty text q w) (first-fault text h q code line w)

-- ---- from the words to the verdict

fault_range : {before : List Row} {l : List ℕ} {code : ℕ} → Fault before l code → (3 ≤ code) × (code ≤ 10)
fault_range (line513 h) = (omega arith, omega arith)
fault_range (bad_byte x m f g) = (omega arith, omega arith)
fault_range (few_tabs h) = (omega arith, omega arith)
fault_range (bad_number n p c w f) = (omega arith, omega arith)
fault_range (bad_parent n p c w f) = (omega arith, omega arith)
fault_range (bad_content n p c w f) = (omega arith, omega arith)
fault_range (number_twice n p c w k h e m) = (omega arith, omega arith)
fault_range (parent_missing n p c w k h e f g) = (omega arith, omega arith)

-- the code is the line's fault
code_is : (before : List Row) (l : List ℕ) (code : ℕ) → Fault before l code → ((other : ℕ) → other < code → Fault before l other → ⊥)
    → fault before l ≡ code
code_is before l code f lowest =
    let low = fault_lowest before l in
    let some : fault before l ≡ 0 → ⊥ = λ z. low.lower f (inr z) in
    let no_less : fault before l < code → ⊥ = λ h. lowest (fault before l) h (low.has some) in
    let no_more : code < fault before l → ⊥ = λ h. low.lower f (inl h) in
    omega arith

-- lines without a fault are passed over
passed_over : (seen : List Row) (fine ls : List (List ℕ)) → Faultless seen fine
    → read_lines seen (fine ++ ls) ≡ read_lines (seen ++ map row_of fine) ls
passed_over seen [] ls f = ap (λ (r : List Row). read_lines r ls) (sym (append-nil seen))
passed_over seen (l ∷ fine) ls f =
    rw f.0
    (passed_over (seen ++ (row_of l ∷ [])) fine ls f.1
    ∙ ap (λ (r : List Row). read_lines r ls) (append_snoc seen (row_of l) (map row_of fine)))

module _ (text : List ℕ) (code line : ℕ) (w : FirstFault text code line) where
  good-before : Good [] w.before
  good-before = good (written w.before) w.before ((readable_exactly (written w.before) w.before).1 w.fine)

  lines_are : lines text ≡ map body w.before ++ (w.faulty ∷ lines w.rest)
  lines_are =
      ap lines (w.text_is ∙ ap (λ (s : List ℕ). s ++ (w.faulty ++ (LF ∷ w.rest))) (written-joined w.before))
      ∙ lines_more (map body w.before) (w.faulty ++ (LF ∷ w.rest)) bodies_plain
      ∙ ap (λ (ls : List (List ℕ)). map body w.before ++ ls) (lines_at w.faulty w.rest w.whole)
    where
      bodies_plain : (l : List ℕ) → l ∈ map body w.before → LF ∈ l → ⊥
      bodies_plain l m =
          lines-plain (written w.before) l
          (subst (λ (ls : List (List ℕ)). l ∈ ls) (sym (written-lines w.before good-before)) m)

  reading_stops : read_lines [] (lines text) ≡ unreadable code line
  reading_stops =
      ap (read_lines []) lines_are
      ∙ passed_over [] (map body w.before) (w.faulty ∷ lines w.rest) (bodies_faultless [] w.before good-before)
      ∙ ap (λ (r : List Row). read_lines r (w.faulty ∷ lines w.rest)) (bodies_rows [] w.before good-before)
      ∙ ap (λ (b : Bool). cond b (read_lines (w.before ++ (row_of w.faulty ∷ [])) (lines w.rest))
      (unreadable (fault w.before w.faulty) (length w.before + 1))) (ne_eqb (fault w.before w.faulty) accepted some)
      ∙ λ i. unreadable (same i) (sym w.place i)
    where
      same : fault w.before w.faulty ≡ code
      same = code_is w.before w.faulty code w.fault w.lowest

      some : fault w.before w.faulty ≡ accepted → ⊥
      some z = omega (arith, same, (fault_range w.fault).0)

words_refused : (text : List ℕ) {code line : ℕ} → Refused text code line → verdict text ≡ unreadable code line
words_refused text (too_long h) = rw (lt-ltb BYTES (length text) h)
words_refused text (unended h x w f) = rw (le-ltb BYTES (length text) h, ended_in text x w, ne_eqb x LF f)
words_refused text (on_line code line h e w) =
    rw (le-ltb BYTES (length text) h, ended_in text LF e) (reading_stops text code line w)

-- ---- exactly

pub unreadable_exactly : (text : List ℕ) (code line : ℕ) → (verdict text ≡ unreadable code line) ↔ Refused text code line
unreadable_exactly text code line = (refused_words text code line, words_refused text)

-- so the code of a refused text is one of 1 to 10
pub refused_range : (text : List ℕ) (code line : ℕ) → verdict text ≡ unreadable code line → (1 ≤ code) × (code ≤ 10)
refused_range text code line e = go (refused_words text code line e)
  where
    go : {code line : ℕ} → Refused text code line → (1 ≤ code) × (code ≤ 10)
    go (too_long h) = (omega arith, omega arith)
    go (unended h x w f) = (omega arith, omega arith)
    go (on_line code line h e w) = let r = fault_range w.fault in (omega (arith, r.0), r.1)
