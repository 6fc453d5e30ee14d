-- Reading a table line by line: what is known at a line's start, and what each way on from there gives. text is the table's bytes, ls
-- and fs are the two arrays, r is the line at the place reached, and the place reached by reading it. Assumes nothing.
use mir.Facts.{ltb_yes, yes_ltb}
use mathlib.Core.Path.{◌≡◌, refl, sym, ap, ◌∙◌, subst}
use mathlib.Core.Bool.{Bool, true, false, cond}
use mathlib.Core.List.{List, [], ◌∷◌, ◌++◌}
use Prim.Native.Nat.{ℕ, ◌+◌, ◌-◌, ◌*◌, ◌<◌, ◌≤◌}
use native.Mathlib.Omega.{arith}
use native.Mathlib.Numerals.{add-one}
use native.Mathlib.Decide.{ℕ_discrete}
use lib.Dec.{T, eqb, leb, ltb}
use lib.ListN.{length, drop, length-append, length-drop, drop_of_length-le}
use lib.Seq.{drop-drop}
use borrow.Author.Tests.{eqb-true, eq-eqb, ne_eqb, le-ltb, lt-ltb}
use Rattle.rules.specs.Limits.{LINES, BYTES}
use Rattle.rules.specs.Codes.{accepted, text_too_long, unended, too_many_lines}
use Rattle.rules.specs.Lists.{◌∈◌}
use Rattle.rules.specs.Marks.{TOP}
use Rattle.rules.specs.Text.{LF, count, before, after, lines, ended}
use Rattle.rules.specs.Line.{Row, row_of, content_part, line_fault}
use Rattle.rules.specs.Table.{numbers, stands, fault, Verdict, readable, unreadable, read_lines, verdict}
use Rattle.rules.specs.Calls.{part_from, part_of}
use Rattle.trees.proofs.Lists.{is_true, is_false, same_test, not-or}
use Rattle.facts.specs.Memory.{NUMBERS, ROOM, WIDTH}
use Rattle.facts.specs.Asked.{has_in}
use Rattle.facts.specs.Holds.{Holds, part_at}
use Rattle.facts.proofs.Adding.{Added}
use Rattle.rules.specs.declared.answers.Part.{Part}
use Rattle.line.specs.declared.Reached.{Reached}
use Rattle.line.specs.Told.{next_line, reached_from, from_place, code_told, good}
use Rattle.std.specs.Prelude.{Result, Ok, Err}
use Rattle.rules.specs.declared.kinds.Fault.{Fault}
use Rattle.line.proofs.Telling.{told-fault, told-row}
use Rattle.readback.proofs.Splitting.{lines_step, before-lt, ended-after, after-drop}
use Rattle.readback.proofs.Following.{Good, Follows, seen_last, good_more}
use Rattle.readback.proofs.Faults.{stands_in, in_stands, fault_follows, fault_rules, no_line-fault}
use Rattle.table.specs.Read.{told, read_told, fault_after, fault_in, Reads}

-- ---- at a line's start

pub record Reading (text : List ℕ) (place : ℕ) (ls fs : List ℕ) (count : ℕ) : Type 0 where
  -- the rows of the lines so far
  pub seen : List Row
  pub counted : count ≡ length seen
  pub good : Good [] seen
  pub within : place ≤ length text
  pub short : length text ≤ BYTES
  pub whole : ended (drop place text) ≡ true
  -- the verdict from here is the verdict from the start
  pub same : read_lines seen (lines (drop place text)) ≡ verdict text
  pub holds : Holds ls fs seen
  -- so is the part told for a number
  pub parts : (n : ℕ) → part_from n 0 (lines text) ≡ cond (has_in ls n) (part_at ls fs n) (part_from n place (lines (drop place text)))
  pub columns : length ls ≡ NUMBERS
  pub widths : length fs ≡ ROOM * WIDTH

-- ---- a refused text

readable_not : (code line : ℕ) (t : List Row) → unreadable code line ≡ readable t → ⊥
readable_not code line t e = let o : ◌≡◌ {A = ℕ} 0 1 = cc in omega arith

-- a refusal says nothing of memory
refused : (text ls fs : List ℕ) (code line : ℕ) → verdict text ≡ unreadable code line
    → Reads text ls fs (told code line 0)
refused text ls fs code line e =
    record {
      answered = ap read_told (sym e);
      held = λ t q. absurd (readable_not code line t (sym e ∙ q));
      placed = λ t q. absurd (readable_not code line t (sym e ∙ q));
    }

pub too_long_lem : (text ls fs : List ℕ) → BYTES < length text → Reads text ls fs (told text_too_long 0 0)
too_long_lem text ls fs h = refused text ls fs text_too_long 0 (rw (lt-ltb BYTES (length text) h))

pub not-ended : (text ls fs : List ℕ) (n : ℕ) → length text ≤ BYTES → ended text ≡ false → n ≡ count LF text + 1
    → Reads text ls fs (told unended n 0)
not-ended text ls fs n h e q = refused text ls fs unended n (rw (le-ltb BYTES (length text) h, e, q))

-- ---- tests of memory and tests of the rows

-- a number has a line exactly if it stands on one
pub has_stands : (ls fs : List ℕ) (t : List Row) → Holds ls fs t → (n : ℕ) → has_in ls n ≡ stands n t
has_stands ls fs t h n =
    same_test (has_in ls n) (stands n t) (λ b. in_stands t n (h.only n (ltb_yes b))) (λ b. yes_ltb (h.known n (stands_in t n b)))

ok_same : {a b : Reached} → ◌≡◌ {A = Result Reached Fault} (Ok a) (Ok b) → a ≡ b
ok_same e = cc

-- ---- the line at the place reached

module _ (text ls fs : List ℕ) (place c : ℕ) (g : Reading text place ls fs c) (more : place < length text) where
  abbrev pub rest : List ℕ
  rest = drop place text

  abbrev pub line : List ℕ
  line = before LF rest

  some_left : 0 < length rest
  some_left = omega (arith, length-drop place text)

  first-line : lines rest ≡ line ∷ lines (after LF rest)
  first-line = lines_step rest some_left g.whole

  -- the fault found by memory is the fault by the rows
  told-fault_is : (r : Result Reached Fault) → r ≡ reached_from text place → fault_in ls c r ≡ fault g.seen line
  told-fault_is r e = ap (fault_in ls c) e ∙ go (eqb (line_fault line) accepted) refl
    where
      known : (n : ℕ) → has_in ls n ≡ stands n g.seen
      known = has_stands ls fs g.seen g.holds

      differ : true ≡ false → ⊥
      differ e = cc

      coded : (v : ℕ) (z : Result Reached Fault) → code_told z ≡ v → eqb v accepted ≡ false → fault_after ls (from_place place z) ≡ v
      coded v (Ok found) d f = absurd (differ (sym (eq-eqb v accepted (sym d)) ∙ f))
      coded v (Err why) d f = d

      go : (b : Bool) → eqb (line_fault line) accepted ≡ b → fault_in ls c (from_place place (next_line rest)) ≡ fault g.seen line
      go true q =
          let z = eqb-true (line_fault line) accepted q in
          ap (λ (z : Result Reached Fault). fault_in ls c (from_place place z)) (told-row rest (told-fault rest ∙ z))
          ∙ rw (
            q,
            g.counted,
            known (row_of line).number,
            not-or (eqb (row_of line).parent TOP) (has_in ls (row_of line).parent),
            known (row_of line).parent,
          )
      go false q =
          ap (λ (v : ℕ). cond (leb LINES c) too_many_lines v) (coded (line_fault line) (next_line rest) (told-fault rest) q)
          ∙ rw (q, g.counted)

  -- a fault ends the reading
  pub out : (r : Result Reached Fault) (code : ℕ) → r ≡ reached_from text place → code ≡ fault_in ls c r → (code ≡ accepted → ⊥)
      → Reads text ls fs (told code (c + 1) 0)
  out r code e q f = refused text ls fs code (c + 1) (sym g.same ∙ ap (read_lines g.seen) first-line ∙ faulty-line)
    where
      is : code ≡ fault g.seen line
      is = q ∙ told-fault_is r e

      faulty-line : read_lines g.seen (line ∷ lines (after LF rest)) ≡ unreadable code (c + 1)
      faulty-line = rw (← is, ne_eqb code accepted f, g.counted)

  -- ---- the line is good: memory has one row more

  module _ (r : Reached) (e : Ok r ≡ reached_from text place) (fine : fault_in ls c (Ok r) ≡ accepted) where
    abbrev pub row : Row
    row = row_of line

    faultless : fault g.seen line ≡ accepted
    faultless = sym (told-fault_is (Ok r) e) ∙ fine

    pub follows : Follows g.seen row
    follows = fault_follows g.seen line faultless

    is_told : next_line rest ≡ Ok (good line)
    is_told = told-row rest (told-fault rest ∙ no_line-fault line (fault_rules g.seen line faultless))

    pub is_good : r ≡ record { line = (good line).line; at = place + (good line).at }
    is_good = ok_same (e ∙ ap (from_place place) is_told)

    read_on : read_lines (g.seen ++ (row ∷ [])) (lines (after LF rest)) ≡ verdict text
    read_on = sym good-line ∙ ap (read_lines g.seen) (sym first-line) ∙ g.same
      where
        good-line : read_lines g.seen (line ∷ lines (after LF rest)) ≡ read_lines (g.seen ++ (row ∷ [])) (lines (after LF rest))
        good-line = rw (eq-eqb (fault g.seen line) accepted faultless)

    left : after LF rest ≡ drop r.at text
    left =
        after-drop LF rest ∙ ap (λ (k : ℕ). drop k rest) (sym (add-one (length line))) ∙ drop-drop (length line + 1) place text
        ∙ (λ i. drop (sym is_good i).at text)

    module _ (ls' fs' : List ℕ) (w : Added ls fs ls' fs' g.seen row (place + r.line.start) r.line.length) where
      abbrev next_parts : ℕ → Part
      next_parts n = part_from n r.at (lines (drop r.at text))

      abbrev this_part : Part
      this_part = record { start = place + (length line - length (content_part line)); length = length (content_part line) }

      not_yet : has_in ls row.number ≡ false
      not_yet = is_false (has_in ls row.number) (λ t. follows.new (g.holds.only row.number (ltb_yes t)))

      -- the part of the line's own number
      own : cond (has_in ls row.number) (part_at ls fs row.number) (part_from row.number place (line ∷ lines (after LF rest)))
          ≡ cond (has_in ls' row.number) (part_at ls' fs' row.number) (next_parts row.number)
      own =
          let told_here : part_from row.number place (line ∷ lines (after LF rest)) ≡ this_part =
          rw (eq-eqb row.number row.number refl) in
          let known : has_in ls' row.number ≡ true =
          is_true (has_in ls' row.number) (yes_ltb (w.holds.known row.number (seen_last g.seen row row.number refl))) in
          ap (λ (b : Bool). cond b (part_at ls fs row.number) (part_from row.number place (line ∷ lines (after LF rest)))) not_yet
          ∙ told_here ∙ (λ i. record { start = place + (sym is_good i).line.start; length = (sym is_good i).line.length })
          ∙ sym w.part_new
          ∙ ap (λ (b : Bool). cond b (part_at ls' fs' row.number) (next_parts row.number)) (sym known)

      skipped : (n : ℕ) → (n ≡ row.number → ⊥) → part_from n place (line ∷ lines (after LF rest)) ≡ next_parts n
      skipped n q =
          rw (ne_eqb row.number n (λ d. q (sym d)))
          ((λ i. part_from n (sym is_good i).at (lines (left i))))

      other : (n : ℕ) → (n ≡ row.number → ⊥) → (b : Bool) → has_in ls n ≡ b
          → cond b (part_at ls fs n) (part_from n place (line ∷ lines (after LF rest))) ≡ cond b (part_at ls' fs' n) (next_parts n)
      other n q true d = sym (w.part_same n (g.holds.only n (ltb_yes (subst T (sym d) tt))))
      other n q false d = skipped n q

      parts_on : (n : ℕ) → part_from n 0 (lines text) ≡ cond (has_in ls' n) (part_at ls' fs' n) (next_parts n)
      parts_on n =
          g.parts n ∙ ap (λ (ks : List (List ℕ)). cond (has_in ls n) (part_at ls fs n) (part_from n place ks)) first-line
          ∙ go (ℕ_discrete n row.number)
        where
          go : Dec (n ≡ row.number) → cond (has_in ls n) (part_at ls fs n) (part_from n place (line ∷ lines (after LF rest)))
              ≡ cond (has_in ls' n) (part_at ls' fs' n) (next_parts n)
          go (yes q) =
              subst (λ (m : ℕ). cond (has_in ls m) (part_at ls fs m) (part_from m place (line ∷ lines (after LF rest)))
              ≡ cond (has_in ls' m) (part_at ls' fs' m) (next_parts m)) (sym q) own
          go (no q) =
              other n q (has_in ls n) refl ∙ ap (λ (k : ℕ). cond (ltb 0 k) (part_at ls' fs' n) (next_parts n)) (sym (w.lines_same n q))

      pub on : Reading text r.at ls' fs' (c + 1)
      on = record {
        seen = g.seen ++ (row ∷ []);
        counted = omega (arith, g.counted, length-append g.seen (row ∷ []));
        good = good_more [] g.seen row g.good follows;
        within = omega (arith, before-lt rest some_left g.whole, length-drop place text, ap (λ (z : Reached). z.at) is_good);
        short = g.short;
        whole = subst (λ (s : List ℕ). ended s ≡ true) left (ended-after rest g.whole);
        same = ap (λ (s : List ℕ). read_lines (g.seen ++ (row ∷ [])) (lines s)) (sym left) ∙ read_on;
        holds = w.holds;
        parts = parts_on;
        columns = w.all_lines ∙ g.columns;
        widths = w.all-facts ∙ g.widths;
      }

-- ---- the end

pub finish : (text ls fs : List ℕ) (place c : ℕ) → Reading text place ls fs c → length text ≤ place
    → Reads text ls fs (told accepted 0 c)
finish text ls fs place c g h = record {
  answered = ap (told accepted 0) g.counted ∙ ap read_told all;
  held = λ t q. subst (Holds ls fs) (rows t q) g.holds;
  placed = λ t q n m. sym (ap (λ (v : Verdict). part_of v text n) (sym all)
      ∙ g.parts n ∙ rw (is_true (has_in ls n) (yes_ltb (g.holds.known n (subst (λ (u : List Row). n ∈ numbers u) (sym (rows t q)) m)))));
}
  where
    none : drop place text ≡ []
    none = drop_of_length-le text h

    all : readable g.seen ≡ verdict text
    all = sym (ap (λ (s : List ℕ). read_lines g.seen (lines s)) none) ∙ g.same

    rows : (t : List Row) → verdict text ≡ readable t → g.seen ≡ t
    rows t q = let z : readable g.seen ≡ readable t = all ∙ q in cc
