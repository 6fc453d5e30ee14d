-- A good line goes into memory, and the reading goes on behind it. text is the table's bytes, ls and fs are the two arrays, r is the line
-- at the place reached, and the place reached by reading it; a prime marks the arrays with one line more. Assumes nothing.
use mathlib.Core.Path.{◌≡◌, refl, sym, ap, ◌∙◌, subst}
use mathlib.Core.List.{List, []}
use Prim.Native.Nat.{ℕ, ◌+◌, ◌-◌, ◌*◌, ◌<◌, ◌≤◌}
use native.Mathlib.Omega.{arith}
use mathlib.Core.Bool.{Bool, cond}
use lib.ListN.{length, drop, set, length-drop, length-set, length-replicate}
use borrow.Author.Tests.{le-ltb}
use Rattle.rules.specs.Limits.{LINES, BYTES}
use Rattle.rules.specs.Codes.{accepted}
use Rattle.rules.specs.Marks.{START, END}
use Rattle.rules.specs.Text.{LF, before, lines}
use Rattle.rules.specs.Calls.{part_from}
use Rattle.trees.proofs.Marks.{record_high}
use Rattle.readback.proofs.Splitting.{before-lt}
use Rattle.readback.proofs.Parts.{content-le}
use Rattle.rules.specs.Line.{Row, content_part}
use Rattle.readback.proofs.Following.{good_readable, good_few}
use Rattle.facts.specs.Memory.{NUMBERS, ROOM, WIDTH, FIRST, LAST, field, add_line, add_facts, no_lines, no_facts, opened}
use Rattle.facts.specs.Holds.{Holds, part_at}
use Rattle.facts.proofs.Adding.{Added, added}
use Rattle.facts.proofs.Fresh.{fresh_holds}
use Rattle.line.specs.declared.Line.{Line}
use Rattle.line.specs.declared.Reached.{Reached}
use Rattle.std.specs.Prelude.{Ok}
use Rattle.line.specs.Told.{reached_from}
use Rattle.table.specs.Read.{fault_in, Begins}
use Rattle.table.proofs.Reading.{Reading, row, follows, is_good, on, has_stands}

module _ (text ls fs : List ℕ) (place c : ℕ) (g : Reading text place ls fs c) (more : place < length text) (r : Reached)
    (e : Ok r ≡ reached_from text place) (fine : fault_in ls c (Ok r) ≡ accepted) where
  abbrev l : Line
  l = r.line

  abbrev y : Row
  y = row text ls fs place c g more r e fine

  -- the arrays with one line more, as the code and as the row has them
  abbrev lines_by : ℕ → List ℕ
  lines_by n = add_line ls (c + 1) n

  abbrev facts_by : ℕ → ℕ → List ℕ
  facts_by n r = add_facts (lines_by n) fs (c + 1) n r (field ls fs r LAST) (place + l.start) l.length

  grown : Added ls fs (lines_by y.number) (facts_by y.number y.parent) g.seen y (place + l.start) l.length
  grown =
      let f = follows text ls fs place c g more r e fine in
      added ls fs g.seen y (c + 1) (place + l.start) l.length g.holds (good_readable g.seen g.good) f.number f.new
      f.under (omega (arith, g.counted)) (omega (arith, g.counted, f.room)) g.columns g.widths

  -- the reading goes on behind the line
  pub goes_on_lem : (ls' fs' : List ℕ) → ls' ≡ lines_by l.number.number → fs' ≡ facts_by l.number.number l.parent.number
      → Reading text r.at ls' fs' (c + 1)
  goes_on_lem ls' fs' p q =
      let good = is_good text ls fs place c g more r e fine in
      on text ls fs place c g more r e fine ls' fs'
      (subst (λ (z : List ℕ). Added ls fs z fs' g.seen y start l.length) (sym (p ∙ (λ i. lines_by (good i).line.number.number)))
      (subst (λ (z : List ℕ). Added ls fs (lines_by y.number) z g.seen y start l.length)
      (sym (q ∙ (λ i. facts_by (good i).line.number.number (good i).line.parent.number))) grown))
    where
      start : ℕ
      start = place + l.start

  -- what is told of the line is small
  pub record Small : Type 0 where
    pub start_in : place + l.start ≤ BYTES
    pub length_in : l.length ≤ BYTES
    pub number_in : l.number.number < NUMBERS
    pub line_in : c + 1 < ROOM
    pub behind_in : r.at ≤ length text
    pub behind-on : place < r.at

  pub small : Small
  small =
      let good = is_good text ls fs place c g more r e fine in
      let f = follows text ls fs place c g more r e fine in
      let left : length (drop place text) ≡ length text - place = length-drop place text in
      let short = before-lt (drop place text) (omega arith) g.whole in
      let start : l.start ≡ length (before LF (drop place text)) - length (content_part (before LF (drop place text))) =
      ap (λ (z : Reached). z.line.start) good in
      let long : l.length ≡ length (content_part (before LF (drop place text))) = ap (λ (z : Reached). z.line.length) good in
      let behind : r.at ≡ place + (length (before LF (drop place text)) + 1) = ap (λ (z : Reached). z.at) good in
      let number : l.number.number ≡ y.number = ap (λ (z : Reached). z.line.number.number) good in
      let content = content-le (before LF (drop place text)) in
      record {
        start_in = omega (arith, g.short);
        length_in = omega (arith, g.short);
        number_in = omega (arith, record_high y.number f.number);
        line_in = omega (arith, g.counted, f.room);
        behind_in = omega arith;
        behind-on = omega arith;
      }

-- ---- the start

pub begins : (text ls fs : List ℕ) → Begins text ls fs → Reading text 0 ls fs 0
begins text ls fs b = record {
  seen = [];
  counted = refl;
  good = tt;
  within = omega arith;
  short = b.short;
  whole = b.whole;
  same = rw (le-ltb BYTES (length text) b.short, b.whole);
  holds = holds;
  parts = λ n. ap (λ (t : Bool). cond t (part_at ls fs n) (part_from n 0 (lines text))) (sym (has_stands ls fs [] holds n));
  columns = ap length b.no_line ∙ length-replicate {A = ℕ} NUMBERS 0;
  widths = ap length b.no_fact ∙ opened-long;
}
  where
    holds : Holds ls fs []
    holds =
        subst (λ (z : List ℕ). Holds z fs []) (sym b.no_line)
        (subst (λ (z : List ℕ). Holds no_lines z []) (sym b.no_fact) fresh_holds)

    opened-long : length (opened no_facts) ≡ ROOM * WIDTH
    opened-long =
        length-set (set no_facts FIRST END) LAST START ∙ length-set no_facts FIRST END ∙ length-replicate {A = ℕ} (ROOM * WIDTH) 0

pub reading_few : (text ls fs : List ℕ) (place c : ℕ) → Reading text place ls fs c → c ≤ LINES
reading_few text ls fs place c g = omega (arith, g.counted, good_few g.seen g.good)
