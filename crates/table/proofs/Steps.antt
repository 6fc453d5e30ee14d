-- The reading of lines, way by way, as the code goes. text is the table's bytes, ls and fs are the two arrays, c is the count of lines
-- so far, r the line at the place reached, and the place reached by reading it, code its fault; a prime marks the arrays with one line
-- more. Assumes nothing.
use mathlib.Core.Path.{◌≡◌, sym, ap, ◌∙◌, subst}
use mathlib.Core.Bool.{Bool, true, false, not}
use mathlib.Core.List.{List, []}
use Prim.Native.Nat.{ℕ, ◌+◌, ◌-◌, ◌<◌, ◌≤◌}
use native.Mathlib.Omega.{arith}
use mir.Val.{Fits}
use mir.Syntax.{w32, w64}
use lib.ListN.{length, get_or, set}
use lib.Seq.{get_or-set_same, get_or-set_other}
use borrow.Author.Rules.{rules}
use borrow.Author.Tests.{not-true, not-false}
use Rattle.rules.specs.Limits.{BYTES}
use Rattle.rules.specs.Codes.{accepted}
use Rattle.rules.specs.Text.{LF, count, ended}
use Rattle.readback.proofs.Splitting.{count-le}
use Rattle.facts.specs.Memory.{TABLES, NUMBERS, ROOM, LAST, field, add_line, add_facts, no_lines, no_facts, opened}
use Rattle.line.specs.declared.Line.{Line}
use Rattle.line.specs.declared.Reached.{Reached}
use Rattle.line.specs.Told.{reached_from}
use Rattle.table.specs.Read.{Read, told_by, fault_in, Begins, Reads, Fills}
use Rattle.std.specs.Prelude.{Result, Ok, Err}
use Rattle.rules.specs.Kinds.{fault_code}
use Rattle.rules.specs.declared.kinds.Fault.{Fault}
use Rattle.rules.specs.declared.kinds.Fault.TheVariants.{TextTooLong, Unended, TooManyLines, ByteNotAllowed, FewTabs}
use Rattle.rules.specs.declared.kinds.Fault.TheVariants.{BadNumber, BadParent, BadContent, NumberTwice, ParentMissing}
use Rattle.table.proofs.Reading.{Reading, too_long_lem, not-ended, out, finish}
use Rattle.table.proofs.Growing.{goes_on_lem, small, reading_few}

module _ (text ls fs : List ℕ) (place c : ℕ) (g : Reading text place ls fs c) where
  pub line_fits : Fits w64 (c + 1)
  line_fits = record { fits = omega (arith, reading_few text ls fs place c g) }

  pub line_small : Fits w32 (c + 1)
  line_small = record { fits = omega (arith, reading_few text ls fs place c g) }

-- a fault is told by a code of its own
pub fault_coded : (f : Fault) → fault_code f ≡ accepted → ⊥
fault_coded TextTooLong e = omega (arith, e)
fault_coded Unended e = omega (arith, e)
fault_coded TooManyLines e = omega (arith, e)
fault_coded ByteNotAllowed e = omega (arith, e)
fault_coded FewTabs e = omega (arith, e)
fault_coded BadNumber e = omega (arith, e)
fault_coded BadParent e = omega (arith, e)
fault_coded BadContent e = omega (arith, e)
fault_coded NumberTwice e = omega (arith, e)
fault_coded ParentMissing e = omega (arith, e)

module _ (text ls fs : List ℕ) (place c : ℕ) (found : Result Reached Fault) (g : Reading text place ls fs c) (more : place < length text)
    (e : found ≡ reached_from text place) where
  pub faulty-line : (f : Fault) → fault_code f ≡ fault_in ls c found → Reads text ls fs (told_by (Err (record { fault = f; line = c + 1 })))
  faulty-line f q = out text ls fs place c g more found (fault_code f) e q (fault_coded f)

  module _ (r : Reached) (m : (found ≡ Ok r) × (fault_in ls c found ≡ accepted)) where
    abbrev l : Line
    l = r.line

    is : Ok r ≡ reached_from text place
    is = sym m.0 ∙ e

    fine : fault_in ls c (Ok r) ≡ accepted
    fine = ap (fault_in ls c) (sym m.0) ∙ m.1

    pub start_fits : Fits w64 (place + l.start)
    start_fits = record { fits = omega (arith, (small text ls fs place c g more r is fine).start_in) }

    pub start_small : Fits w32 (place + l.start)
    start_small = record { fits = omega (arith, (small text ls fs place c g more r is fine).start_in) }

    pub length_small : Fits w32 l.length
    length_small = record { fits = omega (arith, (small text ls fs place c g more r is fine).length_in) }

    pub line-room : c + 1 < ROOM
    line-room = (small text ls fs place c g more r is fine).line_in

    pub number_room : l.number.number < NUMBERS
    number_room = (small text ls fs place c g more r is fine).number_in

    pub less_left : length text - r.at < length text - place
    less_left = omega (arith, (small text ls fs place c g more r is fine).behind-on)

    abbrev lines-on : List ℕ
    lines-on = add_line ls (c + 1) l.number.number

    pub good-line : (ls' fs' : List ℕ) → ls' ≡ lines-on
        → fs' ≡ add_facts lines-on fs (c + 1) l.number.number l.parent.number (field ls fs l.parent.number LAST)
        (place + l.start) l.length
        → Reading text r.at ls' fs' (c + 1)
    good-line ls' fs' p d = goes_on_lem text ls fs place c g more r is fine ls' fs' p d

-- ---- the whole text

pub long_text : (text ls fs : List ℕ) → BYTES < length text → Reads text ls fs (told_by (Err (record { fault = TextTooLong; line = 0 })))
long_text text ls fs h = too_long_lem text ls fs h

pub ends_fit : (text : List ℕ) (n : ℕ) → length text ≤ BYTES → n ≡ count LF text → Fits w64 (n + 1)
ends_fit text n h e = record { fits = omega (arith, e, count-le LF text) }

pub ends_small : (text : List ℕ) (n : ℕ) → length text ≤ BYTES → n ≡ count LF text → Fits w32 (n + 1)
ends_small text n h e = record { fits = omega (arith, e, count-le LF text) }

pub open_text : (text ls fs : List ℕ) (n : ℕ) (b : Bool) → length text ≤ BYTES → b ≡ ended text → not b ≡ true
    → n ≡ count LF text → Reads text ls fs (told_by (Err (record { fault = Unended; line = n + 1 })))
open_text text ls fs n b h e f q = not-ended text ls fs (n + 1) h (sym e ∙ not-true b f) (ap (λ (k : ℕ). k + 1) q)

pub first-line : (text ls fs fs' : List ℕ) (b : Bool) → length text ≤ BYTES → b ≡ ended text → not b ≡ false → ls ≡ no_lines
    → fs ≡ no_facts → fs' ≡ opened fs → Begins text ls fs'
first-line text ls fs fs' b h e f p q d =
    record { short = h; whole = sym e ∙ not-false b f; no_line = p; no_fact = d ∙ ap opened q }

-- ---- tables side by side

pub fills : (text : List ℕ) (lines facts : List (List ℕ)) (t : ℕ) (ls fs : List ℕ) (r : Read) → t < TABLES → length lines ≡ TABLES
    → length facts ≡ TABLES → Reads text ls fs r → Fills text lines facts t (set lines t ls) (set facts t fs) r
fills text lines facts t ls fs r h p q w = record {
  read =
      subst (λ (z : List ℕ). Reads text z (get_or (set facts t fs) t []) r) (sym (get_or-set_same lines t ls [] (omega arith)))
      (subst (λ (z : List ℕ). Reads text ls z r) (sym (get_or-set_same facts t fs [] (omega arith))) w);
  lines_stay = λ u f. get_or-set_other lines t u ls [] f;
  facts_stay = λ u f. get_or-set_other facts t u fs [] f;
}

pub ruleset steps = (
  finish,
  line_fits,
  line_small,
  faulty-line,
  start_fits,
  start_small,
  length_small,
  line-room,
  number_room,
  less_left,
  good-line,
  long_text,
  ends_fit,
  ends_small,
  open_text,
  first-line,
  rules,
)
