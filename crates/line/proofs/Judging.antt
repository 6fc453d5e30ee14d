-- The faults of a line's parts, in their order, and its row. s is what is left of the text, l the line without its LF, `parts` what was
-- found of its parts, p a part that writes a number, n the number read there. Assumes nothing.
use mathlib.Core.Path.{◌≡◌, refl, sym, ap, ◌∙◌}
use mathlib.Core.Bool.{Bool, true, false, cond, not, ◌&&◌, true≢false, and-false}
use mathlib.Core.List.{List, []}
use Prim.Native.Nat.{ℕ, ◌+◌, ◌-◌, ◌^◌, ◌<◌, ◌≤◌}
use native.Mathlib.Omega.{arith}
use mir.Val.{Fits}
use mir.Syntax.{w64}
use lib.Dec.{eqb, leb, ltb}
use lib.ListN.{length, drop, length-drop, length-append}
use borrow.Author.Tests.{ne_eqb, leb-true, leb-false}
use Rattle.std.specs.Prelude.{Option, Some, None, Result, Ok, Err, ok_or}
use Rattle.std.specs.Option.{option_or}
use Rattle.std.proofs.lemmas.Option.{cond_some}
use Rattle.rules.specs.Codes.{accepted, byte_not_allowed, few_tabs, bad_number, bad_parent, bad_content}
use Rattle.rules.specs.Limits.{GREATEST}
use Rattle.rules.specs.Lists.{every}
use Rattle.rules.specs.Marks.{is_record}
use Rattle.rules.specs.Line.{number_part, parent_part, content_part, number_ok, parent_ok, line_fault}
use Rattle.rules.specs.declared.kinds.Fault.{Fault}
use Rattle.rules.specs.declared.kinds.Fault.TheVariants.{ByteNotAllowed, FewTabs, BadNumber, BadParent, BadContent}
use Rattle.rules.specs.declared.record.Record.{Record}
use Rattle.rules.specs.Text.{TAB, LF, allowed, count, before, decimal, value, content_ok}
use Rattle.readback.proofs.Splitting.{before-left}
use Rattle.text.specs.Reads.{number_in}
use Rattle.text.proofs.Places.{left_none}
use Rattle.line.specs.Parts.{content_fits, good_parts, parts_of}
use Rattle.line.specs.Told.{good, fault_of, line_told, next_line, from_place, reached_from}
use Rattle.line.specs.declared.Reached.{Reached}
use Rattle.line.specs.declared.Parts.{Parts}
use Rattle.line.proofs.Parting.{Cut, cut_is}

-- ---- what is told of a line with a fault, and of one without

told_faulty : (l : List ℕ) (code : ℕ) → line_fault l ≡ code → (code ≡ accepted → ⊥) → Err (fault_of code) ≡ line_told l
unfolding line_told
told_faulty l code e n =
    sym (ap (λ (k : ℕ). cond (eqb k accepted) (Ok (good l)) (Err (fault_of k))) e
    ∙ ap (λ (u : Bool). cond u (Ok (good l)) (Err (fault_of code))) (ne_eqb code accepted n))

pub told-good : (l : List ℕ) → line_fault l ≡ accepted → Ok (good l) ≡ line_told l
unfolding line_told
told-good l e = sym (ap (λ (k : ℕ). cond (eqb k accepted) (Ok (good l)) (Err (fault_of k))) e)

-- ---- numbers

-- a decimal above the greatest number counts as none
module _ (p : List ℕ) where
  none_read : number_in p ≡ None → (decimal p && leb (value p) GREATEST) ≡ false
  none_read = go (decimal p && leb (value p) GREATEST)
    where
      go : (u : Bool) → cond u (Some (value p)) None ≡ None → u ≡ false
      go true e = cc
      go false e = refl

  number_none : number_in p ≡ None → number_ok p ≡ false
  number_none e = go (decimal p) (leb 1 (value p)) (leb (value p) GREATEST) (none_read e)
    where
      go : (a b c : Bool) → (a && c) ≡ false → (a && (b && c)) ≡ false
      go true b c f = rw f (and-false b)
      go false b c f = refl

  number_some : (n : ℕ) → number_in p ≡ Some n → (parent_ok p ≡ true) × (value p ≡ n)
  number_some n e = cond_some (parent_ok p) (value p) n e

  number_is : (n : ℕ) → number_in p ≡ Some n → number_ok p ≡ is_record n
  number_is n e =
      let w = number_some n e in
      go (decimal p) (leb 1 (value p)) (leb (value p) GREATEST) w.0 ∙ ap is_record w.1
    where
      go : (a b c : Bool) → (a && c) ≡ true → (a && (b && c)) ≡ (b && c)
      go true b c f = refl
      go false b c f = absurd (true≢false (sym f))

-- ---- the ways through reading a line

module _ (s : List ℕ) where
  abbrev l : List ℕ
  l = before LF s

  -- the fault of its bytes or tabs comes first
  pub judge_shape : (f : Fault) → Err f ≡ parts_of l → Err f ≡ next_line s
  judge_shape f e = go (every allowed l) (ltb (count TAB l) 2) refl refl e
    where
      go : (a b : Bool) → every allowed l ≡ a → ltb (count TAB l) 2 ≡ b
          → Err f ≡ cond (not a) (Err ByteNotAllowed) (cond b (Err FewTabs) (Ok (good_parts l))) → Err f ≡ next_line s
      go true true p q g =
          let e : f ≡ FewTabs = cc in ap Err e ∙ told_faulty l few_tabs (rw (p, q)) (λ z. absurd (omega (arith, z)))
      go true false p q g = cc
      go false b p q g =
          let e : f ≡ ByteNotAllowed = cc in ap Err e ∙ told_faulty l byte_not_allowed (rw p) (λ z. absurd (omega (arith, z)))

-- the parts are cut and the number is good, and then the parent
pub record Numbered (s : List ℕ) (parts : Parts) (n : ℕ) : Type 0 where
  pub cut : Cut s parts
  pub ok : number_ok (number_part (before LF s)) ≡ true
  pub is : value (number_part (before LF s)) ≡ n

pub record Parented (s : List ℕ) (parts : Parts) (n m : ℕ) : Type 0 where
  pub number : Numbered s parts n
  pub ok : parent_ok (parent_part (before LF s)) ≡ true
  pub is : value (parent_part (before LF s)) ≡ m

-- a number, or none where there is none, is that number
pub or_none : (o p : Option ℕ) → o ≡ option_or p None → o ≡ p
or_none o (Some x) e = e
or_none o None e = e

read_some : (o : Option ℕ) (f : Fault) (n : ℕ) → ok_or o f ≡ Ok n → o ≡ Some n
read_some (Some x) f n e = cc
read_some None f n e = cc

read_none : (o : Option ℕ) (f g : Fault) → ok_or o f ≡ Err g → (o ≡ None) × (g ≡ f)
read_none (Some x) f g e = cc
read_none None f g e = let same : g ≡ f = cc in (refl, same)

module _ (s : List ℕ) (parts : Parts) (k : Cut s parts) (r : Result ℕ Fault) (b : r ≡ ok_or parts.number BadNumber) where
  bad_number_told : number_ok (number_part (before LF s)) ≡ false → Err BadNumber ≡ next_line s
  bad_number_told f = told_faulty (before LF s) bad_number (rw (k.bytes, k.tabs, f)) (λ z. absurd (omega (arith, z)))

  pub judge_none : (f : Fault) → r ≡ Err f → Err f ≡ next_line s
  judge_none f q =
      let w = read_none parts.number BadNumber f (sym b ∙ q) in
      ap Err w.1 ∙ bad_number_told (number_none (number_part (before LF s)) (sym k.number ∙ w.0))

  -- n is the number read, w that number as a record's, u whether it may be one
  module _ (n w : ℕ) (u : Bool) (q : r ≡ Ok n) (v : w ≡ n) (t : u ≡ is_record w) where
    read : number_in (number_part (before LF s)) ≡ Some n
    read = sym k.number ∙ read_some parts.number BadNumber n (sym b ∙ q)

    tested : number_ok (number_part (before LF s)) ≡ u
    tested = number_is (number_part (before LF s)) n read ∙ sym (t ∙ ap is_record v)

    pub judge_number : u ≡ false → Err BadNumber ≡ next_line s
    judge_number f = bad_number_told (tested ∙ f)

    pub numbered : u ≡ true → Numbered s parts n
    numbered f = record { cut = k; ok = tested ∙ f; is = (number_some (number_part (before LF s)) n read).1 }

-- o is the parent's number as it is asked for
module _ (s : List ℕ) (parts : Parts) (n : ℕ) (a : Numbered s parts n) (o : Option ℕ) (r : Result ℕ Fault) (b : r ≡ ok_or o BadParent)
    (i : o ≡ parts.parent) where
  pub judge_parent : (f : Fault) → r ≡ Err f → Err f ≡ next_line s
  judge_parent f q =
      ap Err w.1 ∙ told_faulty (before LF s) bad_parent (rw (a.cut.bytes, a.cut.tabs, a.ok, none)) (λ z. absurd (omega (arith, z)))
    where
      w : (o ≡ None) × (f ≡ BadParent)
      w = read_none o BadParent f (sym b ∙ q)

      none : parent_ok (parent_part (before LF s)) ≡ false
      none = none_read (parent_part (before LF s)) (sym a.cut.parent ∙ sym i ∙ w.0)

  pub parented : (m : ℕ) → r ≡ Ok m → Parented s parts n m
  parented m q =
      let w = number_some (parent_part (before LF s)) m (sym a.cut.parent ∙ sym i ∙ read_some o BadParent m (sym b ∙ q)) in
      record { number = a; ok = w.0; is = w.1 }

-- `long` is the content's length, u whether the content keeps its rule
module _ (s : List ℕ) (parts : Parts) (n m long : ℕ) (u : Bool) (a : Parented s parts n m) (d : long ≡ parts.end - parts.start)
    (f : u ≡ content_fits long parts.filled) where
  k : Cut s parts
  k = a.number.cut

  long_is : long ≡ length (content_part (before LF s))
  long_is = d ∙ k.content

  content_tested : content_ok (content_part (before LF s)) ≡ u
  content_tested = sym (f ∙ rw (long_is, k.filled))

  judged : line_fault (before LF s) ≡ cond (not u) bad_content accepted
  judged = rw (k.bytes, k.tabs, a.number.ok, a.ok, content_tested)

  pub judge_content : u ≡ false → Err BadContent ≡ next_line s
  judge_content g = told_faulty (before LF s) bad_content (judged ∙ rw g) (λ z. absurd (omega (arith, z)))

  module _ (number parent : Record) (p : number.number ≡ n) (q : parent.number ≡ m) where
    abbrev row : Reached
    row =
        record {
          line = record {
            number = number;
            parent = parent;
            start = parts.start;
            length = long;
          };
          at = parts.end + 1;
        }

    row_is : row ≡ good (before LF s)
    row_is =
        λ i. record {
          line = record {
            number = record { number = (p ∙ sym a.number.is) i };
            parent = record { number = (q ∙ sym a.is) i };
            start = start_is i;
            length = long_is i;
          };
          at = ap (λ (x : ℕ). x + 1) k.long i;
        }
      where
        start_is : parts.start ≡ length (before LF s) - length (content_part (before LF s))
        start_is = omega (arith, k.content, k.long, k.low)

    pub row_told : u ≡ true → Ok row ≡ next_line s
    row_told g = ap Ok row_is ∙ told-good (before LF s) (judged ∙ rw g)

pub ruleset judges = (cut_is, judge_shape, judge_none, judge_number, numbered, or_none, judge_parent, parented, judge_content, row_told)

-- ---- the line at a place

told_is : (l : List ℕ) (r : Reached) → Ok r ≡ line_told l → r ≡ good l
unfolding line_told
told_is l r e = go (eqb (line_fault l) accepted) e
  where
    go : (u : Bool) → Ok r ≡ cond u (Ok (good l)) (Err (fault_of (line_fault l))) → r ≡ good l
    go true f = cc
    go false f = cc

-- where nothing is left, no line is told
none_told : (r : Reached) → Ok r ≡ next_line [] → ⊥
unfolding line_told
none_told r e = cc

-- a line ends at most behind the last byte
behind-le : (rest : List ℕ) (r : Reached) → Ok r ≡ next_line rest → r.at ≤ length rest + 1
behind-le rest r e =
    let b = length (before LF rest) in
    omega (
      arith,
      ap (λ (z : Reached). z.at) (told_is (before LF rest) r e),
      ap length (before-left LF rest),
      length-append (before LF rest) (drop b rest),
    )

pub reached_fits : (s : List ℕ) (place : ℕ) (r : Reached) → Ok r ≡ next_line (drop place s) → length s + 1 < 2 ^ 64
    → Fits w64 (place + r.at)
reached_fits s place r e h = record { fits = go (leb (length s) place) refl }
  where
    go : (u : Bool) → leb (length s) place ≡ u → place + r.at < 2 ^ 64
    go true q = absurd (none_told r (e ∙ ap next_line (left_none s place (leb-true (length s) place q))))
    go false q = omega (arith, behind-le (drop place s) r e, h, length-drop place s, leb-false (length s) place q)

pub reached_told : (s : List ℕ) (place : ℕ) (r : Reached) → Ok r ≡ next_line (drop place s)
    → Ok (record { line = r.line; at = place + r.at }) ≡ reached_from s place
reached_told s place r e = ap (from_place place) e

pub reached_faulty : (s : List ℕ) (place : ℕ) (f : Fault) → Err f ≡ next_line (drop place s) → Err f ≡ reached_from s place
reached_faulty s place f e = ap (from_place place) e

pub ruleset reaches = (reached_fits, reached_told, reached_faulty)
