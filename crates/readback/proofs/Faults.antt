-- When a line has no fault: each of its parts keeps its rule, and its row may follow those before it. l is a line, `seen` are the
-- rows of the lines before, n is a number, p a parent. Assumes nothing.
use mathlib.Core.Path.{◌≡◌, refl, sym}
use mathlib.Core.Logic.{inl, inr}
use mathlib.Core.Bool.{Bool, true, false, cond, not, ◌&&◌}
use mathlib.Core.List.Memᴰ
use mathlib.Core.List.Memᴰ.{head as here}
use mathlib.Core.List.Memᴰ.{tail as there}
use mathlib.Core.List.{List, ◌∷◌}
use Prim.Native.Nat.{ℕ, ◌≤◌}
use lib.ListN.{length}
use lib.Dec.{T, T_not, not_T, eqb, leb, ltb, eqb_refl}
use mir.Facts.{T_not-not, and_yes, and_no, eqb_yes, yes_eqb, leb_yes, leb_no, no_leb, ltb_no, no_ltb}
use borrow.Author.Tests.{eqb-true, eqb-false}
use Rattle.rules.specs.Limits.{LINES, GREATEST}
use Rattle.rules.specs.Codes.{accepted, too_many_lines, byte_not_allowed, few_tabs, bad_number, bad_parent, bad_content, number_twice}
use Rattle.rules.specs.Codes.{parent_missing}
use Rattle.rules.specs.Lists.{◌∈◌, every}
use Rattle.rules.specs.Marks.{TOP, is_record}
use Rattle.rules.specs.Text.{TAB, allowed, count, after, decimal, content_ok}
use Rattle.rules.specs.Line.{Row, number_part, parent_part, content_part, row_of, number_ok, parent_ok, line_fault}
use Rattle.rules.specs.Table.{numbers, stands, fault}
use Rattle.trees.proofs.Lists.{any_in, any_out}
use Rattle.readback.proofs.Splitting.{every-after}
use Rattle.readback.proofs.Following.{Follows}

-- ---- one test before others

-- no code was given, so this test did not give its own
passed : (b : Bool) (code rest : ℕ) → T (not (eqb code accepted)) → cond b code rest ≡ accepted → T (not b) × (rest ≡ accepted)
passed true code rest f e = absurd (T_not (eqb code accepted) f (yes_eqb e))
passed false code rest f e = (tt, e)

passes : (b : Bool) (code rest : ℕ) → T (not b) → rest ≡ accepted → cond b code rest ≡ accepted
passes true code rest f e = absurd f
passes false code rest f e = e

not-not : (b : Bool) → T b → T (not (not b))
not-not true t = tt
not-not false t = t

-- ---- one line

-- each part of the line keeps its rule
pub record KeepsRules (l : List ℕ) : Type 0 where
  pub bytes : T (every allowed l)
  pub tabs : 2 ≤ count TAB l
  pub number : T (number_ok (number_part l))
  pub parent : T (parent_ok (parent_part l))
  pub content : T (content_ok (content_part l))

pub keeps_rules : (l : List ℕ) → line_fault l ≡ accepted → KeepsRules l
keeps_rules l e =
    let a = passed (not (every allowed l)) byte_not_allowed _ tt e in
    let b = passed (ltb (count TAB l) 2) few_tabs _ tt a.1 in
    let c = passed (not (number_ok (number_part l))) bad_number _ tt b.1 in
    let d = passed (not (parent_ok (parent_part l))) bad_parent _ tt c.1 in
    let f = passed (not (content_ok (content_part l))) bad_content _ tt d.1 in
    record {
      bytes = T_not-not (every allowed l) a.0;
      tabs = ltb_no b.0;
      number = T_not-not (number_ok (number_part l)) c.0;
      parent = T_not-not (parent_ok (parent_part l)) d.0;
      content = T_not-not (content_ok (content_part l)) f.0;
    }

pub no_line-fault : (l : List ℕ) → KeepsRules l → line_fault l ≡ accepted
no_line-fault l k =
    passes (not (every allowed l)) byte_not_allowed _ (not-not (every allowed l) k.bytes)
    (passes (ltb (count TAB l) 2) few_tabs _ (no_ltb k.tabs)
    (passes (not (number_ok (number_part l))) bad_number _ (not-not (number_ok (number_part l)) k.number)
    (passes (not (parent_ok (parent_part l))) bad_parent _ (not-not (parent_ok (parent_part l)) k.parent)
    (passes (not (content_ok (content_part l))) bad_content _ (not-not (content_ok (content_part l)) k.content) refl))))

-- ---- a number on an earlier line

module _ (seen : List Row) where
  pub stands_in : (n : ℕ) → T (stands n seen) → n ∈ numbers seen
  stands_in n t = let w = any_out (λ (m : ℕ). eqb m n) (numbers seen) t in Memᴰ.cast (sym (eqb_yes w.2)) w.1

  pub in_stands : (n : ℕ) → n ∈ numbers seen → T (stands n seen)
  in_stands n m = any_in (λ (k : ℕ). eqb k n) m (eqb_refl n)

  -- "parent neither 0 nor on an earlier line"
  abbrev missing : ℕ → Bool
  missing p = not (eqb p TOP) && not (stands p seen)

  not-missing : (p : ℕ) → T (not (missing p)) → p ∈ TOP ∷ numbers seen
  not-missing p f =
      elim (and_no (not (eqb p TOP)) (not (stands p seen)) f) [
        | inl a ↦ here (eqb_yes (T_not-not (eqb p TOP) a))
        | inr b ↦ there (stands_in p (T_not-not (stands p seen) b))
      ]

  found : (p : ℕ) → p ∈ TOP ∷ numbers seen → T (not (missing p))
  found p m = not_T (missing p) (λ t. go m (and_yes (not (eqb p TOP)) (not (stands p seen)) t))
    where
      go : p ∈ TOP ∷ numbers seen → T (not (eqb p TOP)) × T (not (stands p seen)) → ⊥
      go (here e) a = T_not (eqb p TOP) a.0 (yes_eqb e)
      go (there k) a = T_not (stands p seen) a.1 (in_stands p k)

-- ---- one line after others

module _ (seen : List Row) (l : List ℕ) where
  -- the tests that a line without a fault passed
  record Passed : Type 0 where
    room : T (not (leb LINES (length seen)))
    rules : KeepsRules l
    new : T (not (stands (row_of l).number seen))
    under : T (not (missing seen (row_of l).parent))

  no_own : (b : Bool) → eqb (line_fault l) accepted ≡ b → (rest : ℕ) → cond (not b) (line_fault l) rest ≡ accepted
      → (line_fault l ≡ accepted) × (rest ≡ accepted)
  no_own true q rest e = (eqb-true (line_fault l) accepted q, e)
  no_own false q rest e = absurd (eqb-false (line_fault l) accepted q e)

  passed_all : fault seen l ≡ accepted → Passed
  passed_all e =
      let a = passed (leb LINES (length seen)) too_many_lines _ tt e in
      let b = no_own (eqb (line_fault l) accepted) refl _ a.1 in
      let c = passed (stands (row_of l).number seen) number_twice _ tt b.1 in
      let d = passed (missing seen (row_of l).parent) parent_missing _ tt c.1 in
      record { room = a.0; rules = keeps_rules l b.0; new = c.0; under = d.0 }

  pub fault_rules : fault seen l ≡ accepted → KeepsRules l
  fault_rules e = (passed_all e).rules

  -- the row of a line without a fault may follow those before it
  pub fault_follows : fault seen l ≡ accepted → Follows seen (row_of l)
  fault_follows e =
      let a = passed_all e in
      let n = (row_of l).number in
      let p = (row_of l).parent in
      record {
        room = leb_no a.room;
        number = (and_yes (decimal (number_part l)) (is_record n) a.rules.number).1;
        parent = leb_yes (and_yes (decimal (parent_part l)) (leb p GREATEST) a.rules.parent).1;
        new = λ m. T_not (stands n seen) a.new (in_stands seen n m);
        under = not-missing seen p a.under;
        content = record {
          rule = a.rules.content;
          bytes = every-after allowed TAB (after TAB l) (every-after allowed TAB l a.rules.bytes);
        };
      }

  -- a line that keeps its rules has no fault, if its row may follow those before it
  pub no_fault : KeepsRules l → Follows seen (row_of l) → fault seen l ≡ accepted
  no_fault k f =
      passes (leb LINES (length seen)) too_many_lines _ (no_leb f.room)
      (passes (not (eqb (line_fault l) accepted)) (line_fault l) _ (not-not (eqb (line_fault l) accepted) (yes_eqb (no_line-fault l k)))
      (passes (stands n seen) number_twice _ (not_T (stands n seen) (λ t. f.new (stands_in seen n t)))
      (passes (missing seen p) parent_missing _ (found seen p f.under) refl)))
    where
      n : ℕ
      n = (row_of l).number

      p : ℕ
      p = (row_of l).parent
