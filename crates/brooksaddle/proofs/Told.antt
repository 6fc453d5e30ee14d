-- What the calls tell once the table was read: of a refused table, and of an accepted one. text is the table's bytes, ls and fs are the
-- two arrays after reading, a is what reading told, n is a number. Assumes nothing.
use mathlib.Core.Path.{◌≡◌, refl, sym, ap, ◌∙◌, subst}
use mathlib.Core.Bool.{Bool, true, false, true≢false}
use mathlib.Core.List.{List, [], ◌∷◌}
use Prim.Native.Nat.{ℕ, ◌+◌, ◌-◌, ◌<◌, ◌≤◌}
use native.Mathlib.Omega.{arith}
use lib.Dec.{T, ltb}
use denote.Ref.{Bor}
use lib.ListN.{length, take, drop}
use borrow.Author.Rules.{rules}
use borrow.Author.Tests.{lt-ltb, le-ltb, ltb-true}
use Rattle.rules.specs.Line.{Row}
use Rattle.rules.specs.Table.{stands, Verdict, readable, unreadable, verdict}
use Rattle.rules.specs.Demands.{Readable}
use Rattle.rules.specs.Codes.{table_too_short}
use Rattle.rules.specs.Lists.{◌∈◌}
use Rattle.rules.specs.Written.{tidied}
use Rattle.rules.specs.Calls.{checked, tidy_told, tidy_of, tidy_into, no_part, part_of, content_answer}
use Rattle.rules.specs.Promises.{Checks, Tidies, IsPart, HandsBack}
use Rattle.readback.proofs.Following.{good_readable, good_few}
use Rattle.readback.proofs.Faults.{stands_in, in_stands}
use Rattle.readback.proofs.Accepting.{accepted_text, good}
use Rattle.readback.proofs.Tidying.{tidied-length}
use Rattle.readback.proofs.Parts.{part_none, part-content, part_within}
use Rattle.facts.specs.Memory.{ROOM, PLACE, LENGTH, SPAN, start_of, text_of, line_at, field}
use Rattle.facts.specs.Asked.{has_in}
use Rattle.facts.specs.Holds.{Holds}
use Rattle.rules.specs.declared.answers.Part.{Part}
use Rattle.std.specs.Prelude.{Result, Ok, Err}
use Rattle.std.specs.Result.{is_err}
use Rattle.table.specs.declared.Unreadable.{Unreadable}
use Rattle.table.specs.Read.{Read, told_by, Reads}
use Rattle.table.proofs.Answers.{Accepted, refused, accepted}
use Rattle.write.specs.Stored.{part_in, Lies, HasContent, content_at, Stored}
use Rattle.write.specs.Writing.{TableReady, TableWritten}
use Rattle.trees.proofs.OneTable.{number_row, row_number}
use Rattle.depth.specs.Climbing.{greatest_on, Climbs}
use Rattle.depth.proofs.Greatest.{climbs, greatest}

-- a part of a text that stands first lies there
in_first : (text : List ℕ) (place long : ℕ) → place < SPAN → place + long ≤ length text → (content : List ℕ)
    → content ≡ take long (drop place text) → Lies (text ∷ []) place long × (content ≡ part_in (text ∷ []) place long)
in_first text place long h g content e =
    let first : text_of place ≡ 0 = omega arith in
    let same : start_of place ≡ place = omega arith in
    (record { text = omega arith; within = rw (first, same) g }, rw (first, same) e)

-- what was not refused was accepted
pub told_ok : (r : Result ℕ Unreadable) → is_err r ≡ false → (told_by r).code ≡ 0
told_ok (Ok count) e = refl
told_ok (Err why) e = absurd (cc e)

-- ---- a table that was read

module _ (text ls fs : List ℕ) (a : Read) (w : Reads text ls fs a) (t : List Row) (q : verdict text ≡ readable t) where
  place_of : (x : Row) → x ∈ t → field ls fs x.number PLACE ≡ (content_answer text x.number).start
  place_of x m = ap (λ (p : Part). p.start) (w.placed t q x.number (row_number t x m))

  -- a place in the text
  pub read_low : (x : Row) → x ∈ t → field ls fs x.number PLACE < SPAN
  read_low x m = omega (arith, (accepted_text text t q).short, part_within text t q x m, place_of x m)

  -- its text holds its contents
  pub read_stored : Stored (text ∷ []) ls fs t
  read_stored = record {
    readable = good_readable t (good text t q);
    holds = w.held t q;
    lies = λ x m. (place x m).0;
    contents = λ x m. (place x m).1;
  }
    where
      place : (x : Row) → x ∈ t → HasContent (text ∷ []) ls fs x.number × (x.content ≡ content_at (text ∷ []) ls fs x.number)
      place x m =
          let s = place_of x m in
          let k : field ls fs x.number LENGTH ≡ (content_answer text x.number).length =
          ap (λ (p : Part). p.length) (w.placed t q x.number (row_number t x m)) in
          in_first text _ _ (read_low x m) (omega (arith, part_within text t q x m, s, k)) x.content
          (sym (part-content text t q x m) ∙ (λ i. take (sym k i) (drop (sym s i) text)))

module _ (text ls fs : List ℕ) (a : Read) (w : Reads text ls fs a) where
  -- ---- refused

  pub check_refused : (code line : ℕ) → code ≡ a.code → line ≡ a.line → (code ≡ 0 → ⊥)
      → Checks text (record { code = code; line = line; count = 0; depth = 0 })
  check_refused code line e d f = record {
    answered =
        (λ i. record { code = e i; line = d i; count = 0; depth = 0 })
        ∙ ap checked (sym (refused text ls fs a w (λ z. f (e ∙ z))));
  }

  pub tidy_refused : (buffer : List ℕ) (code line : ℕ) → code ≡ a.code → line ≡ a.line → (code ≡ 0 → ⊥)
      → Tidies text buffer (tidy_told code line 0) buffer
  tidy_refused buffer code line e d f =
      let r = refused text ls fs a w (λ z. f (e ∙ z)) in
      record {
        answered = (λ i. tidy_told (e i) (d i) 0) ∙ ap (λ (v : Verdict). tidy_of v (length buffer)) (sym r);
        buffered = ap (λ (v : Verdict). tidy_into v buffer) (sym r);
      }

  pub part_refused : (n : ℕ) (p : Part) → (a.code ≡ 0 → ⊥) → p ≡ no_part → p ≡ content_answer text n
  part_refused n p f e = e ∙ ap (λ (v : Verdict). part_of v text n) (sym (refused text ls fs a w f))

  -- ---- accepted

  module _ (fine : a.code ≡ 0) where
    table : Accepted text a
    table = accepted text ls fs a w fine

    abbrev t : List Row
    t = table.t

    counted : a.count ≡ length t
    counted = ap (λ (z : Read). z.count) table.answer

    holds : Holds ls fs t
    holds = w.held t table.is

    ok : Readable t
    ok = good_readable t (good text t table.is)

    few : length t < ROOM
    few = omega (arith, good_few t (good text t table.is))

    pub check_climbs : Climbs ls fs a.count
    check_climbs = subst (Climbs ls fs) (sym (counted)) (climbs ls fs t holds ok few)

    pub check_accepted : (code count d : ℕ) → code ≡ a.code → count ≡ a.count → d ≡ greatest_on ls fs count
        → Checks text (record { code = code; line = 0; count = count; depth = d })
    check_accepted code count d e q f = record {
      answered =
          (λ i. record {
            code = (e ∙ fine) i;
            line = 0;
            count = (q ∙ counted) i;
            depth = (f ∙ ap (greatest_on ls fs) (q ∙ counted) ∙ greatest ls fs t holds ok few) i;
          })
          ∙ ap checked (sym table.is);
    }

    -- ---- tidy

    long : length (tidied t) ≡ length text
    long = tidied-length text t table.is

    stored : Stored (text ∷ []) ls fs t
    stored = read_stored text ls fs a w t table.is

    pub tidy_short : (buffer : List ℕ) → length buffer < length text
        → Tidies text buffer (tidy_told table_too_short 0 (length text)) buffer
    tidy_short buffer h =
        let b : ltb (length buffer) (length (tidied t)) ≡ true = lt-ltb (length buffer) (length (tidied t)) (omega (arith, long)) in
        record {
          answered = ap (tidy_told table_too_short 0) (sym long) ∙ rw (table.is, b);
          buffered = rw (table.is, b);
        }

    pub tidy_ready : (buffer : List ℕ) → length text ≤ length buffer → TableReady (text ∷ []) ls fs a.count (length buffer)
    tidy_ready buffer h = record { t = t; stored = stored; counted = counted; fits = omega (arith, long) }

    pub tidy_accepted : (buffer buffer' : List ℕ) (code : ℕ) → code ≡ a.code → length text ≤ length buffer
        → TableWritten (text ∷ []) ls fs buffer buffer' → Tidies text buffer (tidy_told code 0 (length text)) buffer'
    tidy_accepted buffer buffer' code e h d =
        let b : ltb (length buffer) (length (tidied t)) ≡ false = le-ltb (length buffer) (length (tidied t)) (omega (arith, long)) in
        record {
          answered = (λ i. tidy_told ((e ∙ fine) i) 0 (sym long i)) ∙ rw (table.is, b);
          buffered = d.all t stored ∙ rw (table.is, b);
        }

    -- ---- content; n is the record made of the number m

    pub part_absent : (n m : ℕ) (b : Bool) (p : Part) → n ≡ m → b ≡ has_in ls n → b ≡ false → p ≡ no_part → p ≡ content_answer text m
    part_absent n m b p i e f q =
        q ∙ sym (part_none text t table.is n (λ j. true≢false (sym (lt-ltb 0 (line_at ls n) (holds.known n j)) ∙ sym e ∙ f)))
        ∙ ap (content_answer text) i

    pub part_there : (n m s k : ℕ) (b : Bool) → n ≡ m → b ≡ has_in ls n → b ≡ true → s ≡ field ls fs n PLACE → k ≡ field ls fs n LENGTH
        → record { start = s; length = k } ≡ content_answer text m
    part_there n m s k b i e f p q =
        (λ j. record { start = p j; length = q j })
        ∙ w.placed t table.is n (holds.only n (ltb-true 0 (line_at ls n) (sym e ∙ f)))
        ∙ ap (content_answer text) i

pub ruleset tellings = (
  check_refused,
  check_climbs,
  check_accepted,
  part_refused,
  part_absent,
  part_there,
  tidy_refused,
  tidy_short,
  tidy_ready,
  tidy_accepted,
  rules,
)

-- ---- the part that is told lies in the text

pub part_in_lem : (text : List ℕ) (n : ℕ) (p : Part) → p ≡ content_answer text n → p.start + p.length ≤ length text
part_in_lem text n p e = subst In (sym e) (go (verdict text) refl)
  where
    In : Part → Type 0
    In q = q.start + q.length ≤ length text

    known : (t : List Row) → verdict text ≡ readable t → (b : Bool) → stands n t ≡ b → In (content_answer text n)
    known t q true d =
        let w = number_row t n (stands_in t n (subst T (sym d) tt)) in
        subst (λ (m : ℕ). In (content_answer text m)) w.2 (part_within text t q w.0 w.1)
    known t q false d = subst In (sym (part_none text t q n (λ m. subst T d (in_stands t n m)))) (omega arith)

    go : (v : Verdict) → verdict text ≡ v → In (content_answer text n)
    go (readable t) q = known t q (stands n t) refl
    go (unreadable c l) q = subst In (sym (ap (λ (v : Verdict). part_of v text n) q)) (omega arith)

-- the part cut out between a start and an end is the part that was told
pub hands_back : (text handed : Bor (List ℕ)) (n : ℕ) (p : Part) → p ≡ content_answer text.now n → handed.ref_ptr.0 ≡ text.ref_ptr.0
    → handed.ref_ptr.1 ≡ p.start + text.ref_ptr.1 → handed.now ≡ take (p.start + p.length - p.start) (drop p.start text.now)
    → HandsBack text n handed
hands_back text handed n p e b o w = record { part = subst (IsPart text handed) e cut }
  where
    long : p.start + p.length - p.start ≡ p.length
    long = omega arith

    cut : IsPart text handed p
    cut = record {
      block = b;
      place = o ∙ omega arith;
      bytes = w ∙ ap (λ (k : ℕ). take k (drop p.start text.now)) long;
    }
