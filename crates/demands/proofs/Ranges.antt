-- The five numbers that a call of merge tells, whatever the texts: code at most 32, table at most 3, place at most 65,535, table length at
-- most 32,768 and ledger length at most 6,160. So each has at most six digits, and the line that is printed of them reads back as them. a
-- and b are the room of the two buffers. Assumes nothing.
use mathlib.Core.Path.{◌≡◌, sym, ap, ◌∙◌, subst}
use mathlib.Core.Logic.{◌⊎◌, inl, inr}
use mathlib.Core.List.Memᴰ
use mathlib.Core.List.Memᴰ.{head as here}
use mathlib.Core.List.Memᴰ.{tail as there}
use mathlib.Core.List.{List, [], ◌∷◌, map}
use Prim.Native.Nat.{ℕ, ◌<◌, ◌≤◌}
use native.Mathlib.Omega.{arith}
use lib.ListN.{length}
use Rattle.rules.specs.Lists.{◌∈◌}
use Rattle.rules.specs.Text.{LF, before, fields, value}
use Rattle.rules.specs.Line.{Row}
use Rattle.rules.specs.Tree.{Tree}
use Rattle.rules.specs.Written.{digits}
use Rattle.rules.specs.Facts.{facts_of}
use Rattle.rules.specs.Merge.{refused, merge}
use Rattle.rules.specs.Ledger.{entries_of}
use Rattle.rules.specs.Calls.{Outcome, merge_texts, merge_outcome, answer_of, shown}
use Rattle.rules.specs.Promises.{Merges}
use Rattle.rules.specs.Demands.{Readable, Answers, Tables}
use Rattle.rules.specs.Conditions.{TopOrRecordOf}
use Rattle.rules.specs.UnreadableText.{Refused, too_long, unended, on_line}
use Rattle.rules.specs.declared.answers.Merged.{Merged}
use Rattle.trees.proofs.Marks.{record_high}
use Rattle.trees.proofs.OneTable.{number_record}
use Rattle.trees.proofs.Refusing as trees
use Rattle.trees.proofs.Naming.{refusal_place}
use Rattle.readback.proofs.Splitting.{count-le}
use Rattle.readback.proofs.UnreadableText.{unreadable_exactly}
use Rattle.demands.proofs.Demand3.{all_readable}
use Rattle.demands.proofs.Unread.{Unread, read_or-not}
use Rattle.demands.proofs.Room.{Ends, large, table_long, ledger_long, fits, Clashed, ends, answer_ends}
use Rattle.demands.proofs.Lengths.{all_limited}
use Rattle.demands.proofs.Clashes.{one_read}
use Rattle.demands.proofs.Printed.{in_order, printed-fields, printed-numbers}

-- ---- the line of a refused table

line_few : {text : List ℕ} {code line : ℕ} → Refused text code line → line ≤ 65535
line_few (too_long h) = omega arith
line_few {text = text} (unended h x w f) = omega (arith, count-le LF text)
line_few (on_line code line h e w) = omega (arith, w.place, w.fine.few)

-- ---- the five numbers

-- code, table and place
pub record Ranged (m : Merged) : Type 0 where
  pub code : m.code ≤ 32
  pub table : m.table ≤ 3
  pub place : m.place ≤ 65535

module _ (old first second : List ℕ) (a b : ℕ) (answer : Merged) (is : answer ≡ answer_of (merge_texts old (first ∷ second ∷ []) a b)) where
  abbrev branches : List (List ℕ)
  branches = first ∷ second ∷ []

  ranged : (end : Outcome) → merge_texts old branches a b ≡ end → Ranged (answer_of end) → Ranged answer
  ranged end e r = subst Ranged (sym (is ∙ ap answer_of e)) r

  module _ (o : List Row) (bs : List (List Row)) (read : Tables old branches o bs) where
    tree_ranged : (f : Tree) → Ends f (entries_of o bs f) a b (merge_texts old branches a b) → Ranged answer
    tree_ranged f (large h e) = ranged _ e (record { code = omega arith; table = omega arith; place = omega arith })
    tree_ranged f (table_long p q r e) = ranged _ e (record { code = omega arith; table = omega arith; place = omega arith })
    tree_ranged f (ledger_long p q r s e) = ranged _ e (record { code = omega arith; table = omega arith; place = omega arith })
    tree_ranged f (fits p q r s e) = ranged _ e (record { code = omega arith; table = omega arith; place = omega arith })

    -- a clash is told at a record of a branch, or at the top
    clash_place : (code place : ℕ) → merge (facts_of o) (map facts_of bs) ≡ refused code place → place ≤ 65535
    clash_place code place m =
        let b = one_read first (second ∷ []) bs read.branches_read in
        low (refusal_place o bs ok b.0 b.1 code place ((trees.refused_exactly o bs ok code place).0 m))
      where
        ok : (t : List Row) → t ∈ o ∷ bs → Readable t
        ok = all_readable old branches o bs read

        low : TopOrRecordOf bs place → place ≤ 65535
        low (inl e) = omega (arith, e)
        low (inr w) = omega (arith, record_high place (number_record w.0 (ok w.0 (there w.1)).distinct place w.2))

    read_ranged : Ranged answer
    read_ranged = go (ends old branches o bs read a b)
      where
        go : Clashed o bs (merge_texts old branches a b) ⊎ ((f : Tree) × Answers (facts_of o) (map facts_of bs) f) → Ranged answer
        go (inl c) =
            ranged _ c.told (record {
              code = omega (arith, c.high);
              table = omega arith;
              place = clash_place c.code c.place c.found;
            })
        go (inr w) = tree_ranged w.0 (answer_ends old branches o bs read a b w.0 w.1)

  all_ranged : Ranged answer
  all_ranged = go (read_or-not old branches a b)
    where
      go : ((o : List Row) × (bs : List (List Row)) × Tables old branches o bs) ⊎ Unread 3 (merge_texts old branches a b) → Ranged answer
      go (inl r) = read_ranged r.0 r.1 r.2
      go (inr u) =
          ranged _ u.told (record {
            code = omega (arith, u.high);
            table = u.one;
            place = line_few ((unreadable_exactly u.text u.code u.line).0 u.refused);
          })

-- ---- on the call

module _ (old first second table ledger : List ℕ) (answer : Merged) (table' ledger' : List ℕ)
    (call : Merges old first second table ledger answer table' ledger') where
  pub numbers_ranged : Ranged answer
  numbers_ranged = all_ranged old first second (length table) (length ledger) answer call.answered

  small : (k : ℕ) → k ∈ in_order answer → k < 1000000
  small k (here e) = omega (arith, e, numbers_ranged.code)
  small k (there (here e)) = omega (arith, e, numbers_ranged.table)
  small k (there (there (here e))) = omega (arith, e, numbers_ranged.place)
  small k (there (there (there (here e)))) =
      omega (arith, e, (all_limited old first second (length table) (length ledger) answer call.answered).table)
  small k (there (there (there (there (here e))))) =
      omega (arith, e, (all_limited old first second (length table) (length ledger) answer call.answered).ledger)
  small k (there (there (there (there (there m))))) = absurd (Memᴰ.not-nil m)

  -- what the demonstration prints of this merge: the fields of its first line are the digits of the five numbers, in the order of the call
  pub printed-digits : fields (before LF (shown (merge_outcome old first second table ledger))) ≡ map digits (in_order answer)
  printed-digits =
      printed-fields (merge_outcome old first second table ledger) ∙ ap (λ (m : Merged). map digits (in_order m)) (sym call.answered)

  -- and they read back as these numbers
  pub printed_answer : map value (fields (before LF (shown (merge_outcome old first second table ledger)))) ≡ in_order answer
  printed_answer =
      printed-numbers (merge_outcome old first second table ledger) (subst (λ (m : Merged). (k : ℕ) → k ∈ in_order m → k < 1000000)
      call.answered small)
      ∙ ap in_order (sym call.answered)
