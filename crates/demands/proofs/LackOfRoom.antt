-- Codes 26, 31 and 32 over the answer of a merge of readable tables: each is told exactly if the tree that answers lacks that room, with
-- the lengths that document 01 gives it. o and bs are the tables of old and of the branches, a and b the room of the two buffers, f is a
-- tree. Assumes nothing.
use mathlib.Core.Path.{◌≡◌, ap, ◌∙◌}
use mathlib.Core.Logic.{◌⊎◌, inl, inr, ◌↔◌}
use mathlib.Core.List.{List, map}
use Prim.Native.Nat.{ℕ, ◌<◌, ◌≤◌}
use native.Mathlib.Omega.{arith}
use lib.ListN.{length}
use Rattle.rules.specs.Marks.{TOP}
use Rattle.rules.specs.Line.{Row}
use Rattle.rules.specs.Tree.{Tree, rows}
use Rattle.rules.specs.Facts.{facts_of}
use Rattle.rules.specs.Written.{written_tree}
use Rattle.rules.specs.Ledger.{entries_of, ledger}
use Rattle.rules.specs.Calls.{Outcome, clash, merge_texts, answer_of, told}
use Rattle.rules.specs.Demands.{Answers, Tables}
use Rattle.rules.specs.Room.{TooLarge, TableTooLong, LedgerTooLong}
use Rattle.rules.specs.declared.answers.Merged.{Merged}
use Rattle.demands.proofs.Room.{Ends, large, table_long, ledger_long, fits, Clashed, ends, answer_ends}

-- over the limits and within them exclude each other
not_both : (f : Tree) → (512 < length (rows TOP f)) ⊎ (32768 < length (written_tree f)) → length (rows TOP f) ≤ 512
    → length (written_tree f) ≤ 32768 → ⊥
not_both f (inl h) p q = omega arith
not_both f (inr h) p q = omega arith

module _ (old : List ℕ) (branches : List (List ℕ)) (o : List Row) (bs : List (List Row)) (read : Tables old branches o bs) (a b : ℕ)
    (answer : Merged) (is : answer ≡ answer_of (merge_texts old branches a b)) where
  abbrev AnswersMerge : Tree → Type 0
  AnswersMerge f = Answers (facts_of o) (map facts_of bs) f

  abbrev EndsWith : Tree → Type 0
  EndsWith f = Ends f (entries_of o bs f) a b (merge_texts old branches a b)

  told_of : (end : Outcome) → merge_texts old branches a b ≡ end → answer ≡ answer_of end
  told_of end e = is ∙ ap answer_of e

  code_of : (end : Outcome) → merge_texts old branches a b ≡ end → answer.code ≡ (answer_of end).code
  code_of end e = ap (λ (m : Merged). m.code) (told_of end e)

  ending : (f : Tree) → AnswersMerge f → EndsWith f
  ending f w = answer_ends old branches o bs read a b f w

  -- a code that is no clash's is told of a tree that answers
  answering : 25 < answer.code → (f : Tree) × AnswersMerge f
  answering z = go (ends old branches o bs read a b)
    where
      go : Clashed o bs (merge_texts old branches a b) ⊎ ((f : Tree) × AnswersMerge f) → (f : Tree) × AnswersMerge f
      go (inl c) = absurd (omega (arith, c.high, code_of (clash c.code c.place) c.told))
      go (inr w) = w

  -- ---- 26

  pub large_told : (f : Tree) → TooLarge o bs f → answer ≡ told 26 0 0 0 0
  large_told f w = go (ending f w.answers)
    where
      go : EndsWith f → answer ≡ told 26 0 0 0 0
      go (large h e) = told_of _ e
      go (table_long p q r e) = absurd (not_both f w.over p q)
      go (ledger_long p q r s e) = absurd (not_both f w.over p q)
      go (fits p q r s e) = absurd (not_both f w.over p q)

  pub large_exactly : (answer.code ≡ 26) ↔ ((f : Tree) × TooLarge o bs f)
  large_exactly = (to, λ w. ap (λ (m : Merged). m.code) (large_told w.0 w.1))
    where
      go : (f : Tree) → AnswersMerge f → answer.code ≡ 26 → EndsWith f → (f : Tree) × TooLarge o bs f
      go f w z (large h e) = (f, record { answers = w; over = h })
      go f w z (table_long p q r e) = absurd (omega (arith, code_of _ e))
      go f w z (ledger_long p q r s e) = absurd (omega (arith, code_of _ e))
      go f w z (fits p q r s e) = absurd (omega (arith, code_of _ e))

      to : answer.code ≡ 26 → (f : Tree) × TooLarge o bs f
      to z = let w = answering (omega arith) in go w.0 w.1 z (ending w.0 w.1)

  -- ---- 31

  pub table-told : (f : Tree) → TableTooLong o bs a f
      → answer ≡ told 31 0 0 (length (written_tree f)) (length (ledger (entries_of o bs f)))
  table-told f w = go (ending f w.sized.answers)
    where
      go : EndsWith f → answer ≡ told 31 0 0 (length (written_tree f)) (length (ledger (entries_of o bs f)))
      go (large h e) = absurd (not_both f h w.sized.few w.sized.short)
      go (table_long p q r e) = told_of _ e
      go (ledger_long p q r s e) = absurd (omega (arith, w.long))
      go (fits p q r s e) = absurd (omega (arith, w.long))

  pub table_exactly : (answer.code ≡ 31) ↔ ((f : Tree) × TableTooLong o bs a f)
  table_exactly = (to, λ w. ap (λ (m : Merged). m.code) (table-told w.0 w.1))
    where
      go : (f : Tree) → AnswersMerge f → answer.code ≡ 31 → EndsWith f → (f : Tree) × TableTooLong o bs a f
      go f w z (large h e) = absurd (omega (arith, code_of _ e))
      go f w z (table_long p q r e) = (f, record { sized = record { answers = w; few = p; short = q }; long = r })
      go f w z (ledger_long p q r s e) = absurd (omega (arith, code_of _ e))
      go f w z (fits p q r s e) = absurd (omega (arith, code_of _ e))

      to : answer.code ≡ 31 → (f : Tree) × TableTooLong o bs a f
      to z = let w = answering (omega arith) in go w.0 w.1 z (ending w.0 w.1)

  -- ---- 32

  pub ledger-told : (f : Tree) → LedgerTooLong o bs a b f
      → answer ≡ told 32 0 0 (length (written_tree f)) (length (ledger (entries_of o bs f)))
  ledger-told f w = go (ending f w.sized.answers)
    where
      go : EndsWith f → answer ≡ told 32 0 0 (length (written_tree f)) (length (ledger (entries_of o bs f)))
      go (large h e) = absurd (not_both f h w.sized.few w.sized.short)
      go (table_long p q r e) = absurd (omega (arith, w.table-room))
      go (ledger_long p q r s e) = told_of _ e
      go (fits p q r s e) = absurd (omega (arith, w.long))

  pub ledger_exactly : (answer.code ≡ 32) ↔ ((f : Tree) × LedgerTooLong o bs a b f)
  ledger_exactly = (to, λ w. ap (λ (m : Merged). m.code) (ledger-told w.0 w.1))
    where
      go : (f : Tree) → AnswersMerge f → answer.code ≡ 32 → EndsWith f → (f : Tree) × LedgerTooLong o bs a b f
      go f w z (large h e) = absurd (omega (arith, code_of _ e))
      go f w z (table_long p q r e) = absurd (omega (arith, code_of _ e))
      go f w z (ledger_long p q r s e) =
          (f, record { sized = record { answers = w; few = p; short = q }; table-room = r; long = s })
      go f w z (fits p q r s e) = absurd (omega (arith, code_of _ e))

      to : answer.code ≡ 32 → (f : Tree) × LedgerTooLong o bs a b f
      to z = let w = answering (omega arith) in go w.0 w.1 z (ending w.0 w.1)
