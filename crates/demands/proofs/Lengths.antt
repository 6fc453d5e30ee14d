-- The lengths that a merge tells are within document 01's limits, and what room is always enough. a and b are the room of the two
-- buffers; the answer is that of the merge of the texts old, first and second. Assumes nothing.
use mathlib.Core.Path.{◌≡◌, ap, ◌∙◌}
use mathlib.Core.Logic.{◌⊎◌, inl, inr}
use mathlib.Core.List.{List, [], ◌∷◌, map}
use Prim.Native.Nat.{ℕ, ◌<◌, ◌≤◌}
use native.Mathlib.Omega.{arith}
use Rattle.rules.specs.Line.{Row}
use Rattle.rules.specs.Tree.{Tree}
use Rattle.rules.specs.Facts.{facts_of}
use Rattle.rules.specs.Ledger.{entries_of}
use Rattle.rules.specs.Calls.{Outcome, merge_texts, answer_of}
use Rattle.rules.specs.Demands.{Answers, Tables}
use Rattle.rules.specs.declared.answers.Merged.{Merged}
use Rattle.demands.proofs.Unread.{Unread, read_or-not}
use Rattle.demands.proofs.Room.{Ends, large, table_long, ledger_long, fits, Clashed, ends, answer_ends}
use Rattle.demands.proofs.LackOfRoom.{table_exactly, ledger_exactly}
use Rattle.demands.proofs.Bounds.{ledger_bound}

-- both lengths are within the limits
pub record Limited (answer : Merged) : Type 0 where
  pub table : answer.table_length ≤ 32768
  pub ledger : answer.ledger_length ≤ 6160

module _ (old first second : List ℕ) (a b : ℕ) (answer : Merged) (is : answer ≡ answer_of (merge_texts old (first ∷ second ∷ []) a b)) where
  abbrev branches : List (List ℕ)
  branches = first ∷ second ∷ []

  lengths_of : (end : Outcome) → merge_texts old branches a b ≡ end
      → (answer.table_length ≡ (answer_of end).table_length) × (answer.ledger_length ≡ (answer_of end).ledger_length)
  lengths_of end e =
      let told : answer ≡ answer_of end = is ∙ ap answer_of e in
      (ap (λ (m : Merged). m.table_length) told, ap (λ (m : Merged). m.ledger_length) told)

  limited : (end : Outcome) → merge_texts old branches a b ≡ end → (answer_of end).table_length ≤ 32768
      → (answer_of end).ledger_length ≤ 6160 → Limited answer
  limited end e p q = let w = lengths_of end e in record { table = omega (arith, w.0, p); ledger = omega (arith, w.1, q) }

  module _ (o : List Row) (bs : List (List Row)) (read : Tables old branches o bs) where
    tree_limited : (f : Tree) → Answers (facts_of o) (map facts_of bs) f
        → Ends f (entries_of o bs f) a b (merge_texts old branches a b) → Limited answer
    tree_limited f w (large h e) = limited _ e (omega arith) (omega arith)
    tree_limited f w (table_long few short r e) =
        limited _ e short (ledger_bound old first second o bs read f (record { answers = w; few = few; short = short }))
    tree_limited f w (ledger_long few short r s e) =
        limited _ e short (ledger_bound old first second o bs read f (record { answers = w; few = few; short = short }))
    tree_limited f w (fits few short r s e) =
        limited _ e short (ledger_bound old first second o bs read f (record { answers = w; few = few; short = short }))

    read_limited : Limited answer
    read_limited = go (ends old branches o bs read a b)
      where
        go : Clashed o bs (merge_texts old branches a b) ⊎ ((f : Tree) × Answers (facts_of o) (map facts_of bs) f) → Limited answer
        go (inl c) = limited _ c.told (omega arith) (omega arith)
        go (inr w) = tree_limited w.0 w.1 (answer_ends old branches o bs read a b w.0 w.1)

  pub all_limited : Limited answer
  all_limited = go (read_or-not old branches a b)
    where
      go : ((o : List Row) × (bs : List (List Row)) × Tables old branches o bs) ⊎ Unread 3 (merge_texts old branches a b) → Limited answer
      go (inl r) = read_limited r.0 r.1 r.2
      go (inr u) = limited _ u.told (omega arith) (omega arith)

  -- a code above 10 is told of readable tables
  pub were_read : 10 < answer.code → (o : List Row) × (bs : List (List Row)) × Tables old branches o bs
  were_read z = go (read_or-not old branches a b)
    where
      go : ((o : List Row) × (bs : List (List Row)) × Tables old branches o bs) ⊎ Unread 3 (merge_texts old branches a b)
          → (o : List Row) × (bs : List (List Row)) × Tables old branches o bs
      go (inl r) = r
      go (inr u) = absurd (omega (arith, ap (λ (m : Merged). m.code) (is ∙ ap answer_of u.told), u.high))

  pub table_fits : 32768 ≤ a → answer.code ≡ 31 → ⊥
  table_fits h z =
      let r = were_read (omega arith) in
      let w = (table_exactly old branches r.0 r.1 r.2 a b answer is).0 z in
      omega (arith, w.1.long, w.1.sized.short)

  pub ledger_fits : 6160 ≤ b → answer.code ≡ 32 → ⊥
  ledger_fits h z =
      let r = were_read (omega arith) in
      let w = (ledger_exactly old branches r.0 r.1 r.2 a b answer is).0 z in
      omega (arith, w.1.long, ledger_bound old first second r.0 r.1 r.2 w.0 w.1.sized)
