-- Demand 1: a refused call leaves the lent buffers untouched. That every byte string is answered is in the promises themselves, which are
-- equations with no condition. Assumes nothing.
use mathlib.Core.Path.{◌≡◌, refl, ap, ◌∙◌}
use mathlib.Core.Bool.{Bool, true, false, cond}
use mathlib.Core.List.{List}
use Prim.Native.Nat.{ℕ}
use lib.Dec.{ltb}
use lib.ListN.{length}
use Rattle.rules.specs.Codes.{accepted, table_too_short}
use Rattle.rules.specs.Table.{Verdict, readable, unreadable, verdict}
use Rattle.rules.specs.Written.{tidied, over}
use Rattle.rules.specs.Calls.{tidy_of, tidy_told, tidy_into, Outcome, not_read, clash, too_large, no_room, done, answer_of, table_after}
use Rattle.rules.specs.Calls.{ledger_after, merge_outcome}
use Rattle.rules.specs.Promises.{Tidies, Merges}
use Rattle.rules.specs.declared.answers.Tidied.{Tidied}
use Rattle.rules.specs.declared.answers.Merged.{Merged}

-- ---- tidy

tidy_leaves : (v : Verdict) (buffer : List ℕ) → ((tidy_of v (length buffer)).code ≡ accepted → ⊥) → tidy_into v buffer ≡ buffer
tidy_leaves (readable t) buffer h = go (ltb (length buffer) (length (tidied t))) h
  where
    long : ℕ
    long = length (tidied t)

    go : (short : Bool) → ((cond short (tidy_told table_too_short 0 long) (tidy_told accepted 0 long)).code ≡ accepted → ⊥)
        → cond short buffer (over (tidied t) buffer) ≡ buffer
    go true h = refl
    go false h = absurd (h refl)
tidy_leaves (unreadable code line) buffer h = refl

pub tidy_refused : (text buffer : List ℕ) (answer : Tidied) (buffer' : List ℕ) → Tidies text buffer answer buffer'
    → (answer.code ≡ accepted → ⊥) → buffer' ≡ buffer
tidy_refused text buffer answer buffer' p h =
    p.buffered ∙ tidy_leaves (verdict text) buffer (λ e. h (ap (λ (t : Tidied). t.code) p.answered ∙ e))

-- ---- merge

outcome_leaves : (end : Outcome) (table ledger : List ℕ) → ((answer_of end).code ≡ accepted → ⊥)
    → (table_after end table ≡ table) × (ledger_after end ledger ≡ ledger)
outcome_leaves (not_read t code line) table ledger h = (refl, refl)
outcome_leaves (clash code place) table ledger h = (refl, refl)
outcome_leaves too_large table ledger h = (refl, refl)
outcome_leaves (no_room code table_length ledger_length) table ledger h = (refl, refl)
outcome_leaves (done bytes es) table ledger h = absurd (h refl)

pub merge_refused : (old first second table ledger : List ℕ) (answer : Merged) (table' ledger' : List ℕ)
    → Merges old first second table ledger answer table' ledger' → (answer.code ≡ accepted → ⊥) → (table' ≡ table) × (ledger' ≡ ledger)
merge_refused old first second table ledger answer table' ledger' p h =
    let end = merge_outcome old first second table ledger in
    let left = outcome_leaves end table ledger (λ e. h (ap (λ (m : Merged). m.code) p.answered ∙ e)) in
    (p.tabled ∙ left.0, p.ledgered ∙ left.1)
