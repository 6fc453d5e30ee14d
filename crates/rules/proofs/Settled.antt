-- No two differing outcomes satisfy a call's promise. Assumes nothing.
use mathlib.Core.Path.{◌≡◌, sym, ◌∙◌}
use mathlib.Core.List.{List}
use Prim.Native.Nat.{ℕ}
use denote.Ref.{Bor}
use Rattle.rules.specs.Calls.{content_answer}
use Rattle.rules.specs.Promises.{Checks, Tidies, HandsBack, Merges}
use Rattle.rules.specs.declared.answers.Checked.{Checked}
use Rattle.rules.specs.declared.answers.Tidied.{Tidied}
use Rattle.rules.specs.declared.answers.Part.{Part}
use Rattle.rules.specs.declared.answers.Merged.{Merged}

settled : {A : Type 0} {a b c : A} → a ≡ c → b ≡ c → a ≡ b
settled p q = p ∙ sym q

pub check_settled : (text : List ℕ) (a b : Checked) → Checks text a → Checks text b → a ≡ b
check_settled text a b p q = settled p.answered q.answered

pub tidy_settled : (text buffer : List ℕ) (a b : Tidied) (out other : List ℕ) → Tidies text buffer a out → Tidies text buffer b other
    → (a ≡ b) × (out ≡ other)
tidy_settled text buffer a b out other p q = (settled p.answered q.answered, settled p.buffered q.buffered)

-- what is handed back: where it lies and its bytes
pub content_settled : (text : Bor (List ℕ)) (n : ℕ) (a b : Bor (List ℕ)) → HandsBack text n a → HandsBack text n b
    → (a.ref_ptr.0 ≡ b.ref_ptr.0) × (a.ref_ptr.1 ≡ b.ref_ptr.1) × (a.now ≡ b.now)
content_settled text n a b p q =
    (settled p.part.block q.part.block, settled p.part.place q.part.place, settled p.part.bytes q.part.bytes)

-- what the export `brooksaddle_content` promises: the part itself, start and length
pub part_settled : (text : List ℕ) (n : ℕ) (a b : Part) → a ≡ content_answer text n → b ≡ content_answer text n → a ≡ b
part_settled text n a b p q = settled p q

pub merge_settled : (old first second table ledger : List ℕ) (a b : Merged) (table₁ table₂ ledger₁ ledger₂ : List ℕ)
    → Merges old first second table ledger a table₁ ledger₁ → Merges old first second table ledger b table₂ ledger₂
    → (a ≡ b) × (table₁ ≡ table₂) × (ledger₁ ≡ ledger₂)
merge_settled old first second table ledger a b table₁ table₂ ledger₁ ledger₂ p q =
    (settled p.answered q.answered, settled p.tabled q.tabled, settled p.ledgered q.ledgered)
