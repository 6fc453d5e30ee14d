-- The ledger's marks traded: its length, the five answers and the table stay. es are a ledger's entries. Assumes nothing.
use mathlib.Core.Path.{◌≡◌, refl, sym, ap, ◌∙◌}
use mathlib.Core.Bool.{Bool, true, false, cond}
use mathlib.Core.List.{List, [], ◌∷◌, ◌++◌, map}
use Prim.Native.Nat.{ℕ, ◌+◌}
use native.Mathlib.Omega.{arith}
use lib.Dec.{eqb, ltb}
use lib.ListN.{length, length-append, length-map}
use borrow.Author.Tests.{eqb-true}
use Rattle.rules.specs.Lists.{flat, sum}
use Rattle.rules.specs.Quoted.{bytes}
use Rattle.rules.specs.Text.{TAB, LF}
use Rattle.rules.specs.Tree.{Tree}
use Rattle.rules.specs.Written.{digits, written_tree}
use Rattle.rules.specs.Ledger.{Entry, entry_line, total_line, ledger}
use Rattle.rules.specs.Calls.{Outcome, not_read, clash, too_large, no_room, done, over_limits, packed, told, answer_of, table_after}
use Rattle.rules.specs.Demands.{traded, traded_entry, traded_outcome}
use Rattle.demands.proofs.Packing.{ending}

-- ---- the length stays

-- a desk's mark is one digit
mark-length : (m : ℕ) → length (digits (traded m)) ≡ length (digits m)
unfolding digits
mark-length m = go (eqb m 1) (eqb m 2) refl refl
  where
    go : (one two : Bool) → eqb m 1 ≡ one → eqb m 2 ≡ two → length (digits (cond one 2 (cond two 1 m))) ≡ length (digits m)
    go true two p q = ap (λ (k : ℕ). length (digits k)) (sym (eqb-true m 1 p))
    go false true p q = ap (λ (k : ℕ). length (digits k)) (sym (eqb-true m 2 q))
    go false false p q = refl

entry_length : (e : Entry) → length (entry_line (traded_entry e)) ≡ length (entry_line e)
entry_length e =
    let rest : List ℕ = TAB ∷ (digits e.bytes ++ (LF ∷ [])) in
    let from : ℕ → List ℕ = λ m. TAB ∷ (digits m ++ rest) in
    length-append (digits e.number) (from (traded e.origin))
    ∙ omega (
      arith,
      length-append (digits e.number) (from e.origin),
      length-append (digits (traded e.origin)) rest,
      length-append (digits e.origin) rest,
      mark-length e.origin,
    )

entries-length : (es : List Entry) → length (flat entry_line (map traded_entry es)) ≡ length (flat entry_line es)
entries-length [] = refl
entries-length (e ∷ es) =
    length-append (entry_line (traded_entry e)) (flat entry_line (map traded_entry es))
    ∙ omega (arith, length-append (entry_line e) (flat entry_line es), entry_length e, entries-length es)

abbrev bytes_in : List Entry → ℕ
bytes_in es = sum (λ (e : Entry). e.bytes) es

bytes_same : (es : List Entry) → bytes_in (map traded_entry es) ≡ bytes_in es
bytes_same [] = refl
bytes_same (e ∷ es) = ap (λ (k : ℕ). e.bytes + k) (bytes_same es)

total_same : (es : List Entry) → total_line (map traded_entry es) ≡ total_line es
total_same es = λ i. bytes "total" ++ (TAB ∷ (digits (length-map es traded_entry i) ++ (TAB ∷ (digits (bytes_same es i) ++ (LF ∷ [])))))

ledger-length : (es : List Entry) → length (ledger (map traded_entry es)) ≡ length (ledger es)
ledger-length es =
    length-append (flat entry_line (map traded_entry es)) (total_line (map traded_entry es))
    ∙ omega (arith, length-append (flat entry_line es) (total_line es), entries-length es, ap length (total_same es))

-- ---- the outcome

pub packed-traded : (f : Tree) (es : List Entry) (a b : ℕ) → packed f (map traded_entry es) a b ≡ traded_outcome (packed f es a b)
packed-traded f es a b =
    ap (λ (k : ℕ). ending (over_limits f) (ltb a (length table)) (ltb b k) table k (map traded_entry es)) (ledger-length es)
    ∙ go (over_limits f) (ltb a (length table)) (ltb b (length (ledger es)))
  where
    table : List ℕ
    table = written_tree f

    go : (u v w : Bool)
        → ending u v w table (length (ledger es)) (map traded_entry es) ≡ traded_outcome (ending u v w table (length (ledger es)) es)
    go true v w = refl
    go false true w = refl
    go false false true = refl
    go false false false = refl

-- the five numbers are the same
pub traded_answer : (end : Outcome) → answer_of (traded_outcome end) ≡ answer_of end
traded_answer (not_read table code line) = refl
traded_answer (clash code place) = refl
traded_answer too_large = refl
traded_answer (no_room code table_length ledger_length) = refl
traded_answer (done table es) = ap (told 0 0 0 (length table)) (ledger-length es)

-- and so is the table
pub traded-table : (end : Outcome) (buffer : List ℕ) → table_after (traded_outcome end) buffer ≡ table_after end buffer
traded-table (not_read table code line) buffer = refl
traded-table (clash code place) buffer = refl
traded-table too_large buffer = refl
traded-table (no_room code table_length ledger_length) buffer = refl
traded-table (done table es) buffer = refl
