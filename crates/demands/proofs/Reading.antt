-- Texts with readable tables are merged as these tables, and what is merged was readable. o is old's table, bs are the branches' tables,
-- a and b the room of the two buffers. Assumes nothing.
use mathlib.Core.Path.{◌≡◌, refl, sym, ap, ap₂, ◌∙◌}
use mathlib.Core.List.Memᴰ
use mathlib.Core.List.Memᴰ.{head as here}
use mathlib.Core.List.Memᴰ.{tail as there}
use mathlib.Core.List.{List, [], ◌∷◌, ◌++◌, map}
use Prim.Native.Nat.{ℕ, suc, ◌+◌}
use native.Mathlib.Omega.{arith}
use lib.ListN.{length}
use Rattle.rules.specs.Lists.{◌∈◌}
use Rattle.rules.specs.Line.{Row}
use Rattle.rules.specs.Table.{Verdict, readable, unreadable, verdict}
use Rattle.rules.specs.Ledger.{Entry}
use Rattle.rules.specs.Calls.{Outcome, not_read, done, once_read, once_all_read, merge_tables, merge_texts}
use Rattle.rules.specs.Demands.{Tables}

-- ---- some texts and their tables

all_read : (k : ℕ) (texts : List (List ℕ)) (ts : List (List Row)) (next : List (List Row) → Outcome)
    → map verdict texts ≡ map readable ts → once_all_read k texts next ≡ next ts
all_read k [] [] next e = refl
all_read k [] (t ∷ ts) next e = let o : ◌≡◌ {A = ℕ} 0 1 = cc in absurd (omega arith)
all_read k (text ∷ texts) [] next e = let o : ◌≡◌ {A = ℕ} 0 1 = cc in absurd (omega arith)
all_read k (text ∷ texts) (t ∷ ts) next e =
    let one : verdict text ≡ readable t = cc in
    let others : map verdict texts ≡ map readable ts = cc in
    ap (λ (v : Verdict). once_read k v (λ u. once_all_read (suc k) texts (λ us. next (u ∷ us)))) one
    ∙ all_read (suc k) texts ts (λ us. next (t ∷ us)) others

-- the first text that can't be read is told, with its number, its code and its line
all_unread : (k : ℕ) (texts : List (List ℕ)) (ts : List (List Row)) (text : List ℕ) (others : List (List ℕ))
    (next : List (List Row) → Outcome) (code line : ℕ) → map verdict texts ≡ map readable ts → verdict text ≡ unreadable code line
    → once_all_read k (texts ++ (text ∷ others)) next ≡ not_read (k + length texts) code line
all_unread k [] ts text others next code line e u =
    ap (λ (v : Verdict). once_read k v (λ t. once_all_read (suc k) others (λ us. next (t ∷ us)))) u
    ∙ ap (λ (j : ℕ). not_read j code line) (omega arith)
all_unread k (first ∷ texts) [] text others next code line e u = let o : ◌≡◌ {A = ℕ} 0 1 = cc in absurd (omega arith)
all_unread k (first ∷ texts) (t ∷ ts) text others next code line e u =
    let one : verdict first ≡ readable t = cc in
    let rest : map verdict texts ≡ map readable ts = cc in
    let number : suc k + length texts ≡ k + suc (length texts) = omega arith in
    ap (λ (v : Verdict). once_read k v (λ x. once_all_read (suc k) (texts ++ (text ∷ others)) (λ xs. next (x ∷ xs)))) one
    ∙ all_unread (suc k) texts ts text others (λ xs. next (t ∷ xs)) code line rest u
    ∙ ap (λ (j : ℕ). not_read j code line) number

-- a table of the list was read from a text
from_text : (texts : List (List ℕ)) (ts : List (List Row)) → map verdict texts ≡ map readable ts → (t : List Row) → t ∈ ts
    → (text : List ℕ) × (verdict text ≡ readable t)
from_text texts [] e t m = absurd (Memᴰ.not-nil m)
from_text [] (u ∷ ts) e t m = let o : ◌≡◌ {A = ℕ} 0 1 = cc in absurd (omega arith)
from_text (text ∷ texts) (u ∷ ts) e t (here p) = let one : verdict text ≡ readable u = cc in (text, one ∙ ap readable (sym p))
from_text (text ∷ texts) (u ∷ ts) e t (there m) =
    let others : map verdict texts ≡ map readable ts = cc in
    from_text texts ts others t m

abbrev AllRead : List (List ℕ) → Type 0
AllRead texts = (ts : List (List Row)) × (map verdict texts ≡ map readable ts)

all_done : (k : ℕ) (texts : List (List ℕ)) (next : List (List Row) → Outcome) (table : List ℕ) (es : List Entry)
    → once_all_read k texts next ≡ done table es → AllRead texts
all_done k [] next table es e = ([], refl)
all_done k (text ∷ texts) next table es e = go (verdict text) refl e (λ t. all_done (suc k) texts (λ ts. next (t ∷ ts)) table es)
  where
    rest : List Row → Outcome
    rest t = once_all_read (suc k) texts (λ ts. next (t ∷ ts))

    go : (v : Verdict) → verdict text ≡ v → once_read k v rest ≡ done table es → ((t : List Row) → rest t ≡ done table es → AllRead texts)
        → AllRead (text ∷ texts)
    go (readable t) p d more =
        let w = more t d in
        (t ∷ w.0, ap₂ (λ (v : Verdict) (vs : List Verdict). v ∷ vs) p w.1)
    go (unreadable code line) p d more = let z : ◌≡◌ {A = ℕ} 0 1 = cc in absurd (omega arith)

-- ---- old and the branches

module _ (old : List ℕ) (branches : List (List ℕ)) where
  module _ (o : List Row) (bs : List (List Row)) (read : Tables old branches o bs) where
    pub read_merged : (a b : ℕ) → merge_texts old branches a b ≡ merge_tables o bs a b
    unfolding merge_texts
    read_merged a b =
        ap (λ (v : Verdict). once_read 1 v (λ u. once_all_read 2 branches (λ us. merge_tables u us a b))) read.old_read
        ∙ all_read 2 branches bs (λ us. merge_tables o us a b) read.branches_read

    pub table_text : (t : List Row) → t ∈ o ∷ bs → (text : List ℕ) × (verdict text ≡ readable t)
    table_text t (here e) = (old, read.old_read ∙ ap readable (sym e))
    table_text t (there m) = from_text branches bs read.branches_read t m

  -- "stops at the first refused table": old is table 1
  pub old_unread : (a b code line : ℕ) → verdict old ≡ unreadable code line → merge_texts old branches a b ≡ not_read 1 code line
  unfolding merge_texts
  old_unread a b code line u = ap (λ (v : Verdict). once_read 1 v (λ o. once_all_read 2 branches (λ bs. merge_tables o bs a b))) u

  -- a merge that is done had readable tables
  pub done_read : (a b : ℕ) (table : List ℕ) (es : List Entry) → merge_texts old branches a b ≡ done table es
      → (o : List Row) × (bs : List (List Row)) × Tables old branches o bs
  unfolding merge_texts
  done_read a b table es e = go (verdict old) refl e
    where
      go : (v : Verdict) → verdict old ≡ v → once_read 1 v (λ o. once_all_read 2 branches (λ bs. merge_tables o bs a b)) ≡ done table es
          → (o : List Row) × (bs : List (List Row)) × Tables old branches o bs
      go (readable o) p d =
          let w = all_done 2 branches (λ bs. merge_tables o bs a b) table es d in
          (o, w.0, record { old_read = p; branches_read = w.1 })
      go (unreadable code line) p d = let z : ◌≡◌ {A = ℕ} 0 1 = cc in absurd (omega arith)

-- and the branches are the tables from 2 on: the first of them that can't be read, old and those before it being readable
pub branch_unread : (old : List ℕ) (o : List Row) → verdict old ≡ readable o → (before : List (List ℕ)) (ts : List (List Row))
    → map verdict before ≡ map readable ts → (text : List ℕ) (code line : ℕ) → verdict text ≡ unreadable code line
    → (others : List (List ℕ)) (a b : ℕ) → merge_texts old (before ++ (text ∷ others)) a b ≡ not_read (2 + length before) code line
unfolding merge_texts
branch_unread old o p before ts e text code line u others a b =
    ap (λ (v : Verdict). once_read 1 v (λ x. once_all_read 2 (before ++ (text ∷ others)) (λ xs. merge_tables x xs a b))) p
    ∙ all_unread 2 before ts text others (λ xs. merge_tables o xs a b) code line e u
