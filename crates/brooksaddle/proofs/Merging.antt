-- What the merge tells once the texts were read: of a refused table, and of tables that are merged. old, first and second are the tables'
-- bytes, lines and facts the arrays after reading, `counts` how many records each table has, z is what reading told, m what the call
-- answers; a name with a prime is a buffer afterwards. Assumes nothing.
use mathlib.Core.Path.{◌≡◌, refl, sym, ap, ◌∙◌, subst}
use mathlib.Core.List.{List, [], ◌∷◌}
use Prim.Native.Nat.{ℕ, ◌<◌}
use native.Mathlib.Omega.{arith}
use lib.ListN.{length, get_or, replicate, get_or-replicate}
use Rattle.rules.specs.Lists.{◌∈◌}
use Rattle.rules.specs.Line.{Row}
use Rattle.rules.specs.Table.{numbers, readable, verdict}
use Rattle.rules.specs.Calls.{Outcome, not_read, too_large, once_all_read, merge_tables, merge_texts, told, answer_of, table_after}
use Rattle.rules.specs.Calls.{ledger_after}
use Rattle.rules.specs.Promises.{Merges}
use Rattle.rules.specs.declared.answers.Merged.{Merged}
use Rattle.trees.proofs.OneTable.{number_row}
use Rattle.readback.proofs.Following.{good_few}
use Rattle.readback.proofs.Accepting.{good}
use Rattle.facts.specs.Memory.{TABLES, PLACE, SPAN, field, no_lines, no_facts}
use Rattle.table.specs.Read.{Unread}
use Rattle.table.specs.All.{Refused, AllRead, ReadsAll}
use Rattle.judge.specs.Judged.{InMemory}
use Rattle.pack.specs.Packed.{Ends}
use Rattle.merge.specs.Merging.{Ready, MergesTables}
use Rattle.brooksaddle.proofs.Told.{read_stored, read_low}

-- arrays that are all zeros hold no table yet
pub none_read : (t : ℕ) → t < TABLES → Unread (replicate TABLES no_lines) (replicate TABLES no_facts) t
none_read t h = record {
  place = h;
  no_line = get_or-replicate TABLES t no_lines [] h;
  no_fact = get_or-replicate TABLES t no_facts [] h;
}

module _ (old first second : List ℕ) (lines facts : List (List ℕ)) (counts : List ℕ) (z : Refused)
    (w : ReadsAll (old ∷ first ∷ second ∷ []) lines facts counts z) where
  abbrev texts : List (List ℕ)
  texts = old ∷ first ∷ second ∷ []

  -- what the call goes on with
  onward : ℕ → ℕ → List (List Row) → Outcome
  onward table_room ledger_room [] = too_large
  onward table_room ledger_room (t ∷ ts) = merge_tables t ts table_room ledger_room

  outcome : (table_room ledger_room : ℕ)
      → merge_texts old (first ∷ second ∷ []) table_room ledger_room ≡ once_all_read 1 (old ∷ first ∷ second ∷ [])
      (onward table_room ledger_room)
  unfolding merge_texts onward
  outcome table_room ledger_room = refl

  -- how a call ends that has this outcome
  ends : (table ledger : List ℕ) (m : Merged) (table' ledger' : List ℕ) (o : Outcome)
      → merge_texts old (first ∷ second ∷ []) (length table) (length ledger) ≡ o → Ends o table ledger m table' ledger'
      → Merges old first second table ledger m table' ledger'
  ends table ledger m table' ledger' o e d = record {
    answered = d.answered ∙ ap answer_of (sym e);
    tabled = d.tabled ∙ ap (λ (x : Outcome). table_after x table) (sym e);
    ledgered = d.ledgered ∙ ap (λ (x : Outcome). ledger_after x ledger) (sym e);
  }

  -- ---- a refused table

  pub merge_unread : (table ledger : List ℕ) (code number line : ℕ) (m : Merged) → code ≡ z.code → number ≡ z.table → line ≡ z.line
      → (code ≡ 0 → ⊥) → m ≡ told code number line 0 0 → Merges old first second table ledger m table ledger
  merge_unread table ledger code number line m ec en el h e =
      ends table ledger m table ledger (not_read z.table z.code z.line)
      (outcome (length table) (length ledger) ∙ w.refused (λ d. h (ec ∙ d)) (onward (length table) (length ledger)))
      (record { answered = e ∙ (λ i. told (ec i) (en i) (el i) 0 0); tabled = refl; ledgered = refl })

  -- ---- tables that were read

  module _ (fine : z.code ≡ 0) where
    read : AllRead texts lines facts counts
    read = w.accepted fine

    -- old and the branches
    record Parted (tables : List (List Row)) : Type 0 where
      base : List Row
      branches : List (List Row)
      is : tables ≡ base ∷ branches

    part : (tables : List (List Row)) → length tables ≡ TABLES → Parted tables
    part [] e = absurd (omega (arith, e))
    part (t ∷ ts) e = record { base = t; branches = ts; is = refl }

    parted : Parted read.tables
    parted = part read.tables read.many

    abbrev base : List Row
    base = parted.base

    abbrev branches : List (List Row)
    branches = parted.branches

    table_at : (k : ℕ) → get_or read.tables k [] ≡ get_or (base ∷ branches) k []
    table_at k = ap (λ (l : List (List Row)). get_or l k []) parted.is

    verdict-at : (k : ℕ) → k < TABLES → verdict (get_or texts k []) ≡ readable (get_or (base ∷ branches) k [])
    verdict-at k h = read.is k h ∙ ap readable (table_at k)

    in_memory : InMemory texts lines facts counts base branches
    in_memory = record {
      side = record {
        many = omega (arith, read.many, ap length parted.is);
        stored = λ k h. read_stored (get_or texts k []) (get_or lines k []) (get_or facts k []) _ (read.reads k h)
            (get_or (base ∷ branches) k []) (verdict-at k h);
        low = low;
      };
      counted = λ k h. read.counted k h ∙ ap length (table_at k);
      few = λ k h. good_few (get_or (base ∷ branches) k []) (good (get_or texts k []) (get_or (base ∷ branches) k []) (verdict-at k h));
    }
      where
        low : (k : ℕ) → k < TABLES → (n : ℕ) → n ∈ numbers (get_or (base ∷ branches) k [])
            → field (get_or lines k []) (get_or facts k []) n PLACE < SPAN
        low k h n m =
            let x = number_row (get_or (base ∷ branches) k []) n m in
            subst (λ (i : ℕ). field (get_or lines k []) (get_or facts k []) i PLACE < SPAN) x.2
            (read_low (get_or texts k []) (get_or lines k []) (get_or facts k []) _ (read.reads k h) (get_or (base ∷ branches) k [])
            (verdict-at k h) x.0 x.1)

    pub merge_ready : Ready (old ∷ first ∷ second ∷ []) lines facts counts
    merge_ready = record { old = base; branches = branches; tables = in_memory }

    pub merge_read : (table ledger : List ℕ) (m : Merged) (table' ledger' : List ℕ)
        → MergesTables (old ∷ first ∷ second ∷ []) lines facts counts table ledger m table' ledger'
        → Merges old first second table ledger m table' ledger'
    unfolding onward
    merge_read table ledger m table' ledger' d =
        ends table ledger m table' ledger' (merge_tables base branches (length table) (length ledger))
        (outcome (length table) (length ledger) ∙ read.all (onward (length table) (length ledger))
        ∙ ap (onward (length table) (length ledger)) parted.is)
        (d.all base branches in_memory)
