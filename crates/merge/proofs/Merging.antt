-- The judgement and the packing make up the merge of the rules. texts, lines and facts are those of the tables that are merged, old and
-- branches their rows, `counts` how many they have; ls and fs are the arrays of the merged table, z is what was judged; a name with a prime
-- is a buffer afterwards. Assumes nothing.
use mathlib.Core.Path.{◌≡◌, sym, ap, ◌∙◌, subst}
use mathlib.Core.List.{List, map}
use Prim.Native.Nat.{ℕ, ◌<◌}
use native.Mathlib.Omega.{arith}
use lib.ListN.{length, get_or}
use Rattle.rules.specs.Line.{Row}
use Rattle.rules.specs.Tree.{Tree, tree_of}
use Rattle.rules.specs.Facts.{facts_of}
use Rattle.rules.specs.Merge.{Result, refused, merged, merge}
use Rattle.rules.specs.Ledger.{Entry, entries_of}
use Rattle.rules.specs.Calls.{Outcome, clash, told, packed, judged, merge_tables, answer_of, table_after, ledger_after}
use Rattle.rules.specs.declared.answers.Merged.{Merged}
use Rattle.facts.specs.Memory.{ROOM, TABLES}
use Rattle.contents.specs.Marks.{Lined}
use Rattle.contents.proofs.Marking.{lined_tables}
use Rattle.std.specs.Prelude.{Ok, Err}
use Rattle.rules.specs.Kinds.{clash_code}
use Rattle.judge.specs.declared.Refusal.{Refusal}
use Rattle.judge.specs.Judged.{InMemory, Judges}
use Rattle.pack.specs.Packed.{PackReady, Ends, Packs}
use Rattle.merge.specs.Merging.{Ready, MergesTables}

-- ---- the outcome by the verdict on the facts

outcome_refused : (old : List Row) (branches : List (List Row)) (table_room ledger_room code place : ℕ)
    → merge (facts_of old) (map facts_of branches) ≡ refused code place
    → merge_tables old branches table_room ledger_room ≡ clash code place
unfolding merge_tables
outcome_refused old branches table_room ledger_room code place e =
    ap (λ (r : Result). judged r (λ f. packed f (entries_of old branches f) table_room ledger_room)) e

outcome-merged : (old : List Row) (branches : List (List Row)) (table_room ledger_room : ℕ) (f : Tree)
    → merge (facts_of old) (map facts_of branches) ≡ merged f
    → merge_tables old branches table_room ledger_room ≡ packed f (entries_of old branches f) table_room ledger_room
unfolding merge_tables
outcome-merged old branches table_room ledger_room f e =
    ap (λ (r : Result). judged r (λ g. packed g (entries_of old branches g) table_room ledger_room)) e

module _ (texts lines facts : List (List ℕ)) (counts : List ℕ) where
  -- there is room for the lines of every table
  pub ready_few : Ready texts lines facts counts → (k : ℕ) → k < TABLES → get_or counts k 0 < ROOM
  ready_few r k h = omega (arith, r.tables.counted k h, r.tables.few k h)

  -- their lines and numbers fit together
  pub ready_lined : Ready texts lines facts counts → Lined lines facts counts
  ready_lined r = lined_tables texts lines facts r.old r.branches r.tables.side counts r.tables.counted

  -- ---- a clash

  pub merge_refused : (ls fs table ledger : List ℕ) (z : Refusal) → Judges texts lines facts counts ls fs (Err z)
      → MergesTables texts lines facts counts table ledger (told (clash_code z.clash) 0 z.place.number 0 0) table ledger
  merge_refused ls fs table ledger z j = record { all = go }
    where
      go : (old : List Row) (branches : List (List Row)) → InMemory texts lines facts counts old branches
          → Ends (merge_tables old branches (length table) (length ledger)) table ledger (told (clash_code z.clash) 0 z.place.number 0 0)
          table ledger
      go old branches b =
          let o = outcome_refused old branches (length table) (length ledger) (clash_code z.clash) z.place.number (j.says old branches b) in
          record {
            answered = ap answer_of (sym o);
            tabled = ap (λ (x : Outcome). table_after x table) (sym o);
            ledgered = ap (λ (x : Outcome). ledger_after x ledger) (sym o);
          }

  -- ---- a tree

  module _ (ls fs : List ℕ) (count : ℕ) (j : Judges texts lines facts counts ls fs (Ok count)) (few : count < ROOM) where
    pub pack_ready : Ready texts lines facts counts → PackReady texts ls fs count
    pack_ready r =
        let m = j.says r.old r.branches r.tables in
        record { t = m.t; stored = m.stored; order = m.order; counted = m.counted; few = few }

    pub merge-packed : (table ledger : List ℕ) (m : Merged) (table' ledger' : List ℕ)
        → Packs texts ls fs count table ledger m table' ledger' → MergesTables texts lines facts counts table ledger m table' ledger'
    merge-packed table ledger m table' ledger' p = record { all = go }
      where
        go : (old : List Row) (branches : List (List Row)) → InMemory texts lines facts counts old branches
            → Ends (merge_tables old branches (length table) (length ledger)) table ledger m table' ledger'
        go old branches b =
            let w = j.says old branches b in
            subst (λ (o : Outcome). Ends o table ledger m table' ledger')
            (ap (λ (es : List Entry). packed (tree_of w.t) es (length table) (length ledger)) w.entries
            ∙ sym (outcome-merged old branches (length table) (length ledger) (tree_of w.t) w.is))
            (p.all w.t w.stored w.order w.counted)
