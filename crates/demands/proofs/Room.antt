-- How a merge of readable tables ends: with a clash, or with the one tree that answers, which is then too large, too long for a buffer, or
-- written. o and bs are the tables of old and of the branches, a and b the room of the two buffers, f is a tree, es are a ledger's entries.
-- Assumes nothing.
use mathlib.Core.Path.{◌≡◌, refl, ap, ◌∙◌}
use mathlib.Core.Logic.{◌⊎◌, inl, inr}
use mathlib.Core.Bool.{Bool, true, false, ◌||◌}
use mathlib.Core.List.{List, [], ◌∷◌, map}
use Prim.Native.Nat.{ℕ, ◌<◌, ◌≤◌}
use native.Mathlib.Omega.{arith}
use lib.Dec.{ltb}
use lib.ListN.{length}
use borrow.Author.Tests.{ltb-true, ltb-false}
use Rattle.rules.specs.Limits.{LINES, BYTES}
use Rattle.rules.specs.Codes.{content_clash, parent_clash, neighbour_clash, broken_list, lost_edit}
use Rattle.rules.specs.Marks.{TOP}
use Rattle.rules.specs.Line.{Row}
use Rattle.rules.specs.Tree.{Tree, rows}
use Rattle.rules.specs.Facts.{Facts, facts_of}
use Rattle.rules.specs.Merge.{Result, refused, merged, refuse, merge, merged_tree, content_clashes, parent_clashes, neighbour_clashes}
use Rattle.rules.specs.Merge.{broken_lists, lost_edits}
use Rattle.rules.specs.Written.{written_tree}
use Rattle.rules.specs.Ledger.{Entry, entries_of, ledger}
use Rattle.rules.specs.Calls.{Outcome, clash, too_large, no_room, done, packed, judged, merge_tables, merge_texts}
use Rattle.rules.specs.Demands.{Answers, Tables}
use Rattle.trees.proofs.Demand3 as facts
use Rattle.demands.proofs.Packing.{ending}
use Rattle.demands.proofs.Reading.{read_merged}
use Rattle.demands.proofs.Demand3.{all_readable}

-- ---- the tree and the room of the buffers

-- the end of a merge whose tree is f, by document 01's numbers
pub data Ends (f : Tree) (es : List Entry) (a b : ℕ) (end : Outcome) : Type 0 where
  large : (512 < length (rows TOP f)) ⊎ (32768 < length (written_tree f)) → end ≡ too_large → Ends f es a b end
  table_long : length (rows TOP f) ≤ 512 → length (written_tree f) ≤ 32768 → a < length (written_tree f)
      → end ≡ no_room 31 (length (written_tree f)) (length (ledger es)) → Ends f es a b end
  ledger_long : length (rows TOP f) ≤ 512 → length (written_tree f) ≤ 32768 → length (written_tree f) ≤ a → b < length (ledger es)
      → end ≡ no_room 32 (length (written_tree f)) (length (ledger es)) → Ends f es a b end
  fits : length (rows TOP f) ≤ 512 → length (written_tree f) ≤ 32768 → length (written_tree f) ≤ a → length (ledger es) ≤ b
      → end ≡ done (written_tree f) es → Ends f es a b end

module _ (f : Tree) (es : List Entry) (a b : ℕ) where
  pub packed_ends : Ends f es a b (packed f es a b)
  packed_ends =
      go (ltb LINES (length (rows TOP f))) (ltb BYTES (length (written_tree f)))
      (ltb a (length (written_tree f))) (ltb b (length (ledger es))) refl refl refl refl
    where
      go : (u v w x : Bool) → ltb LINES (length (rows TOP f)) ≡ u → ltb BYTES (length (written_tree f)) ≡ v
          → ltb a (length (written_tree f)) ≡ w → ltb b (length (ledger es)) ≡ x
          → Ends f es a b (ending (u || v) w x (written_tree f) (length (ledger es)) es)
      go true v w x p q r s = large (inl (ltb-true LINES (length (rows TOP f)) p)) refl
      go false true w x p q r s = large (inr (ltb-true BYTES (length (written_tree f)) q)) refl
      go false false true x p q r s =
          table_long (ltb-false LINES (length (rows TOP f)) p) (ltb-false BYTES (length (written_tree f)) q)
          (ltb-true a (length (written_tree f)) r) refl
      go false false false true p q r s =
          ledger_long (ltb-false LINES (length (rows TOP f)) p) (ltb-false BYTES (length (written_tree f)) q)
          (ltb-false a (length (written_tree f)) r) (ltb-true b (length (ledger es)) s) refl
      go false false false false p q r s =
          fits (ltb-false LINES (length (rows TOP f)) p) (ltb-false BYTES (length (written_tree f)) q)
          (ltb-false a (length (written_tree f)) r) (ltb-false b (length (ledger es)) s) refl

-- ---- a clash has a code of its own

abbrev ClashCode : Result → Type 0
ClashCode (refused code place) = (21 ≤ code) × (code ≤ 25)
ClashCode (merged f) = Unit {0}

refuse-code : (code : ℕ) (places : List ℕ) (result : Result) → (21 ≤ code) × (code ≤ 25) → ClashCode result
    → ClashCode (refuse code places result)
refuse-code code [] result c r = r
refuse-code code (place ∷ places) result c r = c

merge-code : (old : Facts) (branches : List Facts) → ClashCode (merge old branches)
unfolding merge
merge-code old branches =
    refuse-code content_clash (content_clashes old branches) _ (omega arith, omega arith)
    (refuse-code parent_clash (parent_clashes old branches) _ (omega arith, omega arith)
    (refuse-code neighbour_clash (neighbour_clashes old branches) _ (omega arith, omega arith)
    (refuse-code broken_list (broken_lists old branches) _ (omega arith, omega arith)
    (refuse-code lost_edit (lost_edits old branches) (merged (merged_tree old branches)) (omega arith, omega arith) tt))))

-- ---- the end of a merge

-- the facts of these tables have a clash, and the merge ended with it
pub record Clashed (o : List Row) (bs : List (List Row)) (end : Outcome) : Type 0 where
  pub code : ℕ
  pub place : ℕ
  pub low : 21 ≤ code
  pub high : code ≤ 25
  pub found : merge (facts_of o) (map facts_of bs) ≡ refused code place
  pub told : end ≡ clash code place

module _ (old : List ℕ) (branches : List (List ℕ)) (o : List Row) (bs : List (List Row)) (read : Tables old branches o bs) (a b : ℕ) where
  abbrev pack : Tree → Outcome
  pack f = packed f (entries_of o bs f) a b

  -- a clash that the facts have, with its place
  pub clash_ends : (code place : ℕ) → merge (facts_of o) (map facts_of bs) ≡ refused code place
      → merge_texts old branches a b ≡ clash code place
  unfolding merge_tables
  clash_ends code place m = read_merged old branches o bs read a b ∙ ap (λ (r : Result). judged r pack) m

  -- the tree that answers is the one that is packed
  answer_packed : (f : Tree) → Answers (facts_of o) (map facts_of bs) f → merge_texts old branches a b ≡ packed f (entries_of o bs f) a b
  unfolding merge_tables
  answer_packed f w =
      read_merged old branches o bs read a b
      ∙ ap (λ (r : Result). judged r pack) ((facts.demand3 o bs (all_readable old branches o bs read) f).0 w)

  pub answer_ends : (f : Tree) → Answers (facts_of o) (map facts_of bs) f → Ends f (entries_of o bs f) a b (merge_texts old branches a b)
  answer_ends f w = rw (answer_packed f w) (packed_ends f (entries_of o bs f) a b)

  -- a clash, or a tree that answers
  pub ends : Clashed o bs (merge_texts old branches a b) ⊎ ((f : Tree) × Answers (facts_of o) (map facts_of bs) f)
  ends = go (merge (facts_of o) (map facts_of bs)) refl (merge-code (facts_of o) (map facts_of bs))
    where
      go : (result : Result) → merge (facts_of o) (map facts_of bs) ≡ result → ClashCode (merge (facts_of o) (map facts_of bs))
          → Clashed o bs (merge_texts old branches a b) ⊎ ((f : Tree) × Answers (facts_of o) (map facts_of bs) f)
      go (refused code place) m c =
          let k : ClashCode (refused code place) = rw m at c in
          inl (record { code = code; place = place; low = k.0; high = k.1; found = m; told = clash_ends code place m })
      go (merged f) m c = inr (f, (facts.demand3 o bs (all_readable old branches o bs read) f).1 m)
