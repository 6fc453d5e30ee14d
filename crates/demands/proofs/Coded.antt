-- Code 0 is told of a merge that is done, and of nothing else. a and b are the room of the two buffers. Assumes nothing.
use mathlib.Core.Path.{◌≡◌, refl}
use mathlib.Core.Bool.{Bool, true, false}
use mathlib.Core.List.{List, [], ◌∷◌, map}
use Prim.Native.Nat.{ℕ, suc}
use native.Mathlib.Omega.{arith}
use lib.Dec.{ltb}
use lib.ListN.{length}
use Rattle.rules.specs.Codes.{accepted, content_clash, parent_clash, neighbour_clash, broken_list, lost_edit}
use Rattle.rules.specs.Line.{Row}
use Rattle.rules.specs.Table.{Verdict, readable, unreadable, verdict}
use Rattle.rules.specs.Tree.{Tree}
use Rattle.rules.specs.Facts.{Facts, facts_of}
use Rattle.rules.specs.Merge.{Result, refused, merged, refuse, merge, merged_tree, content_clashes, parent_clashes, neighbour_clashes}
use Rattle.rules.specs.Merge.{broken_lists, lost_edits}
use Rattle.rules.specs.Written.{written_tree}
use Rattle.rules.specs.Ledger.{Entry, entries_of, ledger}
use Rattle.rules.specs.Calls.{Outcome, not_read, clash, too_large, no_room, done, once_read, once_all_read, over_limits, packed, judged}
use Rattle.rules.specs.Calls.{merge_tables, merge_texts, answer_of}
use Rattle.readback.proofs.Accepting.{refused_code}
use Rattle.demands.proofs.Packing.{ending}

-- a refusal has a code of its own
abbrev pub Coded : Outcome → Type 0
Coded (not_read table code line) = code ≡ accepted → ⊥
Coded (clash code place) = code ≡ accepted → ⊥
Coded too_large = Unit {0}
Coded (no_room code table_length ledger_length) = code ≡ accepted → ⊥
Coded (done table es) = Unit {0}

pub zero_done : (end : Outcome) → Coded end → (answer_of end).code ≡ accepted → (table : List ℕ) × (es : List Entry) × (end ≡ done table es)
zero_done (not_read table code line) c e = absurd (c e)
zero_done (clash code place) c e = absurd (c e)
zero_done too_large c e = absurd (omega (arith, e))
zero_done (no_room code table_length ledger_length) c e = absurd (c e)
zero_done (done table es) c e = (table, es, refl)

-- ---- of tables

abbrev CodedResult : Result → Type 0
CodedResult (refused code place) = code ≡ accepted → ⊥
CodedResult (merged f) = Unit {0}

refuse_coded : (code : ℕ) (places : List ℕ) (result : Result) → (code ≡ accepted → ⊥) → CodedResult result
    → CodedResult (refuse code places result)
refuse_coded code [] result c r = r
refuse_coded code (place ∷ places) result c r = c

merge_coded : (old : Facts) (branches : List Facts) → CodedResult (merge old branches)
unfolding merge
merge_coded old branches =
    refuse_coded content_clash (content_clashes old branches) _ (λ e. omega arith)
    (refuse_coded parent_clash (parent_clashes old branches) _ (λ e. omega arith)
    (refuse_coded neighbour_clash (neighbour_clashes old branches) _ (λ e. omega arith)
    (refuse_coded broken_list (broken_lists old branches) _ (λ e. omega arith)
    (refuse_coded lost_edit (lost_edits old branches) (merged (merged_tree old branches)) (λ e. omega arith) tt))))

packed_coded : (f : Tree) (es : List Entry) (a b : ℕ) → Coded (packed f es a b)
packed_coded f es a b = go (over_limits f) (ltb a (length (written_tree f))) (ltb b (length (ledger es)))
  where
    go : (u v w : Bool) → Coded (ending u v w (written_tree f) (length (ledger es)) es)
    go true v w = tt
    go false true w = λ e. omega arith
    go false false true = λ e. omega arith
    go false false false = tt

judged_coded : (result : Result) (next : Tree → Outcome) → CodedResult result → ((f : Tree) → Coded (next f)) → Coded (judged result next)
judged_coded (refused code place) next c h = c
judged_coded (merged f) next c h = h f

tables_coded : (o : List Row) (bs : List (List Row)) (a b : ℕ) → Coded (merge_tables o bs a b)
unfolding merge_tables
tables_coded o bs a b =
    judged_coded (merge (facts_of o) (map facts_of bs)) _ (merge_coded (facts_of o) (map facts_of bs))
    (λ f. packed_coded f (entries_of o bs f) a b)

-- ---- of texts

once_coded : (k : ℕ) (text : List ℕ) (next : List Row → Outcome) → ((t : List Row) → Coded (next t))
    → Coded (once_read k (verdict text) next)
once_coded k text next h = go (verdict text) refl
  where
    go : (v : Verdict) → verdict text ≡ v → Coded (once_read k v next)
    go (readable t) e = h t
    go (unreadable code line) e = refused_code text code line e

all_coded : (k : ℕ) (texts : List (List ℕ)) (next : List (List Row) → Outcome) → ((ts : List (List Row)) → Coded (next ts))
    → Coded (once_all_read k texts next)
all_coded k [] next h = h []
all_coded k (text ∷ texts) next h =
    once_coded k text (λ t. once_all_read (suc k) texts (λ ts. next (t ∷ ts)))
    (λ t. all_coded (suc k) texts (λ ts. next (t ∷ ts)) (λ ts. h (t ∷ ts)))

pub texts_coded : (old : List ℕ) (branches : List (List ℕ)) (a b : ℕ) → Coded (merge_texts old branches a b)
unfolding merge_texts
texts_coded old branches a b =
    once_coded 1 old _ (λ o. all_coded 2 branches (λ bs. merge_tables o bs a b) (λ bs. tables_coded o bs a b))
