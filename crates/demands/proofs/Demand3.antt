-- Demand 3 on texts whose tables are readable: the merge is done exactly if a tree answers, within limits and room; only one tree does;
-- and swapping the desks trades nothing but their marks in the ledger. o is old's table, bs are the branches', a and b the room of the two
-- buffers. Assumes nothing.
use mathlib.Core.Path.{◌≡◌, refl, sym, ap, ◌∙◌, subst}
use mathlib.Core.List.Memᴰ
use mathlib.Core.List.Memᴰ.{head as here}
use mathlib.Core.List.Memᴰ.{tail as there}
use mathlib.Core.List.{List, [], ◌∷◌, map}
use Prim.Native.Nat.{ℕ}
use native.Mathlib.Omega.{arith}
use Rattle.rules.specs.Lists.{◌∈◌}
use Rattle.rules.specs.Marks.{TOP}
use Rattle.rules.specs.Line.{Row}
use Rattle.rules.specs.Tree.{Tree, rows}
use Rattle.rules.specs.Facts.{ContentFact, Facts, content_of, facts_of}
use Rattle.rules.specs.Merge.{Result, refused, merged, merge}
use Rattle.rules.specs.Written.{written_tree}
use Rattle.rules.specs.Ledger.{Entry, entries_of}
use Rattle.rules.specs.Calls.{Outcome, done, packed, judged, merge_tables, merge_texts}
use Rattle.rules.specs.Demands.{Readable, Writable, Within, Answers, Tables, Answered, traded_outcome}
use Rattle.rules.proofs.Origins.{entries_trade}
use Rattle.trees.proofs.OneTable.{content-row}
use Rattle.trees.proofs.Trees.{contents-rows}
use Rattle.trees.proofs.Demand3 as facts
use Rattle.readback.proofs.Following.{good_readable, good_writable}
use Rattle.readback.proofs.Accepting.{good}
use Rattle.demands.proofs.Packing.{packed_done, done_packed}
use Rattle.demands.proofs.Reading.{read_merged, table_text}
use Rattle.demands.proofs.Swapping.{packed-traded}

module _ (old : List ℕ) (branches : List (List ℕ)) (o : List Row) (bs : List (List Row)) (read : Tables old branches o bs) where
  pub all_readable : (t : List Row) → t ∈ o ∷ bs → Readable t
  all_readable t m = let w = table_text old branches o bs read t m in good_readable t (good w.0 t w.1)

  -- ---- the contents of an answer are contents of the tables, so a line may hold them

  fact_writable : (t : List Row) → t ∈ o ∷ bs → (a : ContentFact) → a ∈ (facts_of t).contents → Writable a.content
  fact_writable t m a i =
      let w = table_text old branches o bs read t m in
      let x = content-row t a i in
      subst (λ (b : ContentFact). Writable b.content) x.2 (good_writable t (good w.0 t w.1) x.0 x.1)

  pub answer_writable : (f : Tree) → Answers (facts_of o) (map facts_of bs) f → (x : Row) → x ∈ rows TOP f → Writable x.content
  answer_writable f w x m =
      let listed : content_of x ∈ map content_of (rows TOP f) = Memᴰ.map content_of m in
      let known = w.contents_known (content_of x) (subst (λ (l : List ContentFact). content_of x ∈ l) (contents-rows TOP f) listed) in
      let t = Memᴰ.of_map facts_of (o ∷ bs) known.1 in
      fact_writable t.0 t.1 (content_of x) (subst (λ (g : Facts). content_of x ∈ g.contents) (sym t.2) known.2)

  -- ---- accepted exactly if a tree answers

  module _ (a b : ℕ) where
    abbrev pack : Tree → Outcome
    pack f = packed f (entries_of o bs f) a b

    pub done_answered : (table : List ℕ) (es : List Entry) → merge_texts old branches a b ≡ done table es
        → (f : Tree) × Answered o bs a b f × (table ≡ written_tree f) × (es ≡ entries_of o bs f)
    unfolding merge_tables
    done_answered table es e = go (merge (facts_of o) (map facts_of bs)) refl (sym (read_merged old branches o bs read a b) ∙ e)
      where
        go : (result : Result) → merge (facts_of o) (map facts_of bs) ≡ result → judged result pack ≡ done table es
            → (f : Tree) × Answered o bs a b f × (table ≡ written_tree f) × (es ≡ entries_of o bs f)
        go (refused code place) m d = let z : ◌≡◌ {A = ℕ} 0 1 = cc in absurd (omega arith)
        go (merged f) m d =
            let p = done_packed f (entries_of o bs f) a b table es d in
            let w = (facts.demand3 o bs all_readable f).1 m in
            let within : Within f = record { tree = w.tree; contents = answer_writable f w; few = p.0.few; short = p.0.short } in
            (f, record { answers = w; within = within; table-room = p.0.table-room; ledger-room = p.0.ledger-room }, p.1, p.2)

    pub answered_done : (f : Tree) → Answered o bs a b f → merge_texts old branches a b ≡ done (written_tree f) (entries_of o bs f)
    unfolding merge_tables
    answered_done f w =
        read_merged old branches o bs read a b
        ∙ ap (λ (r : Result). judged r pack) ((facts.demand3 o bs all_readable f).0 w.answers)
        ∙ packed_done f (entries_of o bs f) a b
        (record { few = w.within.few; short = w.within.short; table-room = w.table-room; ledger-room = w.ledger-room })

  pub one_tree : (f g : Tree) → Answers (facts_of o) (map facts_of bs) f → Answers (facts_of o) (map facts_of bs) g → f ≡ g
  one_tree = facts.one_answer o bs all_readable

-- ---- the desks swapped

turned : {A : Type 0} (x y z : A) → z ∈ x ∷ y ∷ [] → z ∈ y ∷ x ∷ []
turned x y z (here e) = there (here e)
turned x y z (there (here e)) = here e
turned x y z (there (there m)) = absurd (Memᴰ.not-nil m)

module _ (old first second : List ℕ) (o f s : List Row) (read : Tables old (first ∷ second ∷ []) o (f ∷ s ∷ [])) where
  read_swapped : Tables old (second ∷ first ∷ []) o (s ∷ f ∷ [])
  read_swapped = let e = read.branches_read in record { old_read = read.old_read; branches_read = cc }

  merge_swapped : merge (facts_of o) (facts_of s ∷ facts_of f ∷ []) ≡ merge (facts_of o) (facts_of f ∷ facts_of s ∷ [])
  merge_swapped =
      facts.any_order o (s ∷ f ∷ []) (all_readable old (second ∷ first ∷ []) o (s ∷ f ∷ []) read_swapped) (f ∷ s ∷ [])
      (turned s f) (turned f s)

  tables_swapped : (a b : ℕ) → merge_tables o (s ∷ f ∷ []) a b ≡ traded_outcome (merge_tables o (f ∷ s ∷ []) a b)
  unfolding merge_tables
  tables_swapped a b = ap (λ (r : Result). judged r pack₂) merge_swapped ∙ go (merge (facts_of o) (facts_of f ∷ facts_of s ∷ []))
    where
      pack₁ : Tree → Outcome
      pack₁ g = packed g (entries_of o (f ∷ s ∷ []) g) a b

      pack₂ : Tree → Outcome
      pack₂ g = packed g (entries_of o (s ∷ f ∷ []) g) a b

      go : (r : Result) → judged r pack₂ ≡ traded_outcome (judged r pack₁)
      go (refused code place) = refl
      go (merged g) =
          ap (λ (es : List Entry). packed g es a b) (entries_trade (facts_of o) (facts_of f) (facts_of s) (rows TOP g))
          ∙ packed-traded g (entries_of o (f ∷ s ∷ []) g) a b

  -- the same table or the same refusal; in the ledger only the desk marks trade places
  pub swapped : (a b : ℕ) → merge_texts old (second ∷ first ∷ []) a b ≡ traded_outcome (merge_texts old (first ∷ second ∷ []) a b)
  swapped a b =
      read_merged old (second ∷ first ∷ []) o (s ∷ f ∷ []) read_swapped a b
      ∙ tables_swapped a b
      ∙ ap traded_outcome (sym (read_merged old (first ∷ second ∷ []) o (f ∷ s ∷ []) read a b))
