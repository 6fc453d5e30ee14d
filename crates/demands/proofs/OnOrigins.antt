-- The origins that the ledger tells, in document 01's words: which tables have this content under this number. old, first and second are
-- the tables' facts, o, f and s the tables; g is a tree that answers, x one of its rows, e an entry of its ledger. Assumes nothing.
use mathlib.Core.Path.{◌≡◌, refl, sym, subst}
use mathlib.Core.Bool.{Bool, true, false}
use mathlib.Core.List.Memᴰ
use mathlib.Core.List.Memᴰ.{head as here}
use mathlib.Core.List.Memᴰ.{tail as there}
use mathlib.Core.List.{List, [], ◌∷◌, map}
use lib.Dec.{T}
use lib.ListN.{length}
use Rattle.rules.specs.Lists.{◌∈◌}
use Rattle.rules.specs.Marks.{TOP}
use Rattle.rules.specs.Line.{Row}
use Rattle.rules.specs.Tree.{Tree, rows}
use Rattle.rules.specs.Facts.{ContentFact, Facts, contents_of, content_of, facts_of}
use Rattle.rules.specs.Ledger.{Entry, holds, origin, entries_of}
use Rattle.rules.specs.Demands.{Answers, Known, OriginIs, of_old, only_first, only_second, of_both}
use Rattle.rules.proofs.Origins.{mark, origin_is}
use Rattle.trees.proofs.Trees.{contents-rows}
use Rattle.trees.proofs.Disagreeing.{content_tells}
use Rattle.trees.proofs.Kept.{has_in_lem, has_out}

-- ---- whether a table holds a content under a number

holds_true : (t : Facts) (x : Row) → holds t x ≡ true → content_of x ∈ t.contents
holds_true t x e = has_out content_tells t.contents (subst T (sym e) tt)

holds_false : (t : Facts) (x : Row) → holds t x ≡ false → content_of x ∈ t.contents → ⊥
holds_false t x e m = subst T e (has_in_lem content_tells m)

-- ---- the origin of a content that one of the tables has

module _ (old first second : Facts) (x : Row) where
  pub origin_words : Known contents_of old (first ∷ second ∷ []) (content_of x)
      → OriginIs old first second (content_of x) (origin old (first ∷ second ∷ []) x)
  origin_words known =
      subst (OriginIs old first second (content_of x)) (sym (origin_is old first second x))
      (go (holds old x) (holds first x) (holds second x) refl refl refl known.0 known.1 known.2)
    where
      go : (a b c : Bool) → holds old x ≡ a → holds first x ≡ b → holds second x ≡ c → (t : Facts) → t ∈ old ∷ first ∷ second ∷ []
          → content_of x ∈ t.contents → OriginIs old first second (content_of x) (mark a b c)
      go true b c p q r t m i = of_old (holds_true old x p)
      go false true false p q r t m i = only_first (holds_false old x p) (holds_true first x q) (holds_false second x r)
      go false false true p q r t m i = only_second (holds_false old x p) (holds_false first x q) (holds_true second x r)
      go false true true p q r t m i = of_both (holds_false old x p) (holds_true first x q) (holds_true second x r)
      go false false false p q r t (here e) i =
          absurd (holds_false old x p (subst (λ (u : Facts). content_of x ∈ u.contents) e i))
      go false false false p q r t (there (here e)) i =
          absurd (holds_false first x q (subst (λ (u : Facts). content_of x ∈ u.contents) e i))
      go false false false p q r t (there (there (here e))) i =
          absurd (holds_false second x r (subst (λ (u : Facts). content_of x ∈ u.contents) e i))
      go false false false p q r t (there (there (there m))) i = absurd (Memᴰ.not-nil m)

-- ---- of the ledger of a tree that answers

-- the entry tells the number of a record, whence its content came, and how long it is
pub record TellsOf (o f s : List Row) (g : Tree) (e : Entry) : Type 0 where
  pub row : Row
  pub merged : row ∈ rows TOP g
  pub number_is : e.number ≡ row.number
  pub origin-told : OriginIs (facts_of o) (facts_of f) (facts_of s) (content_of row) e.origin
  pub bytes_are : e.bytes ≡ length row.content

module _ (o f s : List Row) (g : Tree) (w : Answers (facts_of o) (facts_of f ∷ facts_of s ∷ []) g) where
  known : (x : Row) → x ∈ rows TOP g → Known contents_of (facts_of o) (facts_of f ∷ facts_of s ∷ []) (content_of x)
  known x m =
      let listed : content_of x ∈ map content_of (rows TOP g) = Memᴰ.map content_of m in
      w.contents_known (content_of x) (subst (λ (l : List ContentFact). content_of x ∈ l) (contents-rows TOP g) listed)

  pub entry_tells : (e : Entry) → e ∈ entries_of o (f ∷ s ∷ []) g → TellsOf o f s g e
  entry_tells e m =
      let x = Memᴰ.of_map _ (rows TOP g) m in
      subst (TellsOf o f s g) x.2 (record {
        row = x.0;
        merged = x.1;
        number_is = refl;
        origin-told = origin_words (facts_of o) (facts_of f) (facts_of s) x.0 (known x.0 x.1);
        bytes_are = refl;
      })
