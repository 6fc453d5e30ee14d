-- Edits and clashes of contents, read off what the tables tell. w k is told of table k, and table 0 is old; a and b are facts, n is a
-- record, k and j are tables. Assumes nothing.
use mathlib.Core.Path.{◌≡◌, sym, ap, ◌∙◌, subst}
use mathlib.Core.Bool.{not, ◌&&◌}
use mathlib.Core.List.Memᴰ
use mathlib.Core.List.{List, [], ◌∷◌, map}
use mathlib.Core.Logic.{inl, inr}
use Prim.Native.Nat.{ℕ, ◌<◌}
use native.Mathlib.Omega.{arith}
use lib.Dec.{T, T_not, not_T, eqb, eqb→eq, eqb_refl}
use mir.Facts.{and_yes, yes_and}
use lib.ListN.{length, length-map, get_or}
use Rattle.rules.specs.Lists.{◌∈◌}
use Rattle.rules.specs.Marks.{is_record}
use Rattle.rules.specs.Line.{Content}
use Rattle.rules.specs.Facts.{ContentFact, Facts, contents_of, content_fact, same_content, contents_disagree}
use Rattle.rules.specs.Merge.{content_edits, content_clashes}
use Rattle.trees.proofs.Lists.{either, cannot_fail}
use Rattle.trees.proofs.Kept.{Coherent, none_coherent, places_in, places_out}
use Rattle.trees.proofs.Disagreeing.{record_of, content_equal, content_tells}
use Rattle.facts.specs.Memory.{TABLES, BRANCHES}
use Rattle.edits.proofs.Branches.{IsBranch, first_yes, first_some}
use Rattle.edits.proofs.Telling.{edit_of, edit_out}
use Rattle.contents.specs.Contents.{Told, fresh_content, content_source, two_contents}
use Rattle.contents.proofs.Comparing.{equal_same}

-- ---- a table tells exactly some content facts

pub record ContentView (q : Told) (facts : List ContentFact) : Type 0 where
  pub to : (a : ContentFact) → a ∈ facts → T (q.has a.number) × (q.content a.number ≡ a.content)
  pub from : (n : ℕ) → T (q.has n) → content_fact n (q.content n) ∈ facts
  pub record_has : (n : ℕ) → T (q.has n) → T (is_record n)

-- a fact that is told is there
pub told_in : {q : Told} {facts : List ContentFact} (v : ContentView q facts) (a : ContentFact) → T (q.has a.number)
    → q.content a.number ≡ a.content → a ∈ facts
told_in v a h e = Memᴰ.cast (λ i. content_fact a.number (sym e i)) (v.from a.number h)

-- the content facts of table k
abbrev pub contents_at : Facts → List Facts → ℕ → List ContentFact
contents_at old branches k = get_or (old.contents ∷ map contents_of branches) k []

pub record ContentViews (w : ℕ → Told) (old : Facts) (branches : List Facts) : Type 0 where
  pub many : length branches ≡ BRANCHES
  pub view : (k : ℕ) → k < TABLES → ContentView (w k) (contents_at old branches k)

module _ (w : ℕ → Told) (old : Facts) (branches : List Facts) (v : ContentViews w old branches) where
  counted : length (map contents_of branches) ≡ BRANCHES
  counted = length-map branches contents_of ∙ v.many

  pub view_old : ContentView (w 0) old.contents
  view_old = v.view 0 (omega arith)

  -- ---- edits

  -- an edit of branch k
  abbrev pub Edit : ℕ → ContentFact → Type 0
  Edit k a = IsBranch k × (a ∈ contents_at old branches k) × (a ∈ old.contents → ⊥)

  pub is_edit : (k : ℕ) (a : ContentFact) → Edit k a → a ∈ content_edits old branches
  unfolding content_edits
  is_edit k a e = edit_of content_tells old.contents (map contents_of branches) counted k a e

  pub edit_is : (a : ContentFact) → a ∈ content_edits old branches → (k : ℕ) × Edit k a
  unfolding content_edits
  edit_is a m = edit_out content_tells old.contents (map contents_of branches) counted a m

  -- a new content is had, and old has it not
  pub fresh_out : (k n : ℕ) → T (fresh_content w k n) → T ((w k).has n) × (T ((w 0).has n) → (w k).content n ≡ (w 0).content n → ⊥)
  fresh_out k n t =
      let both = and_yes ((w k).has n) (not ((w 0).has n && same_content ((w k).content n) ((w 0).content n))) t in (
        both.0,
        λ h e. T_not ((w 0).has n && same_content ((w k).content n) ((w 0).content n)) both.1
            (yes_and ((w 0).has n) (same_content ((w k).content n) ((w 0).content n)) h (equal_same ((w k).content n) ((w 0).content n) e)),
      )

  pub fresh_in : (k n : ℕ) → T ((w k).has n) → (T ((w 0).has n) → (w k).content n ≡ (w 0).content n → ⊥) → T (fresh_content w k n)
  fresh_in k n h f =
      yes_and ((w k).has n) (not ((w 0).has n && same_content ((w k).content n) ((w 0).content n))) h
      (not_T ((w 0).has n && same_content ((w k).content n) ((w 0).content n)) (λ t.
      let both = and_yes ((w 0).has n) (same_content ((w k).content n) ((w 0).content n)) t in
      f both.0 (content_equal ((w k).content n) ((w 0).content n) both.1)))

  -- it is an edit
  pub fresh_edit : (k n : ℕ) → IsBranch k → T (fresh_content w k n) → content_fact n ((w k).content n) ∈ content_edits old branches
  fresh_edit k n b t =
      let x = fresh_out k n t in
      is_edit k (content_fact n ((w k).content n)) (
        b,
        (v.view k b.1).from n x.0,
        λ m.
            let y = view_old.to (content_fact n ((w k).content n)) m in x.1 y.0 (sym y.1),
      )

  -- and an edit is a new content
  pub edit_fresh : (a : ContentFact) → a ∈ content_edits old branches
      → (k : ℕ) × IsBranch k × T (fresh_content w k a.number) × ((w k).content a.number ≡ a.content)
  edit_fresh a m =
      let x = edit_is a m in
      let k = x.0 in
      let y = (v.view k x.1.0.1).to a x.1.1 in
      (k, x.1.0, fresh_in k a.number y.0 (λ h e. x.1.2 (told_in view_old a h (sym e ∙ y.1))), y.1)

  -- ---- the first branch with an edit

  source-fresh : (k n : ℕ) → IsBranch k → T (fresh_content w k n)
      → T (fresh_content w (content_source w n) n) × IsBranch (content_source w n)
  source-fresh k n b t = first_yes (λ j. fresh_content w j n) (first_some (λ j. fresh_content w j n) k b t)

  -- ---- 21

  pub clash_in : (k n : ℕ) → IsBranch k → T (two_contents w k n) → n ∈ content_clashes old branches
  unfolding content_clashes
  clash_in k n b t =
      let j = content_source w n in
      let c = and_yes (fresh_content w k n) (not (same_content ((w k).content n) ((w j).content n))) t in
      let f = source-fresh k n b c.0 in
      places_in contents_disagree (λ (a : ContentFact). a.number) _ (fresh_edit k n b c.0) (fresh_edit j n f.1 f.0)
      (yes_and (eqb n n) _ (eqb_refl n) c.1)

  pub clash_out : (n : ℕ) → n ∈ content_clashes old branches → (k : ℕ) × IsBranch k × T (two_contents w k n)
  unfolding content_clashes
  clash_out n m =
      let d = places_out contents_disagree (λ (a : ContentFact). a.number) _ m in
      let c = and_yes (eqb d.0.number d.1.number) (not (same_content d.0.content d.1.content)) d.4 in
      go d.0 d.1 d.5 (eqb→eq _ _ c.0) (λ e. T_not (same_content d.0.content d.1.content) c.1 (equal_same _ _ e))
      (edit_fresh d.0 d.2) (edit_fresh d.1 d.3)
    where
      Two : Type 0
      Two = (k : ℕ) × IsBranch k × T (two_contents w k n)

      theirs : Content
      theirs = (w (content_source w n)).content n

      -- branch k has another content than the first branch with an edit
      at : (k : ℕ) → IsBranch k → T (fresh_content w k n) → T (not (same_content ((w k).content n) theirs)) → Two
      at k b f t = (k, b, yes_and (fresh_content w k n) (not (same_content ((w k).content n) theirs)) f t)

      go : (a b : ContentFact) → a.number ≡ n → a.number ≡ b.number → (a.content ≡ b.content → ⊥)
          → (k : ℕ) × IsBranch k × T (fresh_content w k a.number) × ((w k).content a.number ≡ a.content)
          → (k : ℕ) × IsBranch k × T (fresh_content w k b.number) × ((w k).content b.number ≡ b.content)
          → Two
      go a b en e ne (k, bk, fa, ca) (j, bj, fb, cb) =
          let eb : b.number ≡ n = sym e ∙ en in
          let fk : T (fresh_content w k n) = subst (λ (z : ℕ). T (fresh_content w k z)) en fa in
          let fj : T (fresh_content w j n) = subst (λ (z : ℕ). T (fresh_content w j z)) eb fb in
          let ck : (w k).content n ≡ a.content = ap (w k).content (sym en) ∙ ca in
          let cj : (w j).content n ≡ b.content = ap (w j).content (sym eb) ∙ cb in
          elim (either (same_content ((w k).content n) theirs)) [
            | inr t ↦ at k bk fk t
            | inl t ↦ at j bj fj (not_T (same_content ((w j).content n) theirs) (λ u.
                ne (sym ck ∙ content_equal ((w k).content n) theirs t ∙ sym (content_equal ((w j).content n) theirs u) ∙ cj)))
          ]

  -- ---- where no two edits clash

  module _ (none : content_clashes old branches ≡ []) where
    pub edits_agree : Coherent contents_disagree (content_edits old branches)
    unfolding content_clashes
    edits_agree = none_coherent contents_disagree record_of (content_edits old branches) none

    -- every edit is the first branch's
    pub one_edit : (k n : ℕ) → IsBranch k → T (fresh_content w k n) → (w k).content n ≡ (w (content_source w n)).content n
    one_edit k n b t =
        content_equal ((w k).content n) ((w (content_source w n)).content n)
        (cannot_fail (same_content ((w k).content n) ((w (content_source w n)).content n)) (λ u.
        Memᴰ.not-nil (subst (λ (l : List ℕ). n ∈ l) none (clash_in k n b (yes_and (fresh_content w k n) _ t u)))))
