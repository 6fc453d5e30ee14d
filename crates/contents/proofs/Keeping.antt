-- The kept content of a record where no two edits clash: it is that of the first branch with an edit, or else old's. w k is told of
-- table k, and table 0 is old; a and b are facts, n is a record, k a table that has it. Assumes nothing.
use mathlib.Core.Path.{◌≡◌, refl, sym, ap, ◌∙◌, subst}
use mathlib.Core.List.{List, [], map}
use Prim.Native.Nat.{ℕ, ◌<◌}
use native.Mathlib.Omega.{arith}
use native.Mathlib.Decide.{ℕ_discrete}
use lib.Dec.{T, T_not}
use Rattle.rules.specs.Lists.{◌∈◌}
use Rattle.rules.specs.Facts.{ContentFact, Facts, contents_of, content_fact, contents_disagree}
use Rattle.rules.specs.Merge.{content_edits, content_clashes, kept_contents, content_in}
use Rattle.trees.proofs.Lists.{cannot_fail}
use Rattle.trees.proofs.Kept.{Coherent, Agrees, kept_coherent, edit_kept, old-kept}
use Rattle.trees.proofs.Disagreeing.{content_tells, contents_agree, content_flip}
use Rattle.trees.proofs.Walk.{content_is}
use Rattle.facts.specs.Memory.{TABLES}
use Rattle.edits.proofs.Branches.{IsBranch, first_yes, first_some}
use Rattle.contents.specs.Contents.{Told, fresh_content, content_source}
use Rattle.contents.proofs.Clashing.{ContentView, ContentViews, view_old, fresh_in, fresh_out, fresh_edit, edit_fresh, edits_agree}

-- a table gives a record one content
told_once : {q : Told} {facts : List ContentFact} (v : ContentView q facts) → Coherent contents_disagree facts
told_once {q} v a b m k = contents_agree a b (λ e. sym (v.to a m).1 ∙ ap q.content e ∙ (v.to b k).1)

module _ (w : ℕ → Told) (old : Facts) (branches : List Facts) (v : ContentViews w old branches) where
  -- ---- where the kept content comes from

  pub source-table : (n : ℕ) → content_source w n < TABLES
  source-table n = elim (ℕ_discrete (content_source w n) 0) [
    | yes e ↦ omega arith
    | no e ↦ (first_yes (λ j. fresh_content w j n) (omega (arith, e))).1.1
  ]

  -- no branch has an edit
  none_fresh : (k n : ℕ) → content_source w n ≡ 0 → IsBranch k → T (fresh_content w k n) → ⊥
  none_fresh k n e b t = omega (arith, first_some (λ j. fresh_content w j n) k b t)

  -- then old has what a table has
  old_has : (k n : ℕ) → k < TABLES → T ((w k).has n) → content_source w n ≡ 0 → T ((w 0).has n)
  old_has k n h t e = elim (ℕ_discrete k 0) [
    | yes z ↦ subst (λ (j : ℕ). T ((w j).has n)) z t
    | no z ↦ cannot_fail ((w 0).has n) (λ u.
        none_fresh k n e (omega (arith, z), h) (fresh_in w old branches v k n t (λ i c. absurd (T_not ((w 0).has n) u i))))
  ]

  pub source_has : (k n : ℕ) → k < TABLES → T ((w k).has n) → T ((w (content_source w n)).has n)
  source_has k n h t = elim (ℕ_discrete (content_source w n) 0) [
    | yes e ↦ subst (λ (j : ℕ). T ((w j).has n)) (sym e) (old_has k n h t e)
    | no e ↦ (fresh_out w old branches v (content_source w n) n (first_yes (λ j. fresh_content w j n) (omega (arith, e))).0).0
  ]

  -- ---- it is kept

  abbrev source : ℕ → ContentFact
  source n = content_fact n ((w (content_source w n)).content n)

  -- an old content of which there is no edit disagrees with none
  old_agrees : (n : ℕ) → content_source w n ≡ 0 → (a : ContentFact) → a.number ≡ n → Agrees contents_disagree a (content_edits old branches)
  old_agrees n e a q b m t =
      contents_agree a b (λ p.
      let x = edit_fresh w old branches v b m in
      absurd (none_fresh x.0 n e x.1 (subst (λ (i : ℕ). T (fresh_content w x.0 i)) (sym p ∙ q) x.2))) t

  source-kept : (k n : ℕ) → k < TABLES → T ((w k).has n) → source n ∈ kept_contents old branches
  unfolding kept_contents content_edits
  source-kept k n h t = elim (ℕ_discrete (content_source w n) 0) [
    | yes e ↦ old-kept content_tells old.contents (map contents_of branches) contents_disagree (source n)
        (subst (λ (j : ℕ). content_fact n ((w j).content n) ∈ old.contents) (sym e)
        ((view_old w old branches v).from n (old_has k n h t e)))
        (old_agrees n e (source n) refl)
    | no e ↦ let f = first_yes (λ j. fresh_content w j n) (omega (arith, e)) in
        edit_kept content_tells old.contents (map contents_of branches) contents_disagree (source n)
        (fresh_edit w old branches v (content_source w n) n f.1 f.0)
  ]

  module _ (none : content_clashes old branches ≡ []) where
    kept_agree : Coherent contents_disagree (kept_contents old branches)
    unfolding kept_contents content_edits
    kept_agree =
        kept_coherent content_tells old.contents (map contents_of branches) contents_disagree content_flip
        (edits_agree w old branches v none) (told_once (view_old w old branches v))

    -- the content that the merge gives a record that some table has
    pub kept-content : (k n : ℕ) → k < TABLES → T ((w k).has n)
        → content_in (kept_contents old branches) n ≡ (w (content_source w n)).content n
    kept-content k n h t =
        content_is (kept_contents old branches) (kept_contents old branches) (λ a m. m) (λ a b m i. kept_agree b a i m) (source n)
        (source-kept k n h t)
