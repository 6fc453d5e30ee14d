-- The position edits that a tree lacks, read off the answers of the tables. q k is asked of table k, table 0 being old, and m of the
-- table whose position facts are those of the tree; a is a fact, r a parent, p the one before, n a record, k a branch. Assumes nothing.
use mathlib.Core.Path.{◌≡◌, refl, sym, ◌∙◌, subst}
use mathlib.Core.Logic.{inl, inr}
use mathlib.Core.Bool.{not}
use mathlib.Core.List.Memᴰ
use mathlib.Core.List.{List, map}
use Prim.Native.Nat.{ℕ}
use lib.Dec.{T, T_not, not_T, eqb}
use mir.Facts.{and_yes, yes_and, no_eqb, eqb_no}
use Rattle.rules.specs.Lists.{◌∈◌, any}
use Rattle.rules.specs.Marks.{TOP, START}
use Rattle.rules.specs.Facts.{PositionFact, Facts, position, same_position, lacking}
use Rattle.rules.specs.Merge.{position_edits}
use Rattle.trees.proofs.Lists.{or_right, keep_in, keep_out}
use Rattle.trees.proofs.Kept.{has_in_lem, has_out}
use Rattle.trees.proofs.Disagreeing.{position_tells, parent_of}
use Rattle.facts.specs.Asked.{Asked}
use Rattle.facts.proofs.Views.{lists, View, after_low, has_after}
use Rattle.edits.specs.Least.{place}
use Rattle.edits.specs.Positions.{fresh_after}
use Rattle.edits.proofs.Branches.{IsBranch}
use Rattle.edits.proofs.Clashing.{Views, view_old, facts_at, is_edit, edit_is, fresh-after_edit, edit_after}
use Rattle.edits.proofs.Best.{PlaceIn, AtMost, place_in, place-le, lesser_in, lesser_left, lesser_right}
use Rattle.lost.specs.Lost.{lost_after, lost_position}

-- the parents of the edits that a tree with these facts lacks
abbrev pub lost_parents : Facts → List Facts → List PositionFact → List ℕ
lost_parents old branches tree = map parent_of (lacking same_position (position_edits old branches) tree)

module _ (q : ℕ → Asked) (old : Facts) (branches : List Facts) (w : Views q old branches) (m : Asked) (facts tree : List PositionFact)
    (vm : View m facts) (into : (a : PositionFact) → a ∈ tree → a ∈ facts) (back : (a : PositionFact) → a ∈ facts → a ∈ tree) where
  abbrev parents : List ℕ
  parents = lost_parents old branches tree

  after-lost : (k r p : ℕ) → IsBranch k → T (lost_after q m k r p) → r ∈ parents
  after-lost k r p b t =
      let c = and_yes (fresh_after q k r p) (not (eqb ((q k).after r p) (m.after r p))) t in
      let a = position r p ((q k).after r p) in
      let e = is_edit q old branches w k a (fresh-after_edit q old branches w k r p b c.0) in
      Memᴰ.map parent_of (keep_in (λ (x : PositionFact). not (any (same_position x) tree)) e
      (not_T (any (same_position a) tree) (λ y. eqb_no c.1 (sym (vm.to_after_lem a (into a (has_out position_tells tree y)))))))

  -- where it shows: at a fact of some branch
  lost_shows : (r : ℕ) → r ∈ parents
      → (k : ℕ) × IsBranch k × ((a : PositionFact) × (a ∈ facts_at old branches k) × (a.parent ≡ r) × T
      (lost_after q m k a.parent a.before))
  lost_shows r i =
      let x = Memᴰ.of_map parent_of (lacking same_position (position_edits old branches) tree) i in
      let a = x.0 in
      let y = keep_out (λ (z : PositionFact). not (any (same_position z) tree)) (position_edits old branches) x.1 in
      let e = edit_is q old branches w a y.0 in
      let v = w.view e.0 e.1.0.1 in
      let none : a ∈ facts → ⊥ = λ j. T_not (any (same_position a) tree) y.1 (has_in_lem position_tells (back a j)) in (
        e.0,
        e.1.0,
        (
          a,
          e.1.1,
          x.2,
          yes_and (fresh_after q e.0 a.parent a.before) _
              (edit_after (view_old q old branches w) v a e.1.1 e.1.2)
              (no_eqb (λ d. none (has_after vm a (after_low v a e.1.1) (sym d ∙ v.to_after_lem a e.1.1)))),
        ),
      )

  pub position_in : (k n : ℕ) → IsBranch k → PlaceIn parents (lost_position q m k n)
  position_in k n b =
      lesser_in parents (place (lost_after q m k ((q k).up n) n) ((q k).up n)) (place (lost_after q m k n START) n)
      (place_in parents (lost_after q m k ((q k).up n) n) ((q k).up n) (after-lost k ((q k).up n) n b))
      (place_in parents (lost_after q m k n START) n (after-lost k n START b))

  -- at a record's own follower, or at the start of its list
  pub position_met : (r : ℕ) → r ∈ parents → (k : ℕ) × IsBranch k × ((n : ℕ) × T (lists (q k) n) × AtMost (lost_position q m k n) r)
  position_met r i = let x = lost_shows r i in (x.0, x.1, at x.0 x.1 x.2.0 x.2.1 x.2.2 x.2.3)
    where
      at : (k : ℕ) → IsBranch k → (a : PositionFact) → a ∈ facts_at old branches k → a.parent ≡ r → T
          (lost_after q m k a.parent a.before)
          → (n : ℕ) × T (lists (q k) n) × AtMost (lost_position q m k n) r
      at k b a j e t =
          elim ((w.view k b.1).before_ok a j) [
            | inl y ↦ let n = a.before in
                let x = (w.view k b.1).owner a j n y (inl refl) in
                let u = (q k).up n in
                let le = place-le (lost_after q m k u n) u (subst (λ (z : ℕ). T (lost_after q m k z n)) (sym x.1) t) in (
                  n,
                  or_right (eqb n TOP) ((q k).has n) x.0,
                  lesser_left (place (lost_after q m k u n) u) (place (lost_after q m k n START) n) r
                      (subst (AtMost (place (lost_after q m k u n) u)) (x.1 ∙ e) le),
                )
            | inr y ↦ let p = a.parent in
                let le = place-le (lost_after q m k p START) p (subst (λ (z : ℕ). T (lost_after q m k p z)) y t) in (
                  p,
                  (w.view k b.1).listed a j,
                  lesser_right (place (lost_after q m k ((q k).up p) p) ((q k).up p)) (place (lost_after q m k p START) p) r
                      (subst (AtMost (place (lost_after q m k p START) p)) e le),
                )
          ]
