-- The least record with two parents, and the least parent whose list is torn, by a fixed number of questions on each line of each branch.
-- q k is asked of table k, `number k i` is the number on its line i, `counts k` how many records it has. Assumes nothing.
use mathlib.Core.Path.{◌≡◌, refl, sym, subst}
use mathlib.Core.Logic.{◌⊎◌, inl, inr}
use mathlib.Core.List.{List}
use Prim.Native.Nat.{ℕ, suc, ◌<◌}
use lib.Dec.{T, eqb}
use mir.Facts.{and_yes, or_yes}
use Rattle.rules.specs.Lists.{◌∈◌}
use Rattle.rules.specs.Marks.{TOP, START, END, is_record}
use Rattle.rules.specs.Facts.{PositionFact, Facts}
use Rattle.rules.specs.Merge.{parent_clashes, neighbour_clashes}
use Rattle.trees.proofs.Lists.{or_left, or_right}
use Rattle.facts.specs.Memory.{TABLES}
use Rattle.facts.specs.Asked.{Asked}
use Rattle.facts.proofs.Views.{lists}
use Rattle.edits.specs.Least.{least_or_none, place, best_of}
use Rattle.edits.specs.Positions.{claims, two_parents, two_followers, two_forerunners, torn, parent_place, neighbour_place}
use Rattle.edits.proofs.Branches.{IsBranch}
use Rattle.edits.proofs.Clashing.{Views, facts_at, parent_in, parent_out, follower_in_lem, forerunner_in_lem, neighbour_out}
use Rattle.edits.proofs.Best.{PlaceIn, AtMost, place_in, place-le, lesser_in, lesser_left, lesser_right, best_of_is}

-- every list's parent stands on a line
abbrev pub Met : (ℕ → Asked) → (ℕ → ℕ → ℕ) → (ℕ → ℕ) → Type 0
Met q number counts = (k : ℕ) → k < TABLES → (n : ℕ) → T (lists (q k) n) → (i : ℕ) × (i < suc (counts k)) × (number k i ≡ n)

module _ (q : ℕ → Asked) (old : Facts) (branches : List Facts) (w : Views q old branches) where
  has_of : (k n : ℕ) → T (two_parents q k n) → T ((q k).has n)
  has_of k n t = (and_yes ((q k).has n) _ (and_yes (claims q k n) _ t).0).0

-- ---- the least of them

module _ (q : ℕ → Asked) (old : Facts) (branches : List Facts) (w : Views q old branches) (number : ℕ → ℕ → ℕ) (counts : ℕ → ℕ)
    (met : Met q number counts) where
  pub least-parents : best_of (λ k i. parent_place q k (number k i)) counts ≡ least_or_none (parent_clashes old branches)
  least-parents =
      best_of_is (parent_clashes old branches) (λ k i. parent_place q k (number k i)) counts
      (λ k i b. place_in _ (two_parents q k (number k i)) (number k i) (parent_in q old branches w k (number k i) b)) found
    where
      found : (n : ℕ) → n ∈ parent_clashes old branches
          → (k : ℕ) × IsBranch k × ((i : ℕ) × (i < suc (counts k)) × AtMost (parent_place q k (number k i)) n)
      found n m =
          let x = parent_out q old branches w n m in
          let k = x.0 in
          let i = met k x.1.1 n (or_right (eqb n TOP) ((q k).has n) (has_of q old branches w k n x.2)) in
          (k, x.1, (i.0, i.1, subst (λ (z : ℕ). AtMost (parent_place q k z) n) (sym i.2) (place-le (two_parents q k n) n x.2)))

  -- where a torn list shows: at a record's own neighbours, or at the ends of its list
  beside : (k : ℕ) (a : PositionFact) → k < TABLES → a ∈ facts_at old branches k → (n : ℕ) → T (is_record n) → (n ≡ a.before) ⊎
      (n ≡ a.after)
      → T (torn q k a.parent n n) → (n : ℕ) × T (lists (q k) n) × AtMost (neighbour_place q k n) a.parent
  beside k a h m n i s t =
      let x = (w.view k h).owner a m n i s in
      let le = place-le (torn q k ((q k).up n) n n) ((q k).up n) (subst (λ (r : ℕ). T (torn q k r n n)) (sym x.1) t) in (
        n,
        or_right (eqb n TOP) ((q k).has n) x.0,
        lesser_left (place (torn q k ((q k).up n) n n) ((q k).up n)) (place (torn q k n START END) n) a.parent
            (subst (λ (z : ℕ). AtMost (place (torn q k ((q k).up n) n n) ((q k).up n)) z) x.1 le),
      )

  within : (k : ℕ) (a : PositionFact) → k < TABLES → a ∈ facts_at old branches k → T (torn q k a.parent START END)
      → (n : ℕ) × T (lists (q k) n) × AtMost (neighbour_place q k n) a.parent
  within k a h m t =
      let r = a.parent in (
        r,
        (w.view k h).listed a m,
        lesser_right (place (torn q k ((q k).up r) r r) ((q k).up r)) (place (torn q k r START END) r) r
            (place-le (torn q k r START END) r t),
      )

  shown : (k : ℕ) (a : PositionFact) → k < TABLES → a ∈ facts_at old branches k
      → T (two_followers q k a.parent a.before) ⊎ T (two_forerunners q k a.parent a.after)
      → (n : ℕ) × T (lists (q k) n) × AtMost (neighbour_place q k n) a.parent
  shown k a h m (inl t) =
      elim ((w.view k h).before_ok a m) [
        | inl i ↦ beside k a h m a.before i (inl refl) (or_left (two_followers q k a.parent a.before) _ t)
        | inr e ↦ within k a h m
            (or_left (two_followers q k a.parent START) _ (subst (λ (p : ℕ). T (two_followers q k a.parent p)) e t))
      ]
  shown k a h m (inr t) =
      elim ((w.view k h).after_ok a m) [
        | inl i ↦ beside k a h m a.after i (inr refl) (or_right (two_followers q k a.parent a.after) _ t)
        | inr e ↦ within k a h m
            (or_right (two_followers q k a.parent START) _ (subst (λ (s : ℕ). T (two_forerunners q k a.parent s)) e t))
      ]

  pub least_neighbours : best_of (λ k i. neighbour_place q k (number k i)) counts ≡ least_or_none (neighbour_clashes old branches)
  least_neighbours =
      best_of_is (neighbour_clashes old branches) (λ k i. neighbour_place q k (number k i)) counts
      (λ k i b. here k (number k i) b) found
    where
      tears : (k r p s : ℕ) → IsBranch k → T (torn q k r p s) → r ∈ neighbour_clashes old branches
      tears k r p s b t =
          elim (or_yes (two_followers q k r p) (two_forerunners q k r s) t) [
            | inl u ↦ follower_in_lem q old branches w k r p b u
            | inr u ↦ forerunner_in_lem q old branches w k r s b u
          ]

      here : (k n : ℕ) → IsBranch k → PlaceIn (neighbour_clashes old branches) (neighbour_place q k n)
      here k n b =
          lesser_in _ (place (torn q k ((q k).up n) n n) ((q k).up n)) (place (torn q k n START END) n)
          (place_in _ (torn q k ((q k).up n) n n) ((q k).up n) (tears k ((q k).up n) n n b))
          (place_in _ (torn q k n START END) n (tears k n START END b))

      found : (r : ℕ) → r ∈ neighbour_clashes old branches
          → (k : ℕ) × IsBranch k × ((i : ℕ) × (i < suc (counts k)) × AtMost (neighbour_place q k (number k i)) r)
      found r m =
          let x = neighbour_out q old branches w r m in
          let k = x.0 in
          let a = x.2.0 in
          let s = shown k a x.1.1 x.2.1 x.2.3 in
          let i = met k x.1.1 s.0 s.1 in (
            k,
            x.1,
            (
              i.0,
              i.1,
              subst (λ (z : ℕ). AtMost (neighbour_place q k (number k i.0)) z) x.2.2
                  (subst (λ (z : ℕ). AtMost (neighbour_place q k z) a.parent) (sym i.2) s.2),
            ),
          )
