-- What the clashes of 22 and 23 are, read off the answers of the tables. q k is asked of table k, and table 0 is old; a and b are
-- facts, r is a parent, p the one before, s the one after, n a record, k a branch. Assumes nothing.
use mathlib.Core.Path.{◌≡◌, refl, sym, ap, ◌∙◌, subst}
use mathlib.Core.Logic.{◌⊎◌, inl, inr}
use mathlib.Core.Bool.{Bool, not, ◌&&◌, ◌||◌}
use mathlib.Core.List.{List, [], ◌∷◌, map}
use Prim.Native.Nat.{ℕ, ◌<◌}
use native.Mathlib.Omega.{arith}
use native.Mathlib.Decide.{ℕ_discrete}
use lib.Dec.{T, eqb, ltb, eqb→eq, eqb_refl, ltb→lt, lt→ltb}
use mir.Facts.{and_yes, yes_and, or_yes, no_eqb, eqb_no}
use lib.ListN.{length, length-map, get_or}
use Rattle.rules.specs.Lists.{◌∈◌}
use Rattle.rules.specs.Facts.{PositionFact, ParentGiven, Facts, positions_of, position, parent_given, parents_given, parents_differ}
use Rattle.rules.specs.Facts.{neighbours_disagree}
use Rattle.rules.specs.Merge.{position_edits, parent_clashes, neighbour_clashes}
use Rattle.trees.proofs.Lists.{or_left, or_right, flat_in, flat_out}
use Rattle.trees.proofs.Kept.{places_in, places_out}
use Rattle.trees.proofs.Disagreeing.{position_tells, given_in, given_out}
use Rattle.facts.specs.Memory.{TABLES, BRANCHES}
use Rattle.facts.specs.Asked.{Asked}
use Rattle.facts.proofs.Views.{View, after_low, before_low, has_after, has_before, given_up}
use Rattle.edits.specs.Positions.{fresh, fresh_after, fresh_before, claims, after_source, before_source, parent_source}
use Rattle.edits.specs.Positions.{two_followers, two_forerunners, two_parents}
use Rattle.edits.proofs.Branches.{IsBranch, first_yes, first_some}
use Rattle.edits.proofs.Telling.{edit_of, edit_out}

-- ---- new neighbours

fresh_out : (o s : ℕ) → T (fresh o s) → (0 < s) × (s ≡ o → ⊥)
fresh_out o s t = let w = and_yes (ltb 0 s) (not (eqb s o)) t in (ltb→lt 0 s w.0, eqb_no w.1)

fresh_in : (o s : ℕ) → 0 < s → (s ≡ o → ⊥) → T (fresh o s)
fresh_in o s h e = yes_and (ltb 0 s) (not (eqb s o)) (lt→ltb 0 s h) (no_eqb e)

-- ---- old and one branch

module _ {o q : Asked} {old facts : List PositionFact} (vo : View o old) (v : View q facts) where
  -- a new neighbour is an edit
  after_edit : (r p : ℕ) → T (fresh (o.after r p) (q.after r p))
      → (position r p (q.after r p) ∈ facts) × (position r p (q.after r p) ∈ old → ⊥)
  after_edit r p t = let w = fresh_out (o.after r p) (q.after r p) t in (v.from-after r p w.0, λ m. w.1 (sym (vo.to_after_lem _ m)))

  before_edit : (r s : ℕ) → T (fresh (o.before r s) (q.before r s))
      → (position r (q.before r s) s ∈ facts) × (position r (q.before r s) s ∈ old → ⊥)
  before_edit r s t = let w = fresh_out (o.before r s) (q.before r s) t in
      (v.from-before r s w.0, λ m. w.1 (sym (vo.to_before_lem _ m)))

  -- and an edit has new neighbours
  pub edit_after : (a : PositionFact) → a ∈ facts → (a ∈ old → ⊥)
      → T (fresh (o.after a.parent a.before) (q.after a.parent a.before))
  edit_after a m h =
      let e = v.to_after_lem a m in
      let low = after_low v a m in
      fresh_in (o.after a.parent a.before) (q.after a.parent a.before) (subst (λ (n : ℕ). 0 < n) (sym e) low)
      (λ d. h (has_after vo a low (sym d ∙ e)))

  edit_before : (a : PositionFact) → a ∈ facts → (a ∈ old → ⊥)
      → T (fresh (o.before a.parent a.after) (q.before a.parent a.after))
  edit_before a m h =
      let e = v.to_before_lem a m in
      let low = before_low v a m in
      fresh_in (o.before a.parent a.after) (q.before a.parent a.after) (subst (λ (n : ℕ). 0 < n) (sym e) low)
      (λ d. h (has_before vo a low (sym d ∙ e)))

  -- ---- records to which an edit gives a parent

  abbrev FreshAfter : ℕ → ℕ → Bool
  FreshAfter r n = fresh (o.after r n) (q.after r n)

  abbrev FreshBefore : ℕ → ℕ → Bool
  FreshBefore r n = fresh (o.before r n) (q.before r n)

  abbrev Claims : ℕ → Bool
  Claims n = q.has n && (FreshAfter (q.up n) n || FreshBefore (q.up n) n)

  claims_in : (a : PositionFact) → a ∈ facts → (a ∈ old → ⊥) → (g : ParentGiven) → g ∈ parents_given a
      → T (Claims g.number)
  claims_in a m h g i =
      let w = given_up v a m g i in
      let u = given_out g a i in
      let e : a.parent ≡ q.up g.number = sym (w.1 ∙ u.0) in
      yes_and (q.has g.number) (FreshAfter (q.up g.number) g.number || FreshBefore (q.up g.number) g.number) w.0
      (elim u.2 [
        | inl d ↦ or_left (FreshAfter (q.up g.number) g.number) (FreshBefore (q.up g.number) g.number)
            (subst (λ (z : ℕ). T (FreshAfter z g.number)) e (subst (λ (z : ℕ). T (FreshAfter a.parent z)) (sym d) (edit_after a m h)))
        | inr d ↦ or_right (FreshAfter (q.up g.number) g.number) (FreshBefore (q.up g.number) g.number)
            (subst (λ (z : ℕ). T (FreshBefore z g.number)) e
            (subst (λ (z : ℕ). T (FreshBefore a.parent z)) (sym d) (edit_before a m h)))
      ])

  claims_out : (n : ℕ) → T (Claims n)
      → (a : PositionFact) × (a ∈ facts) × (a ∈ old → ⊥) × (parent_given n (q.up n) ∈ parents_given a)
  claims_out n t =
      let w = and_yes (q.has n) (FreshAfter (q.up n) n || FreshBefore (q.up n) n) t in
      let i = (v.placed n w.0).0 in
      elim (or_yes (FreshAfter (q.up n) n) (FreshBefore (q.up n) n) w.1) [
        | inl f ↦ let a = position (q.up n) n (q.after (q.up n) n) in
            let x = after_edit (q.up n) n f in (a, x.0, x.1, given_in n a i (inl refl))
        | inr f ↦ let a = position (q.up n) (q.before (q.up n) n) n in
            let x = before_edit (q.up n) n f in (a, x.0, x.1, given_in n a i (inr refl))
      ]

-- ---- all tables

-- the position facts of table k
abbrev pub facts_at : Facts → List Facts → ℕ → List PositionFact
facts_at old branches k = get_or (old.positions ∷ map positions_of branches) k []

-- every table answers as its facts say
pub record Views (q : ℕ → Asked) (old : Facts) (branches : List Facts) : Type 0 where
  pub many : length branches ≡ BRANCHES
  pub view : (k : ℕ) → k < TABLES → View (q k) (facts_at old branches k)

module _ (q : ℕ → Asked) (old : Facts) (branches : List Facts) (w : Views q old branches) where
  counted : length (map positions_of branches) ≡ BRANCHES
  counted = length-map branches positions_of ∙ w.many

  pub view_old : View (q 0) old.positions
  view_old = w.view 0 (omega arith)

  -- an edit of branch k
  abbrev pub Edit : ℕ → PositionFact → Type 0
  Edit k a = IsBranch k × (a ∈ facts_at old branches k) × (a ∈ old.positions → ⊥)

  pub is_edit : (k : ℕ) (a : PositionFact) → Edit k a → a ∈ position_edits old branches
  unfolding position_edits
  is_edit k a e = edit_of position_tells old.positions (map positions_of branches) counted k a e

  pub edit_is : (a : PositionFact) → a ∈ position_edits old branches → (k : ℕ) × Edit k a
  unfolding position_edits
  edit_is a m = edit_out position_tells old.positions (map positions_of branches) counted a m

  pub fresh-after_edit : (k r p : ℕ) → IsBranch k → T (fresh_after q k r p) → Edit k (position r p ((q k).after r p))
  fresh-after_edit k r p b t = let x = after_edit view_old (w.view k b.1) r p t in (b, x.0, x.1)

  fresh-before_edit : (k r s : ℕ) → IsBranch k → T (fresh_before q k r s) → Edit k (position r ((q k).before r s) s)
  fresh-before_edit k r s b t = let x = before_edit view_old (w.view k b.1) r s t in (b, x.0, x.1)

  -- ---- 22

  pub parent_in : (k n : ℕ) → IsBranch k → T (two_parents q k n) → n ∈ parent_clashes old branches
  unfolding parent_clashes
  parent_in k n b t =
      let c = and_yes (claims q k n) (not (eqb ((q k).up n) ((q (parent_source q n)).up n))) t in
      let f = first_yes (λ j. claims q j n) (first_some (λ j. claims q j n) k b c.0) in
      let j = parent_source q n in
      let x = claims_out view_old (w.view k b.1) n c.0 in
      let y = claims_out view_old (w.view j f.1.1) n f.0 in
      let m = flat_in parents_given (is_edit k x.0 (b, x.1, x.2)) x.3 in
      let i = flat_in parents_given (is_edit j y.0 (f.1, y.1, y.2)) y.3 in
      places_in parents_differ (λ (g : ParentGiven). g.number) _ m i (yes_and (eqb n n) _ (eqb_refl n) c.1)

  pub parent_out : (n : ℕ) → n ∈ parent_clashes old branches → (k : ℕ) × IsBranch k × T (two_parents q k n)
  unfolding parent_clashes
  parent_out n m =
      let d = places_out parents_differ (λ (g : ParentGiven). g.number) _ m in
      let x = flat_out parents_given _ d.2 in
      let y = flat_out parents_given _ d.3 in
      let c = and_yes (eqb d.0.number d.1.number) (not (eqb d.0.parent d.1.parent)) d.4 in
      go d.0 d.1 d.5 (eqb→eq _ _ c.0) (eqb_no c.1) x.0 y.0 (edit_is x.0 x.1) (edit_is y.0 y.1) x.2
      y.2
    where
      -- branch k gives n another parent than the first branch that gives it one
      at : (k : ℕ) → IsBranch k → T (claims q k n) → ((q k).up n ≡ (q (parent_source q n)).up n → ⊥)
          → (j : ℕ) × IsBranch j × T (two_parents q j n)
      at k b c h = (k, b, yes_and (claims q k n) _ c (no_eqb h))

      go : (g h : ParentGiven) → g.number ≡ n → g.number ≡ h.number → (g.parent ≡ h.parent → ⊥) → (a b : PositionFact)
          → (k : ℕ) × (IsBranch k × (a ∈ facts_at old branches k) × (a ∈ old.positions → ⊥))
          → (k : ℕ) × (IsBranch k × (b ∈ facts_at old branches k) × (b ∈ old.positions → ⊥))
          → g ∈ parents_given a → h ∈ parents_given b → (j : ℕ) × IsBranch j × T (two_parents q j n)
      go g h en e ne a b (k, (bk, ma, na)) (j, (bj, mb, nb)) ga hb =
          let eh : h.number ≡ n = sym e ∙ en in
          let cg : T (claims q k n) = subst (λ (z : ℕ). T (claims q k z)) en (claims_in view_old (w.view k bk.1) a ma na g ga) in
          let ch : T (claims q j n) = subst (λ (z : ℕ). T (claims q j z)) eh (claims_in view_old (w.view j bj.1) b mb nb h hb) in
          let ug : (q k).up n ≡ g.parent = ap (q k).up (sym en) ∙ (given_up (w.view k bk.1) a ma g ga).1 in
          let uh : (q j).up n ≡ h.parent = ap (q j).up (sym eh) ∙ (given_up (w.view j bj.1) b mb h hb).1 in
          elim (ℕ_discrete ((q k).up n) ((q (parent_source q n)).up n)) [
            | no d ↦ at k bk cg d
            | yes d ↦ at j bj ch (λ d'. ne (sym ug ∙ d ∙ sym d' ∙ uh))
          ]

  -- ---- 23

  pub follower_in_lem : (k r p : ℕ) → IsBranch k → T (two_followers q k r p) → r ∈ neighbour_clashes old branches
  unfolding neighbour_clashes
  follower_in_lem k r p b t =
      let c = and_yes (fresh_after q k r p) (not (eqb ((q k).after r p) ((q (after_source q r p)).after r p))) t in
      let f = first_yes (λ j. fresh_after q j r p) (first_some (λ j. fresh_after q j r p) k b c.0) in
      let j = after_source q r p in
      let s = (q k).after r p in
      let u = (q j).after r p in
      let m = is_edit k (position r p s) (fresh-after_edit k r p b c.0) in
      let i = is_edit j (position r p u) (fresh-after_edit j r p f.1 f.0) in
      places_in neighbours_disagree (λ (a : PositionFact). a.parent) _ m i
      (yes_and (eqb r r) _ (eqb_refl r) (or_left (eqb p p && not (eqb s u)) (eqb s u && not (eqb p p))
      (yes_and (eqb p p) _ (eqb_refl p) c.1)))

  pub forerunner_in_lem : (k r s : ℕ) → IsBranch k → T (two_forerunners q k r s) → r ∈ neighbour_clashes old branches
  unfolding neighbour_clashes
  forerunner_in_lem k r s b t =
      let c = and_yes (fresh_before q k r s) (not (eqb ((q k).before r s) ((q (before_source q r s)).before r s))) t in
      let f = first_yes (λ j. fresh_before q j r s) (first_some (λ j. fresh_before q j r s) k b c.0) in
      let j = before_source q r s in
      let p = (q k).before r s in
      let u = (q j).before r s in
      let m = is_edit k (position r p s) (fresh-before_edit k r s b c.0) in
      let i = is_edit j (position r u s) (fresh-before_edit j r s f.1 f.0) in
      places_in neighbours_disagree (λ (a : PositionFact). a.parent) _ m i
      (yes_and (eqb r r) _ (eqb_refl r) (or_right (eqb p u && not (eqb s s)) (eqb s s && not (eqb p u))
      (yes_and (eqb s s) _ (eqb_refl s) c.1)))

  -- where a clash shows: at a fact of some branch
  abbrev Shows : ℕ → Type 0
  Shows r = (k : ℕ) × IsBranch k × ((a : PositionFact) × (a ∈ facts_at old branches k) × (a.parent ≡ r)
      × (T (two_followers q k a.parent a.before) ⊎ T (two_forerunners q k a.parent a.after)))

  two-after : (k : ℕ) (a : PositionFact) → Edit k a
      → ((q k).after a.parent a.before ≡ (q (after_source q a.parent a.before)).after a.parent a.before → ⊥) → Shows
      a.parent
  two-after k a (b, m, n) h = (
    k,
    b,
    (
      a,
      m,
      refl,
      inl (yes_and (fresh_after q k a.parent a.before) _ (edit_after view_old (w.view k b.1) a m n)
          (no_eqb h)),
    ),
  )

  two-before : (k : ℕ) (a : PositionFact) → Edit k a
      → ((q k).before a.parent a.after ≡ (q (before_source q a.parent a.after)).before a.parent a.after → ⊥) → Shows
      a.parent
  two-before k a (b, m, n) h = (
    k,
    b,
    (
      a,
      m,
      refl,
      inr (yes_and (fresh_before q k a.parent a.after) _ (edit_before view_old (w.view k b.1) a m n)
          (no_eqb h)),
    ),
  )

  differ_after : (k j : ℕ) (a b : PositionFact) → Edit k a → Edit j b → a.parent ≡ b.parent → a.before ≡ b.before →
      (a.after ≡ b.after → ⊥)
      → Shows a.parent
  differ_after k j a b ea eb r p ne =
      elim (ℕ_discrete ((q k).after a.parent a.before) ((q (after_source q a.parent a.before)).after a.parent a.before)) [
        | no d ↦ two-after k a ea d
        | yes d ↦ subst Shows (sym r) (two-after j b eb (λ e.
            ne (sym ((w.view k ea.0.1).to_after_lem a ea.1) ∙ d
            ∙ (λ i. (q (after_source q (r i) (p i))).after (r i) (p i)) ∙ sym e ∙ (w.view j eb.0.1).to_after_lem b eb.1)))
      ]

  differ_before : (k j : ℕ) (a b : PositionFact) → Edit k a → Edit j b → a.parent ≡ b.parent → a.after ≡ b.after →
      (a.before ≡ b.before → ⊥)
      → Shows a.parent
  differ_before k j a b ea eb r s ne =
      elim (ℕ_discrete ((q k).before a.parent a.after) ((q (before_source q a.parent a.after)).before a.parent a.after)) [
        | no d ↦ two-before k a ea d
        | yes d ↦ subst Shows (sym r) (two-before j b eb (λ e.
            ne (sym ((w.view k ea.0.1).to_before_lem a ea.1) ∙ d
            ∙ (λ i. (q (before_source q (r i) (s i))).before (r i) (s i)) ∙ sym e ∙ (w.view j eb.0.1).to_before_lem b eb.1)))
      ]

  pub neighbour_out : (r : ℕ) → r ∈ neighbour_clashes old branches → Shows r
  unfolding neighbour_clashes
  neighbour_out r m =
      let d = places_out neighbours_disagree (λ (a : PositionFact). a.parent) _ m in
      let a = d.0 in
      let b = d.1 in
      let same_before = eqb a.before b.before in
      let same_after = eqb a.after b.after in
      let x = edit_is a d.2 in
      let y = edit_is b d.3 in
      let c = and_yes (eqb a.parent b.parent) ((same_before && not same_after) || (same_after && not same_before)) d.4 in
      let e = eqb→eq a.parent b.parent c.0 in
      subst Shows d.5 (elim (or_yes (same_before && not same_after) (same_after && not same_before) c.1) [
        | inl t ↦ let u = and_yes same_before (not same_after) t in
            differ_after x.0 y.0 a b x.1 y.1 e (eqb→eq a.before b.before u.0) (eqb_no u.1)
        | inr t ↦ let u = and_yes same_after (not same_before) t in
            differ_before x.0 y.0 a b x.1 y.1 e (eqb→eq a.after b.after u.0) (eqb_no u.1)
      ])
