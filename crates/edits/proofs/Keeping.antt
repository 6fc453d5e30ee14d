-- Which old facts are kept, and who follows by the kept facts, read off the answers of the tables. q k is asked of table k, and table 0 is
-- old; a and b are facts, r is a parent, p the one before, s the one after, n a record, k a branch. Assumes nothing.
use mathlib.Core.Path.{◌≡◌, refl, sym, ◌∙◌, subst}
use mathlib.Core.Logic.{◌⊎◌, inl, inr, ◌↔◌}
use mathlib.Core.Bool.{Bool, true, false, not, ◌&&◌, cond}
use mathlib.Core.List.{List, map}
use Prim.Native.Nat.{ℕ, ◌<◌}
use native.Mathlib.Omega.{arith}
use lib.Dec.{T, eqb, ltb, eqb→eq, ltb→lt, lt→ltb, not_T, T_not}
use mir.Facts.{and_yes, yes_and, or_yes, yes_eqb}
use Rattle.rules.specs.Lists.{◌∈◌}
use Rattle.rules.specs.Marks.{START, END, is_record}
use Rattle.rules.specs.Facts.{PositionFact, ParentGiven, Facts, positions_of, position, parents_given, positions_disagree}
use Rattle.rules.specs.Merge.{position_edits, kept_positions}
use Rattle.trees.proofs.Marks.{record_low}
use Rattle.trees.proofs.Lists.{or_left, or_right, either, is_true}
use Rattle.trees.proofs.Kept.{Coherent, Agrees, kept_cases, edit_kept, old-kept}
use Rattle.trees.proofs.Disagreeing.{position_tells, positions_agree, one_after, one_before, one_parent, given_in, given_out, Given}
use Rattle.facts.specs.Asked.{Asked}
use Rattle.facts.proofs.Views.{lists, View, after_low, has_after, view_coherent}
use Rattle.edits.specs.Branches.{all_branches}
use Rattle.edits.specs.Positions.{fresh_after, after_source, knows, unknown, keeps, kept_old, kept_after}
use Rattle.edits.proofs.Branches.{IsBranch, first_yes, first_some, all-at, all_are}
use Rattle.edits.proofs.Clashing.{Views, view_old, is_edit, edit_is, fresh-after_edit, edit_after}

-- ---- what one table knows

module _ {q : Asked} {facts : List PositionFact} (v : View q facts) where
  abbrev Knows : ℕ → ℕ → Bool
  Knows r n = knows q.has r n

  -- both ends of a fact are known
  known_end : (a : PositionFact) → a ∈ facts → (n : ℕ) → (n ≡ a.before) ⊎ (n ≡ a.after) → T (knows q.has a.parent n)
  known_end a m n s = go (is_record n) refl
    where
      go : (t : Bool) → is_record n ≡ t → T (cond t (q.has n) (lists q a.parent))
      go true e = (v.owner a m n (subst T (sym e) tt) s).0
      go false e = v.listed a m

  -- a record in a fact of this table is known, under whatever parent
  known_record : (a : PositionFact) → a ∈ facts → (n r : ℕ) → T (is_record n) → (n ≡ a.before) ⊎ (n ≡ a.after) → T (knows q.has r n)
  known_record a m n r t s = rw (is_true (is_record n) t) (v.owner a m n t s).0

  -- what is known has a fact onward, or a fact from before
  leaves : (r p : ℕ) → T (is_record p) ⊎ (p ≡ START) → T (knows q.has r p)
      → (a : PositionFact) × (a ∈ facts) × (a.before ≡ p) × (T (is_record p) ⊎ (a.parent ≡ r))
  leaves r p s t = go (is_record p) refl s t
    where
      go : (b : Bool) → is_record p ≡ b → T (is_record p) ⊎ (p ≡ START) → T (cond b (q.has p) (lists q r))
          → (a : PositionFact) × (a ∈ facts) × (a.before ≡ p) × (T (is_record p) ⊎ (a.parent ≡ r))
      go true e s t = (
        position (q.up p) p (q.after (q.up p) p),
        v.from-after (q.up p) p (v.placed p t).1,
        refl,
        inl (subst T (sym e) tt),
      )
      go false e (inl k) t = absurd (subst T e k)
      go false e (inr k) t = (position r START (q.after r START), v.from-after r START (v.ends r t).0, sym k, inr refl)

  enters : (r s : ℕ) → T (is_record s) ⊎ (s ≡ END) → T (knows q.has r s)
      → (a : PositionFact) × (a ∈ facts) × (a.after ≡ s) × (T (is_record s) ⊎ (a.parent ≡ r))
  enters r s k t = go (is_record s) refl k t
    where
      go : (b : Bool) → is_record s ≡ b → T (is_record s) ⊎ (s ≡ END) → T (cond b (q.has s) (lists q r))
          → (a : PositionFact) × (a ∈ facts) × (a.after ≡ s) × (T (is_record s) ⊎ (a.parent ≡ r))
      go true e k t = (
        position (q.up s) (q.before (q.up s) s) s,
        v.from-before (q.up s) s (v.placed s t).2,
        refl,
        inl (subst T (sym e) tt),
      )
      go false e (inl k) t = absurd (subst T e k)
      go false e (inr k) t = (position r (q.before r END) END, v.from-before r END (v.ends r t).1, sym k, inr refl)

  -- a table that knows the place keeps a fact there only if it has it
  held : (r p s : ℕ) → T (is_record s) → T (knows q.has r p) → T (keeps q r p s) → T (q.has s)
  held r p s t k h =
      elim (or_yes (eqb (q.after r p) s) (unknown q.has r p s) h) [
        | inl e ↦ let a = position r p s in
            (v.owner a (has_after v a (record_low s t) (eqb→eq (q.after r p) s e)) s t (inr refl)).0
        | inr n ↦ absurd (T_not (Knows r p) (and_yes (not (Knows r p)) (not (Knows r s)) n).0 k)
      ]

-- ---- one old fact and one branch

module _ {o q : Asked} {old facts : List PositionFact} (vo : View o old) (v : View q facts) (a : PositionFact) (m : a ∈ old) where
  abbrev E : Bool
  E = eqb (q.after a.parent a.before) a.after

  abbrev P : Bool
  P = knows q.has a.parent a.before

  abbrev S : Bool
  S = knows q.has a.parent a.after

  -- a fact that the branch keeps disagrees with none of its facts
  keeps_agrees : T (keeps q a.parent a.before a.after) → (b : PositionFact) → b ∈ facts → T (positions_disagree a b) → ⊥
  keeps_agrees h b k t =
      elim (or_yes E (not P && not S) h) [
        | inl e ↦ view_coherent v a b (has_after v a (after_low vo a m) (eqb→eq _ _ e)) k t
        | inr n ↦ let w = and_yes (not P) (not S) n in none (T_not P w.0) (T_not S w.1)
      ]
    where
      same_parent : (T P → ⊥) → (T S → ⊥) → (g h : ParentGiven) → g ∈ parents_given a → h ∈ parents_given b → g.number ≡ h.number
          → g.parent ≡ h.parent
      same_parent np ns g h i j e = side (given_out g a i).2
        where
          w : Given h b
          w = given_out h b j

          side : (g.number ≡ a.before) ⊎ (g.number ≡ a.after) → g.parent ≡ h.parent
          side (inl u) =
              absurd (np (subst (λ (n : ℕ). T (knows q.has a.parent n)) (sym e ∙ u)
              (known_record v b k h.number a.parent w.1 w.2)))
          side (inr u) =
              absurd (ns (subst (λ (n : ℕ). T (knows q.has a.parent n)) (sym e ∙ u)
              (known_record v b k h.number a.parent w.1 w.2)))

      none : (T P → ⊥) → (T S → ⊥) → ⊥
      none np ns =
          positions_agree a b
          (λ e d. absurd (np (subst (λ (n : ℕ). T (knows q.has n a.before)) (sym e)
          (subst (λ (n : ℕ). T (knows q.has b.parent n)) (sym d) (known_end v b k b.before (inl refl))))))
          (λ e d. absurd (ns (subst (λ (n : ℕ). T (knows q.has n a.after)) (sym e)
          (subst (λ (n : ℕ). T (knows q.has b.parent n)) (sym d) (known_end v b k b.after (inr refl))))))
          (same_parent np ns) t

  -- and where no edit of the branch disagrees, the branch keeps it
  agrees_keeps : ((b : PositionFact) → b ∈ facts → (b ∈ old → ⊥) → T (positions_disagree a b) → ⊥)
      → T (keeps q a.parent a.before a.after)
  agrees_keeps h = go (either E)
    where
      -- a fact of the branch is old, or does not disagree
      calm : (b : PositionFact) → b ∈ facts → T (positions_disagree a b) → ⊥
      calm b k t = h b k (λ i. view_coherent vo a b m i t) t

      up_before : (b : PositionFact) → b ∈ facts → b.before ≡ a.before → T (is_record a.before) ⊎ (b.parent ≡ a.parent)
          → b.parent ≡ a.parent
      up_before b k e (inr d) = d
      up_before b k e (inl t) =
          sym (one_parent a b (calm b k) _ _ (given_in a.before a t (inl refl)) (given_in a.before b t (inl (sym e))) refl)

      up_after : (b : PositionFact) → b ∈ facts → b.after ≡ a.after → T (is_record a.after) ⊎ (b.parent ≡ a.parent)
          → b.parent ≡ a.parent
      up_after b k e (inr d) = d
      up_after b k e (inl t) =
          sym (one_parent a b (calm b k) _ _ (given_in a.after a t (inr refl)) (given_in a.after b t (inr (sym e))) refl)

      has : (b : PositionFact) → b ∈ facts → b.parent ≡ a.parent → b.before ≡ a.before → b.after ≡ a.after → T E
      has b k e d f = yes_eqb ((λ i. q.after (sym e i) (sym d i)) ∙ v.to_after_lem b k ∙ f)

      no_before : T (not E) → T P → ⊥
      no_before n t =
          let w = leaves v a.parent a.before (vo.before_ok a m) t in
          let e = up_before w.0 w.1 w.2 w.3 in
          T_not E n (has w.0 w.1 e w.2 (sym (one_after a w.0 (calm w.0 w.1) (sym e) (sym w.2))))

      no_after : T (not E) → T S → ⊥
      no_after n t =
          let w = enters v a.parent a.after (vo.after_ok a m) t in
          let e = up_after w.0 w.1 w.2 w.3 in
          T_not E n (has w.0 w.1 e (sym (one_before a w.0 (calm w.0 w.1) (sym e) (sym w.2))) w.2)

      go : T E ⊎ T (not E) → T (keeps q a.parent a.before a.after)
      go (inl t) = or_left E (not P && not S) t
      go (inr t) = or_right E (not P && not S) (yes_and (not P) (not S) (not_T P (no_before t)) (not_T S (no_after t)))

-- ---- all tables

module _ (q : ℕ → Asked) (old : Facts) (branches : List Facts) (w : Views q old branches) where
  abbrev vo : View (q 0) old.positions
  vo = view_old q old branches w

  abbrev KeptBy : ℕ → PositionFact → Type 0
  KeptBy k a = T (keeps (q k) a.parent a.before a.after)

  kept_edit : (a : PositionFact) → a ∈ position_edits old branches → a ∈ kept_positions old branches
  unfolding kept_positions position_edits
  kept_edit a m = edit_kept position_tells old.positions (map positions_of branches) positions_disagree a m

  keeps-kept : (a : PositionFact) → a ∈ old.positions → ((k : ℕ) → IsBranch k → KeptBy k a) → a ∈ kept_positions old branches
  unfolding kept_positions position_edits
  keeps-kept a m h =
      old-kept position_tells old.positions (map positions_of branches) positions_disagree a m (λ b i.
      let e = edit_is q old branches w b i in
      keeps_agrees vo (w.view e.0 e.1.0.1) a m (h e.0 e.1.0) b e.1.1)

  -- a kept fact is an edit, or an old fact with which no edit disagrees
  abbrev Split : PositionFact → Type 0
  Split a = (a ∈ position_edits old branches) ⊎ ((a ∈ old.positions) × Agrees positions_disagree a (position_edits old branches))

  kept_split : (a : PositionFact) → a ∈ kept_positions old branches → Split a
  unfolding kept_positions position_edits
  kept_split a m = kept_cases position_tells old.positions (map positions_of branches) positions_disagree a m

  kept-keeps : (a : PositionFact) → a ∈ old.positions → a ∈ kept_positions old branches → (k : ℕ) → IsBranch k → KeptBy k a
  kept-keeps a m i k b =
      elim (kept_split a i) [
        | inl e ↦ absurd ((edit_is q old branches w a e).1.2 m)
        | inr x ↦ agrees_keeps vo (w.view k b.1) a m (λ c j n. x.1 c (is_edit q old branches w k c (b, j, n)))
      ]

  -- an old fact is kept exactly if each branch has it or knows neither of its ends
  pub kept_rule : (a : PositionFact) → a ∈ old.positions → (a ∈ kept_positions old branches) ↔ ((k : ℕ) → IsBranch k → KeptBy k a)
  kept_rule a m = (kept-keeps a m, keeps-kept a m)

  -- ---- who follows

  module _ (r p : ℕ) where
    abbrev o : ℕ
    o = (q 0).after r p

    abbrev source : ℕ
    source = after_source q r p

    abbrev all : Bool
    all = all_branches (λ k. keeps (q k) r p o)

    abbrev InKept : ℕ → Type 0
    InKept s = 0 < s → position r p s ∈ kept_positions old branches

    -- what goes on is kept
    pub goes_kept : 0 < kept_after q r p → position r p (kept_after q r p) ∈ kept_positions old branches
    goes_kept = go (ltb 0 source) refl
      where
        old_goes : (b : Bool) → all ≡ b → InKept (cond b o 0)
        old_goes true e = λ h. keeps-kept (position r p o) (vo.from-after r p h)
            (λ k b. all-at (λ j. keeps (q j) r p o) k b (subst T (sym e) tt))
        old_goes false e = λ h. absurd (omega arith)

        go : (b : Bool) → ltb 0 source ≡ b → InKept (cond b ((q source).after r p) (kept_old q r p o))
        go true e = λ h.
            let f = first_yes (λ k. fresh_after q k r p) (ltb→lt 0 source (subst T (sym e) tt)) in
            kept_edit _ (is_edit q old branches w source (position r p ((q source).after r p))
            (fresh-after_edit q old branches w source r p f.1 f.0))
        go false e = old_goes all refl

    -- what is kept goes on
    kept_on : (s : ℕ) → position r p s ∈ kept_positions old branches → 0 < kept_after q r p
    kept_on s m = go (ltb 0 source) refl (kept_split (position r p s) m)
      where
        old-on : (b : Bool) → all ≡ b → position r p s ∈ old.positions → 0 < cond b o 0
        old-on true e i = subst (λ (n : ℕ). 0 < n) (sym (vo.to_after_lem (position r p s) i)) (after_low vo (position r p s) i)
        old-on false e i =
            absurd (subst T e (all_are (λ k. keeps (q k) r p o) (λ k b.
            subst (λ (n : ℕ). T (keeps (q k) r p n)) (sym (vo.to_after_lem (position r p s) i)) (kept-keeps (position r p s) i m k b))))

        go : (b : Bool) → ltb 0 source ≡ b → Split (position r p s) → 0 < cond b ((q source).after r p) (kept_old q r p o)
        go true e d =
            let f = first_yes (λ k. fresh_after q k r p) (ltb→lt 0 source (subst T (sym e) tt)) in
            ltb→lt 0 ((q source).after r p) (and_yes (ltb 0 ((q source).after r p)) _ f.0).0
        go false e (inl i) =
            let x = edit_is q old branches w (position r p s) i in
            let t = edit_after vo (w.view x.0 x.1.0.1) (position r p s) x.1.1 x.1.2 in
            absurd (subst T e (lt→ltb 0 source (first_some (λ k. fresh_after q k r p) x.0 x.1.0 t)))
        go false e (inr x) = old-on all refl x.0

    pub kept_goes : Coherent positions_disagree (kept_positions old branches) → (s : ℕ) → position r p s ∈ kept_positions old branches
        → kept_after q r p ≡ s
    kept_goes c s m =
        one_after (position r p (kept_after q r p)) (position r p s) (c _ _ (goes_kept (kept_on s m)) m) refl refl

  -- ---- whoever is reached is a record of a branch

  pub reach : (r p : ℕ) → (k : ℕ) × IsBranch k × T (knows (q k).has r p) → T (is_record (kept_after q r p))
      → (k : ℕ) × IsBranch k × T ((q k).has (kept_after q r p))
  reach r p (k, b, t) rec = go (kept_split (position r p (kept_after q r p)) m)
    where
      m : position r p (kept_after q r p) ∈ kept_positions old branches
      m = goes_kept r p (record_low (kept_after q r p) rec)

      go : Split (position r p (kept_after q r p)) → (k : ℕ) × IsBranch k × T ((q k).has (kept_after q r p))
      go (inl i) =
          let e = edit_is q old branches w (position r p (kept_after q r p)) i in
          (e.0, e.1.0, ((w.view e.0 e.1.0.1).owner (position r p (kept_after q r p)) e.1.1 (kept_after q r p) rec (inr refl)).0)
      go (inr i) =
          (k, b, held (w.view k b.1) r p (kept_after q r p) rec t (kept-keeps (position r p (kept_after q r p)) i.0 m k b))
