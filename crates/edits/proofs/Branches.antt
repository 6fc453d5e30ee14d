-- The first branch that passes a test, the test of all branches, and how a loop over the branches finds them. k and t are tables, m is a
-- count of tables, v has a number for each table. Assumes nothing.
use mathlib.Core.Path.{◌≡◌, refl, sym, ap, ◌∙◌, subst}
use mathlib.Core.Bool.{Bool, true, false, cond}
use Prim.Native.Nat.{ℕ, zero, suc, ◌+◌, ◌-◌, ◌<◌, ◌≤◌}
use native.Mathlib.Omega.{arith}
use native.Mathlib.Decide.{ℕ_discrete}
use native.Mathlib.Numerals.{suc-eq-add-one}
use lib.Dec.{T}
use mir.Facts.{and_yes, yes_and}
use Rattle.facts.specs.Memory.{TABLES, BRANCHES}
use Rattle.edits.specs.Branches.{first_from, first_branch, all_from, all_branches}
use Rattle.edits.specs.Positions.{fresh}

abbrev pub IsBranch : ℕ → Type 0
IsBranch k = (0 < k) × (k < TABLES)

module _ (test : ℕ → Bool) where
  -- ---- the first that passes

  Found : ℕ → ℕ → ℕ → Type 0
  Found k m f = 0 < f → T (test f) × (k ≤ f) × (f < k + m)

  found : (k m : ℕ) → Found k m (first_from test k m)
  unfolding Found
  found k zero = λ h. absurd (omega arith)
  found k (suc m) = go (test k) refl (found (suc k) m)
    where
      go : (b : Bool) → test k ≡ b → Found (suc k) m (first_from test (suc k) m) → Found k (suc m) (cond b k (first_from test (suc k) m))
      go true e w = λ h. (subst T (sym e) tt, omega arith, omega arith)
      go false e w = λ h. let x = w h in (x.0, omega (arith, x.1), omega (arith, x.2))

  some_found : (k m j : ℕ) → 0 < k → k ≤ j → j < k + m → T (test j) → 0 < first_from test k m
  some_found k zero j low a b t = absurd (omega arith)
  some_found k (suc m) j low a b t = go (test k) refl (ℕ_discrete k j) (λ h. some_found (suc k) m j (omega arith) h (omega arith) t)
    where
      go : (c : Bool) → test k ≡ c → Dec (k ≡ j) → (suc k ≤ j → 0 < first_from test (suc k) m) → 0 < cond c k (first_from test (suc k) m)
      go true e d rest = low
      go false e (yes d) rest = absurd (subst T e (subst (λ (i : ℕ). T (test i)) (sym d) t))
      go false e (no d) rest = rest (omega (arith, d))

  pub first_yes : 0 < first_branch test → T (test (first_branch test)) × IsBranch (first_branch test)
  unfolding Found
  first_yes h = let x = found 1 BRANCHES h in (x.0, (h, omega (arith, x.2)))

  pub first_some : (k : ℕ) → IsBranch k → T (test k) → 0 < first_branch test
  first_some k b t = some_found 1 BRANCHES k (omega arith) (omega (arith, b.0)) (omega (arith, b.1)) t

  -- ---- all of them

  all_out : (k m j : ℕ) → T (all_from test k m) → k ≤ j → j < k + m → T (test j)
  all_out k zero j t a b = absurd (omega arith)
  all_out k (suc m) j t a b =
      let both = and_yes (test k) (all_from test (suc k) m) t in
      elim (ℕ_discrete k j) [
        | yes d ↦ subst (λ (i : ℕ). T (test i)) d both.0
        | no d ↦ all_out (suc k) m j both.1 (omega (arith, d)) (omega arith)
      ]

  all_in : (k m : ℕ) → ((j : ℕ) → k ≤ j → j < k + m → T (test j)) → T (all_from test k m)
  all_in k zero h = tt
  all_in k (suc m) h =
      yes_and (test k) (all_from test (suc k) m) (h k (omega arith) (omega arith))
      (all_in (suc k) m (λ j a b. h j (omega arith) (omega arith)))

  pub all-at : (k : ℕ) → IsBranch k → T (all_branches test) → T (test k)
  all-at k b t = all_out 1 BRANCHES k t (omega (arith, b.0)) (omega (arith, b.1))

  pub all_are : ((k : ℕ) → IsBranch k → T (test k)) → T (all_branches test)
  all_are h = all_in 1 BRANCHES (λ j a b. h j (omega arith, omega arith))

  -- ---- found by a loop

  -- the first from t on is the first of all
  pub record Left (t : ℕ) : Type 0 where
    pub low : 0 < t
    pub same : first_from test t (TABLES - t) ≡ first_branch test

  pub left-start : Left 1
  left-start = record { low = omega arith; same = refl }

  step : (t : ℕ) → t < TABLES → first_from test t (TABLES - t) ≡ cond (test t) t (first_from test (t + 1) (TABLES - (t + 1)))
  step t h = go (TABLES - t) (TABLES - (t + 1)) (omega arith)
    where
      go : (m l : ℕ) → m ≡ suc l → first_from test t m ≡ cond (test t) t (first_from test (t + 1) l)
      go m l e = ap (first_from test t) e ∙ ap (λ (j : ℕ). cond (test t) t (first_from test j l)) (suc-eq-add-one t)

  pub left_here : (t : ℕ) (z : Bool) → Left t → t < TABLES → z ≡ test t → z ≡ true → t ≡ first_branch test
  left_here t z w h e y = sym (step t h ∙ ap (λ (b : Bool). cond b t (first_from test (t + 1) (TABLES - (t + 1)))) (sym e ∙ y)) ∙ w.same

  pub left-on : (t : ℕ) (z : Bool) → Left t → t < TABLES → z ≡ test t → z ≡ false → Left (t + 1)
  left-on t z w h e y = record {
    low = omega arith;
    same = sym (step t h ∙ ap (λ (b : Bool). cond b t (first_from test (t + 1) (TABLES - (t + 1)))) (sym e ∙ y)) ∙ w.same;
  }

  pub left_end : (t : ℕ) → Left t → TABLES ≤ t → 0 ≡ first_branch test
  left_end t w h = let e : TABLES - t ≡ 0 = omega arith in sym (ap (first_from test t) e) ∙ w.same

-- ---- where the test is whether a number is new

module _ (v : ℕ → ℕ) (o : ℕ) where
  pub fresh_here : (t s : ℕ) (z : Bool) → Left (λ k. fresh o (v k)) t → t < TABLES → s ≡ v t → z ≡ fresh o s → z ≡ true
      → t ≡ first_branch (λ k. fresh o (v k))
  fresh_here t s z w h e f y = left_here (λ k. fresh o (v k)) t z w h (f ∙ ap (fresh o) e) y

  pub fresh_on : (t s : ℕ) (z : Bool) → Left (λ k. fresh o (v k)) t → t < TABLES → s ≡ v t → z ≡ fresh o s → z ≡ false
      → Left (λ k. fresh o (v k)) (t + 1)
  fresh_on t s z w h e f y = left-on (λ k. fresh o (v k)) t z w h (f ∙ ap (fresh o) e) y
