-- The loop that finds the first branch that passes a test and the sum of all that do. k and t are tables, m is a count of tables, `table`
-- is the first branch so far, or 0, `origin` the sum so far. Assumes nothing.
use mathlib.Core.Path.{◌≡◌, refl, sym, ap, ◌∙◌}
use mathlib.Core.Bool.{Bool, true, false, cond}
use Prim.Native.Nat.{ℕ, zero, suc, ◌+◌, ◌-◌, ◌<◌, ◌≤◌}
use native.Mathlib.Omega.{arith}
use native.Mathlib.Numerals.{suc-eq-add-one}
use mir.Val.{Fits}
use mir.Syntax.{w64}
use Rattle.facts.specs.Memory.{TABLES, BRANCHES}
use Rattle.edits.specs.Branches.{first_from, first_branch, sum_from, sum_branches}

-- ---- two tests that answer the same of each branch

module _ (f g : ℕ → Bool) where
  first-from : (k m : ℕ) → ((j : ℕ) → k ≤ j → j < k + m → f j ≡ g j) → first_from f k m ≡ first_from g k m
  first-from k zero e = refl
  first-from k (suc m) e =
      λ i. cond (e k (omega arith) (omega arith) i) k (first-from (suc k) m (λ j a b. e j (omega arith) (omega arith)) i)

  sum-from : (k m : ℕ) → ((j : ℕ) → k ≤ j → j < k + m → f j ≡ g j) → sum_from f k m ≡ sum_from g k m
  sum-from k zero e = refl
  sum-from k (suc m) e =
      λ i. cond (e k (omega arith) (omega arith) i) k 0 + sum-from (suc k) m (λ j a b. e j (omega arith) (omega arith)) i

  module _ (e : (k : ℕ) → 0 < k → k < TABLES → f k ≡ g k) where
    pub first-same : first_branch f ≡ first_branch g
    first-same = first-from 1 BRANCHES (λ j a b. e j (omega arith) (omega arith))

    pub sum_same : sum_branches f ≡ sum_branches g
    sum_same = sum-from 1 BRANCHES (λ j a b. e j (omega arith) (omega arith))

-- ---- the sum

-- no more than if all pass
sum_few : (test : ℕ → Bool) (k m : ℕ) → sum_from test k m ≤ sum_from (λ j. true) k m
sum_few test k zero = omega arith
sum_few test k (suc m) = step (test k) (sum_few test (suc k) m)
  where
    step : (b : Bool) → sum_from test (suc k) m ≤ sum_from (λ j. true) (suc k) m
        → cond b k 0 + sum_from test (suc k) m ≤ k + sum_from (λ j. true) (suc k) m
    step true h = omega arith
    step false h = omega arith

module _ (test : ℕ → Bool) where
  sum_bound : sum_branches test ≤ 3
  sum_bound = sum_few test 1 BRANCHES

  sum_step : (t : ℕ) → t < TABLES → sum_from test t (TABLES - t) ≡ cond (test t) t 0 + sum_from test (t + 1) (TABLES - (t + 1))
  sum_step t h = go (TABLES - t) (TABLES - (t + 1)) (omega arith)
    where
      go : (m l : ℕ) → m ≡ suc l → sum_from test t m ≡ cond (test t) t 0 + sum_from test (t + 1) l
      go m l e = ap (sum_from test t) e ∙ ap (λ (j : ℕ). cond (test t) t 0 + sum_from test j l) (suc-eq-add-one t)

  -- ---- the loop

  -- the sum of the branches before t
  pub Summing : (t origin : ℕ) → Type 0
  Summing t origin = origin + sum_from test t (TABLES - t) ≡ sum_branches test

  pub sum_start : Summing 1 0
  unfolding Summing
  sum_start = omega arith

  pub sum_small : (t origin : ℕ) → Summing t origin → origin ≤ 3
  unfolding Summing
  sum_small t origin w = omega (arith, w, sum_bound)

  pub sum_fits : (t origin s : ℕ) → t < TABLES → s ≡ t → Summing t origin → Fits w64 (origin + s)
  sum_fits t origin s h e w = record { fits = omega (arith, sum_small t origin w, h, e) }

  pub sum_on : (t origin s : ℕ) (z b : Bool) → t < TABLES → s ≡ t → Summing t origin → z ≡ test t → z ≡ b
      → Summing (t + 1) (origin + cond b s 0)
  unfolding Summing
  sum_on t origin s z b h e w asked y =
      let next : sum_from test t (TABLES - t) ≡ cond b t 0 + sum_from test (t + 1) (TABLES - (t + 1)) =
      sum_step t h ∙ ap (λ (c : Bool). cond c t 0 + sum_from test (t + 1) (TABLES - (t + 1))) (sym asked ∙ y) in
      let same : cond b s 0 ≡ cond b t 0 = ap (λ (k : ℕ). cond b k 0) e in
      omega (arith, next, w, same)

  pub sum_end : (t origin : ℕ) → TABLES ≤ t → Summing t origin → origin ≡ sum_branches test
  unfolding Summing
  sum_end t origin h w =
      let m : TABLES - t ≡ 0 = omega (arith, h) in
      let none : sum_from test t (TABLES - t) ≡ 0 = ap (sum_from test t) m in
      omega (arith, none, w)

  -- where none passes, the sum is 0
  pub no_sum : first_branch test ≡ 0 → sum_branches test ≡ 0
  no_sum = go (test 1) (test 2)
    where
      one : ◌≡◌ {A = ℕ} 1 0 → ⊥
      one e = omega (arith, e)

      two : ◌≡◌ {A = ℕ} 2 0 → ⊥
      two e = omega (arith, e)

      go : (a b : Bool) → ◌≡◌ {A = ℕ} (cond a 1 (cond b 2 0)) 0 → ◌≡◌ {A = ℕ} (cond a 1 0 + (cond b 2 0 + 0)) 0
      go true b e = absurd (one e)
      go false true e = absurd (two e)
      go false false e = refl
