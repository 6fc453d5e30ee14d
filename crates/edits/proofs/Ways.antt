-- What each question on the tables answers, way by way through its code: the premises are what the code has tested and asked. A and B
-- are what is to be answered, z and w what was; o, s, u are neighbours, r is a parent, n a record. Assumes nothing.
use mathlib.Core.Path.{◌≡◌, refl, sym, ap, ◌∙◌}
use mathlib.Core.Bool.{Bool, true, false, not, ◌&&◌, ◌||◌, cond, and-true, and_assoc}
use Prim.Native.Nat.{ℕ, suc, ◌+◌, ◌-◌, ◌<◌, ◌≤◌}
use native.Mathlib.Omega.{arith}
use native.Mathlib.Numerals.{add-one}
use lib.Dec.{eqb, ltb}
use borrow.Author.Tests.{lt-ltb}
use Rattle.facts.specs.Memory.{TABLES}
use Rattle.facts.specs.Asked.{Asked}
use Rattle.edits.specs.Branches.{first_branch, all_from, all_branches}
use Rattle.edits.specs.Positions.{fresh, unknown, keeps}
use Rattle.edits.specs.Positions.{kept_after}
use Rattle.edits.proofs.Branches.{Left, left-start, fresh_here, fresh_on, left_end}

pub and_then : (A B z w : Bool) → z ≡ A → z ≡ true → w ≡ B → w ≡ (A && B)
and_then A B z w e t f = rw (← e, t) f

pub and_stop : (A B z : Bool) → z ≡ A → z ≡ false → false ≡ (A && B)
and_stop A B z e t = rw (← e, t)

pub fresh_of : (a b o s : ℕ) (z : Bool) → o ≡ a → s ≡ b → z ≡ fresh o s → z ≡ fresh a b
fresh_of a b o s z e f g = g ∙ (λ i. fresh (e i) (f i))

-- a neighbour b that is new beside old's a, compared with the neighbour c elsewhere
module _ (a b c o s : ℕ) (z : Bool) (eo : o ≡ a) (es : s ≡ b) (ez : z ≡ fresh o s) where
  pub new_differs : (u : ℕ) → z ≡ true → u ≡ c → not (eqb s u) ≡ (fresh a b && not (eqb b c))
  new_differs u y eu =
      and_then (fresh a b) (not (eqb b c)) z (not (eqb s u)) (fresh_of a b o s z eo es ez) y (λ i. not (eqb (es i) (eu i)))

  pub not_new : z ≡ false → false ≡ (fresh a b && not (eqb b c))
  not_new y = and_stop (fresh a b) (not (eqb b c)) z (fresh_of a b o s z eo es ez) y

-- with that of the first branch that has a new one; v has a neighbour for each table
pub first_differs : (v : ℕ → ℕ) (o t s k u : ℕ) (z : Bool) → o ≡ v 0 → s ≡ v t → z ≡ fresh o s → z ≡ true
    → k ≡ first_branch (λ j. fresh o (v j)) → u ≡ v k
    → not (eqb s u) ≡ (fresh (v 0) (v t) && not (eqb (v t) (v (first_branch (λ j. fresh (v 0) (v j))))))
first_differs v o t s k u z eo es ez y ek eu =
    new_differs (v 0) (v t) (v (first_branch (λ j. fresh (v 0) (v j)))) o s z eo es ez u y
    (eu ∙ ap v ek ∙ ap (λ (x : ℕ). v (first_branch (λ j. fresh x (v j)))) eo)

module _ (q : ℕ → Asked) where
  -- ---- the loop over the branches for the kept follower

  module _ (r p : ℕ) where
    abbrev old : ℕ
    old = (q 0).after r p

    -- no branch before t has an edit, and `kept` tells whether they keep old's fact
    pub record Going (o : ℕ) (kept : Bool) (t : ℕ) : Type 0 where
      pub left : Left (λ k. fresh o ((q k).after r p)) t
      pub so_far : (kept && all_from (λ k. keeps (q k) r p o) t (TABLES - t)) ≡ all_branches (λ k. keeps (q k) r p o)

    pub going_start : (o : ℕ) → Going o true 1
    going_start o = record { left = left-start (λ k. fresh o ((q k).after r p)); so_far = refl }

    pub going_here : (o t s : ℕ) (kept z : Bool) → Going o kept t → o ≡ (q 0).after r p → t < TABLES → s ≡ (q t).after r p
        → z ≡ fresh o s → z ≡ true → s ≡ kept_after q r p
    going_here o t s kept z w eo h es ez y =
        let e : t ≡ first_branch (λ k. fresh o ((q k).after r p)) = fresh_here (λ k. (q k).after r p) o t s z w.left h es ez y in
        let f : t ≡ first_branch (λ k. fresh old ((q k).after r p)) = e
        ∙ ap (λ (x : ℕ). first_branch (λ k. fresh x ((q k).after r p))) eo in
        es ∙ ap (λ (k : ℕ). (q k).after r p) f ∙ picked (first_branch (λ k. fresh old ((q k).after r p))) (omega (arith, f, w.left.low))
      where
        picked : (k : ℕ) → 0 < k → (q k).after r p ≡ cond (ltb 0 k) ((q k).after r p)
            (cond (all_branches (λ j. keeps (q j) r p ((q 0).after r p))) ((q 0).after r p) 0)
        picked k h = rw (lt-ltb 0 k h)

    pub going_on : (o t s : ℕ) (kept kept' z : Bool) → Going o kept t → t < TABLES → s ≡ (q t).after r p → z ≡ fresh o s → z ≡ false
        → kept' ≡ (kept && (eqb s o || unknown (q t).has r p o)) → Going o kept' (t + 1)
    going_on o t s kept kept' z w h es ez y ek = record {
      left = fresh_on (λ k. (q k).after r p) o t s z w.left h es ez y;
      so_far = step (TABLES - t) (TABLES - (t + 1)) (omega arith) w.so_far;
    }
      where
        step : (m l : ℕ) → m ≡ suc l → (kept && all_from (λ k. keeps (q k) r p o) t m) ≡ all_branches (λ k. keeps (q k) r p o)
            → (kept' && all_from (λ k. keeps (q k) r p o) (t + 1) l) ≡ all_branches (λ k. keeps (q k) r p o)
        step m l e g =
            ap (λ (b : Bool). b && all_from (λ k. keeps (q k) r p o) (t + 1) l)
            (ek ∙ ap (λ (x : ℕ). kept && (eqb x o || unknown (q t).has r p o)) es)
            ∙ and_assoc kept (keeps (q t) r p o) (all_from (λ k. keeps (q k) r p o) (t + 1) l)
            ∙ ap (λ (j : ℕ). kept && (keeps (q t) r p o && all_from (λ k. keeps (q k) r p o) j l)) (add-one t)
            ∙ ap (λ (j : ℕ). kept && all_from (λ k. keeps (q k) r p o) t j) (sym e)
            ∙ g

    going_all : (o t : ℕ) (kept : Bool) → Going o kept t → TABLES ≤ t → all_branches (λ k. keeps (q k) r p o) ≡ kept
    going_all o t kept w h = sym (go (TABLES - t) (omega arith) w.so_far)
      where
        go : (m : ℕ) → m ≡ 0 → (kept && all_from (λ k. keeps (q k) r p o) t m) ≡ all_branches (λ k. keeps (q k) r p o)
            → kept ≡ all_branches (λ k. keeps (q k) r p o)
        go m e g = sym (and-true kept) ∙ ap (λ (j : ℕ). kept && all_from (λ k. keeps (q k) r p o) t j) (sym e) ∙ g

    pub going_end : (o t : ℕ) (kept : Bool) → Going o kept t → o ≡ (q 0).after r p → TABLES ≤ t → cond kept o 0 ≡ kept_after q r p
    going_end o t kept w eo h =
        let e : first_branch (λ k. fresh old ((q k).after r p)) ≡ 0 =
        ap (λ (x : ℕ). first_branch (λ k. fresh x ((q k).after r p))) (sym eo) ∙ sym
        (left_end (λ k. fresh o ((q k).after r p)) t w.left h) in
        (λ i. cond (sym (going_all o t kept w h) i) o 0) ∙ ap (λ (x : ℕ). cond (all_branches (λ k. keeps (q k) r p x)) x 0) eo
        ∙ fallen (first_branch (λ k. fresh old ((q k).after r p))) e
      where
        fallen : (k : ℕ) → k ≡ 0
            → cond (all_branches (λ j. keeps (q j) r p ((q 0).after r p))) ((q 0).after r p) 0
            ≡ cond (ltb 0 k) ((q k).after r p) (cond (all_branches (λ j. keeps (q j) r p ((q 0).after r p))) ((q 0).after r p) 0)
        fallen k e = rw (e)

    pub going_kept : (o t : ℕ) (kept : Bool) → Going o kept t → o ≡ (q 0).after r p → TABLES ≤ t → kept ≡ true → o ≡ kept_after q r p
    going_kept o t kept w eo h y = sym (ap (λ (b : Bool). cond b o 0) y) ∙ going_end o t kept w eo h

    pub going_gone : (o t : ℕ) (kept : Bool) → Going o kept t → o ≡ (q 0).after r p → TABLES ≤ t → kept ≡ false → 0 ≡ kept_after q r p
    going_gone o t kept w eo h y = sym (ap (λ (b : Bool). cond b o 0) y) ∙ going_end o t kept w eo h
