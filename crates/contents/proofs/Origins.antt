-- The origin of a kept content where no two edits clash: the sum of the branches with an edit. w k is told of table k, and table 0 is old;
-- x is a merged row with its kept content, k is a table, bs are the branches from number k on. Assumes nothing.
use mathlib.Core.Path.{◌≡◌, refl, sym, ap, ◌∙◌}
use mathlib.Core.Logic.{◌⊎◌, inl, inr}
use mathlib.Core.Bool.{Bool, true, false, cond, not}
use mathlib.Core.List.{List, [], ◌∷◌, map}
use Prim.Native.Nat.{ℕ, zero, suc, ◌+◌, ◌<◌, ◌≤◌}
use native.Mathlib.Omega.{arith}
use lib.Dec.{T, T_not}
use lib.ListN.{length, get_or}
use Rattle.rules.specs.Lists.{any, put, sum}
use Rattle.rules.specs.Line.{Row}
use Rattle.rules.specs.Facts.{ContentFact, Facts, contents_of, content_of, same_content_fact}
use Rattle.rules.specs.Merge.{content_clashes}
use Rattle.rules.specs.Ledger.{holds, holders, origin}
use Rattle.trees.proofs.Lists.{either, is_true, is_false, same_test}
use Rattle.trees.proofs.Kept.{has_in_lem, has_out}
use Rattle.trees.proofs.Disagreeing.{content_tells}
use Rattle.facts.specs.Memory.{BRANCHES}
use Rattle.edits.specs.Branches.{sum_from}
use Rattle.edits.proofs.Branches.{IsBranch}
use Rattle.contents.specs.Contents.{Told, fresh_content, content_source, content_origin}
use Rattle.contents.proofs.Clashing.{ContentView, ContentViews, contents_at, view_old, told_in, fresh_in, fresh_out, one_edit}

-- ---- sums

-- nothing is summed up where none passes
sum_none : (test : ℕ → Bool) (k m : ℕ) → ((j : ℕ) → k ≤ j → j < k + m → T (test j) → ⊥) → sum_from test k m ≡ 0
sum_none test k zero h = refl
sum_none test k (suc m) h =
    let here : test k ≡ false = is_false (test k) (h k (omega arith) (omega arith)) in
    let rest : sum_from test (suc k) m ≡ 0 = sum_none test (suc k) m (λ j a b. h j (omega arith) (omega arith)) in
    (λ i. cond (here i) k 0 + rest i)

sum-put : (c : Bool) (k : ℕ) (ks : List ℕ) → sum (λ (j : ℕ). j) (put c k ks) ≡ cond c k 0 + sum (λ (j : ℕ). j) ks
sum-put true k ks = refl
sum-put false k ks = omega arith

-- the facts have the row's content
abbrev has_row : Row → List ContentFact → Bool
has_row x facts = any (same_content_fact (content_of x)) facts

-- the branches that hold the row, if the test tells which they are
sum-holders : (test : ℕ → Bool) (x : Row) (k : ℕ) (bs : List Facts)
    → ((i : ℕ) → i < length bs → test (k + i) ≡ has_row x (get_or (map contents_of bs) i []))
    → sum (λ (j : ℕ). j) (holders k bs x) ≡ sum_from test k (length bs)
sum-holders test x k [] h = refl
sum-holders test x k (b ∷ bs) h =
    let first : k ≡ k + 0 = omega arith in
    let here : holds b x ≡ test k = sym (ap test first ∙ h 0 (omega arith)) in
    let rest : sum (λ (j : ℕ). j) (holders (suc k) bs x) ≡ sum_from test (suc k) (length bs) =
    sum-holders test x (suc k) bs (λ i l.
    let next : suc k + i ≡ k + suc i = omega arith in ap test next ∙ h (suc i) (omega arith)) in
    sum-put (holds b x) k (holders (suc k) bs x) ∙ (λ i. cond (here i) k 0 + rest i)

-- ---- the origin

module _ {q : Told} {facts : List ContentFact} (v : ContentView q facts) (x : Row) where
  row_told : T (has_row x facts) → T (q.has x.number) × (q.content x.number ≡ x.content)
  row_told t = v.to (content_of x) (has_out content_tells facts t)

  told-row : T (q.has x.number) → q.content x.number ≡ x.content → T (has_row x facts)
  told-row h e = has_in_lem content_tells (told_in v (content_of x) h e)

module _ (w : ℕ → Told) (old : Facts) (branches : List Facts) (v : ContentViews w old branches)
    (none : content_clashes old branches ≡ []) (x : Row) (e : x.content ≡ (w (content_source w x.number)).content x.number) where
  fresh : ℕ → Bool
  fresh k = fresh_content w k x.number

  -- an edit is this content
  fresh-row : (k : ℕ) → IsBranch k → T (fresh k) → (w k).content x.number ≡ x.content
  unfolding fresh
  fresh-row k b t = one_edit w old branches v none k x.number b t ∙ sym e

  -- if old has it, it is no edit
  old_row : T (holds old x) → (k : ℕ) → IsBranch k → T (fresh k) → ⊥
  unfolding fresh
  old_row o k b t =
      let y = row_told (view_old w old branches v) x o in
      (fresh_out w old branches v k x.number t).1 y.0 (fresh-row k b t ∙ sym y.1)

  -- if not, it is an edit wherever it is
  branch_row : T (not (holds old x)) → (k : ℕ) → IsBranch k → fresh k ≡ has_row x (contents_at old branches k)
  unfolding fresh
  branch_row o k b = same_test (fresh k) (has_row x (contents_at old branches k)) to from
    where
      to : T (fresh_content w k x.number) → T (has_row x (contents_at old branches k))
      to t = told-row (v.view k b.1) x (fresh_out w old branches v k x.number t).0 (fresh-row k b t)

      from : T (has_row x (contents_at old branches k)) → T (fresh_content w k x.number)
      from t =
          let y = row_told (v.view k b.1) x t in
          fresh_in w old branches v k x.number y.0 (λ h c.
          T_not (holds old x) o (told-row (view_old w old branches v) x h (sym c ∙ y.1)))

  pub origin_is : origin old branches x ≡ content_origin w x.number
  unfolding fresh
  origin_is = go (either (holds old x))
    where
      go : T (holds old x) ⊎ T (not (holds old x)) → origin old branches x ≡ content_origin w x.number
      go (inl o) =
          ap (λ (c : Bool). cond c 0 (sum (λ (j : ℕ). j) (holders 1 branches x))) (is_true (holds old x) o)
          ∙ sym (sum_none fresh 1 BRANCHES (λ j a b. old_row o j (a, b)))
      go (inr o) =
          ap (λ (c : Bool). cond c 0 (sum (λ (j : ℕ). j) (holders 1 branches x))) (is_false (holds old x) (T_not (holds old x) o))
          ∙ sum-holders fresh x 1 branches (λ i l.
          let next : 1 + i ≡ suc i = omega arith in ap fresh next ∙ branch_row o (suc i) (omega arith, omega (arith, v.many)))
          ∙ ap (sum_from fresh 1) v.many
