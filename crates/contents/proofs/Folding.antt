-- The loops over the marked lines of all branches, which leave the least place. A place is seen in an A: it is none in the first one, and a
-- step leaves the lesser of it and of what `at` has for the line. `post` says what a step at a line of a table may give, marks are the
-- marks of all lines, `counts` has how many records each table has. j is how many branches are done, t is the one after them, l is a
-- line, m its mark. Assumes nothing.
use mathlib.Core.Path.{◌≡◌, refl, sym, ap, ◌∙◌, subst}
use mathlib.Core.List.{List, []}
use Prim.Native.Nat.{ℕ, suc, ◌+◌, ◌<◌, ◌≤◌, min}
use native.Mathlib.Omega.{arith}
use native.Mathlib.Numerals.{add-one}
use lib.ListN.{get_or}
use Rattle.std.specs.Prelude.{Option, None, Some}
use Rattle.facts.specs.Memory.{TABLES, BRANCHES}
use Rattle.facts.specs.declared.inputs.Side.{Side}
use Rattle.edits.specs.Least.{lesser, best}
use Rattle.edits.proofs.Best.{lesser_none}
use Rattle.contents.specs.Marks.{NoneUnmarked}

lesser_assoc : (a b c : Option ℕ) → lesser (lesser a b) c ≡ lesser a (lesser b c)
lesser_assoc None b c = refl
lesser_assoc (Some a) None c = refl
lesser_assoc (Some a) (Some b) None = refl
lesser_assoc (Some a) (Some b) (Some c) = let e : min (min a b) c ≡ min a (min b c) = omega arith in ap Some e

module _ {A : Type 0} (post : A → Side → ℕ → A → Type 0) (marks : List (List ℕ)) (counts : List ℕ) (first : A) where
  -- the least on so many branches
  abbrev on_branches : ℕ → (ℕ → ℕ → Option ℕ) → Option ℕ
  on_branches j at = best (λ k. best (at (suc k)) (suc (get_or counts (suc k) 0))) j

  -- each place is the least on the branches so far
  pub record Branches (j : ℕ) (all : A) : Type 0 where
    pub comes : (place : A → Option ℕ) (at : ℕ → ℕ → Option ℕ) → place first ≡ None
        → ((a : A) (t : Side) (l : ℕ) (b : A) → post a t l b → place b ≡ lesser (place a) (at t.index l)) → NoneUnmarked at marks counts
        → place all ≡ on_branches j at

  -- and on so many lines of branch t
  pub record Lines (j t l : ℕ) (all : A) : Type 0 where
    pub comes : (place : A → Option ℕ) (at : ℕ → ℕ → Option ℕ) → place first ≡ None
        → ((a : A) (t : Side) (l : ℕ) (b : A) → post a t l b → place b ≡ lesser (place a) (at t.index l)) → NoneUnmarked at marks counts
        → place all ≡ lesser (on_branches j at) (best (at t) l)

  pub branches_start : Branches 0 first
  branches_start = record { comes = λ place at e s n. e }

  pub lines_start : (j t : ℕ) (all : A) → Branches j all → Lines j t 0 all
  lines_start j t all w = record { comes = λ place at e s n. w.comes place at e s n ∙ sym (lesser_none (on_branches j at)) }

  pub line_marked : (j l : ℕ) (t : Side) (all b : A) → Lines j t.index l all → post all t l b → Lines j t.index (l + 1) b
  line_marked j l t all b w p = record {
    comes = λ place at e s n. s all t l b p ∙ ap (λ (x : Option ℕ). lesser x (at t.index l)) (w.comes place at e s n)
        ∙ lesser_assoc (on_branches j at) (best (at t.index) l) (at t.index l)
        ∙ ap (λ (i : ℕ). lesser (on_branches j at) (best (at t.index) i)) (sym (add-one l));
  }

  pub line_unmarked : (j l t m : ℕ) (all : A) → Lines j t l all → 0 < t → t < TABLES → l ≤ get_or counts t 0
      → m ≡ get_or (get_or marks t []) l 0 → m ≡ 0 → Lines j t (l + 1) all
  line_unmarked j l t m all w low high few em z = record {
    comes = λ place at e s n. w.comes place at e s n
        ∙ ap (lesser (on_branches j at))
        (sym (ap (lesser (best (at t) l)) (n t l low high few (sym em ∙ z)) ∙ lesser_none (best (at t) l)))
        ∙ ap (λ (i : ℕ). lesser (on_branches j at) (best (at t) i)) (sym (add-one l));
  }

  pub lines_end : (j t l : ℕ) (all : A) → t ≡ j + 1 → l ≡ get_or counts t 0 + 1 → Lines j t l all → Branches (j + 1) all
  lines_end j t l all et el w =
      let k : t ≡ suc j = omega arith in
      record {
        comes = λ place at e s n. w.comes place at e s n
            ∙ ap (λ (i : ℕ). lesser (on_branches j at) (best (at t) i)) (el ∙ add-one (get_or counts t 0))
            ∙ ap (λ (i : ℕ). lesser (on_branches j at) (best (at i) (suc (get_or counts i 0)))) k
            ∙ ap (λ (i : ℕ). on_branches i at) (sym (add-one j));
      }

  pub branches_end : (j : ℕ) (all : A) → Branches j all → j ≡ BRANCHES → Branches BRANCHES all
  branches_end j all w e = subst (λ (i : ℕ). Branches i all) e w
