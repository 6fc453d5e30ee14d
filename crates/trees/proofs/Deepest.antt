-- The greatest depth of a readable table's lines, found by climbing, is the height of its tree. t is a table, `above` are the lines
-- before, the nearest first, `rest` those still to come; x is a row, n a record, r a parent, f a tree. Assumes nothing.
use mathlib.Core.Path.{◌≡◌, refl, sym, ap, ◌∙◌, subst}
use mathlib.Core.Logic.{inl, inr}
use mathlib.Core.Bool.{Bool, cond}
use mathlib.Core.List.Memᴰ
use mathlib.Core.List.Memᴰ.{head as here}
use mathlib.Core.List.Memᴰ.{tail as there}
use mathlib.Core.List.{List, [], ◌∷◌, reverse_aux}
use Prim.Native.Nat.{ℕ, suc, ◌+◌, ◌≤◌, max}
use native.Mathlib.Omega.{arith}
use borrow.Author.Tests.{eq-eqb, ne_eqb}
use Rattle.rules.specs.Lists.{◌∈◌, NoneTwice}
use Rattle.rules.specs.Marks.{TOP}
use Rattle.rules.specs.Line.{Row}
use Rattle.rules.specs.Table.{numbers}
use Rattle.rules.specs.Tree.{Tree, depth, empty, greatest_depth, greatest_from, node, rows, tree_of}
use Rattle.rules.specs.Demands.{Readable, Rooted}
use Rattle.trees.proofs.OneTable.{number_record}
use Rattle.trees.proofs.SameRows.{rows_have, rows_in}

-- how many records stand one under another
abbrev pub height : Tree → ℕ
height empty = 0
height (node n c below after) = max (suc (height below)) (height after)

-- ---- climbing

depth-own : (above : List Row) (x : Row) → depth (x ∷ above) x.number ≡ suc (depth above x.parent)
depth-own above x =
    ap (λ (b : Bool). cond b (suc (depth above x.parent)) (depth above x.number)) (eq-eqb x.number x.number refl)

depth_other : (above : List Row) (x : Row) (n : ℕ) → (x.number ≡ n → ⊥) → depth (x ∷ above) n ≡ depth above n
depth_other above x n h = ap (λ (b : Bool). cond b (suc (depth above x.parent)) (depth above n)) (ne_eqb x.number n h)

-- later lines of other records change no depth
depth_settled : (above rest : List Row) (n : ℕ) → (n ∈ numbers rest → ⊥) → depth (reverse_aux rest above) n ≡ depth above n
depth_settled above [] n h = refl
depth_settled above (x ∷ rest) n h =
    depth_settled (x ∷ above) rest n (λ m. h (there m)) ∙ depth_other above x n (λ e. h (here (sym e)))

-- one more than its parent's, by all lines
depth-row : (above rest : List Row) → NoneTwice (numbers rest) → ((n : ℕ) → n ∈ TOP ∷ numbers above → n ∈ numbers rest → ⊥)
    → Rooted (numbers above) rest → (x : Row) → x ∈ rest
    → depth (reverse_aux rest above) x.number ≡ suc (depth (reverse_aux rest above) x.parent)
depth-row above [] once apart rooted x m = absurd (Memᴰ.not-nil m)
depth-row above (y ∷ rest) once apart rooted x (here e) =
    subst (λ (z : Row). depth final z.number ≡ suc (depth final z.parent)) (sym e)
    (depth_settled (y ∷ above) rest y.number once.0 ∙ depth-own above y
    ∙ ap suc (sym (depth_settled above (y ∷ rest) y.parent (apart y.parent rooted.0))))
  where
    final : List Row
    final = reverse_aux rest (y ∷ above)
depth-row above (y ∷ rest) once apart rooted x (there m) = depth-row (y ∷ above) rest once.1 next rooted.1 x m
  where
    next : (n : ℕ) → n ∈ TOP ∷ y.number ∷ numbers above → n ∈ numbers rest → ⊥
    next n (here e) k = apart n (here e) (there k)
    next n (there (here e)) k = once.0 (Memᴰ.cast (sym e) k)
    next n (there (there i)) k = apart n (there i) (there k)

-- the greatest depth is no less than each, and no more than what is no less than each
greatest_above : (above rest : List Row) → NoneTwice (numbers rest) → (x : Row) → x ∈ rest
    → depth (reverse_aux rest above) x.number ≤ greatest_from above rest
greatest_above above [] once x m = absurd (Memᴰ.not-nil m)
greatest_above above (y ∷ rest) once x (here e) =
    let d : depth (reverse_aux rest (y ∷ above)) x.number ≡ depth (y ∷ above) y.number =
    ap (λ (z : Row). depth (reverse_aux rest (y ∷ above)) z.number) e ∙ depth_settled (y ∷ above) rest y.number once.0 in
    omega arith
greatest_above above (y ∷ rest) once x (there m) = omega (arith, greatest_above (y ∷ above) rest once.1 x m)

greatest_below : (above rest : List Row) → NoneTwice (numbers rest) → (k : ℕ)
    → ((x : Row) → x ∈ rest → depth (reverse_aux rest above) x.number ≤ k) → greatest_from above rest ≤ k
greatest_below above [] once k h = omega arith
greatest_below above (y ∷ rest) once k h =
    let d = depth_settled (y ∷ above) rest y.number once.0 in
    omega (arith, h y (here refl), greatest_below (y ∷ above) rest once.1 k (λ x m. h x (there m)))

-- ---- in a tree, where each record's depth is one more than its parent's

abbrev pub OneMore : (ℕ → ℕ) → List Row → Type 0
OneMore d t = (x : Row) → x ∈ t → d x.number ≡ suc (d x.parent)

module _ (d : ℕ → ℕ) where
  height_above : (r : ℕ) (f : Tree) → OneMore d (rows r f) → (x : Row) → x ∈ rows r f → d x.number ≤ d r + height f
  height_above r empty one x m = absurd (Memᴰ.not-nil m)
  height_above r (node n c below after) one x (here e) =
      let q : d x.number ≡ d n = ap (λ (z : Row). d z.number) e in omega (arith, one _ (here refl))
  height_above r (node n c below after) one x (there m) =
      elim (Memᴰ.append_cases (rows n below) m) [
        | inl i ↦ omega (arith, one _ (here refl), height_above n below (λ y k. one y (there (Memᴰ.append_left (rows r after) k))) x i)
        | inr i ↦ omega (arith, height_above r after (λ y k. one y (there (Memᴰ.append_right (rows n below) k))) x i)
      ]

  height-below : (r : ℕ) (f : Tree) → OneMore d (rows r f) → (k : ℕ) → d r ≤ k → ((x : Row) → x ∈ rows r f → d x.number ≤ k)
      → d r + height f ≤ k
  height-below r empty one k low h = omega arith
  height-below r (node n c below after) one k low h =
      let u : d n + height below ≤ k = height-below n below (λ y m. one y (there (Memᴰ.append_left (rows r after) m))) k
      (h _ (here refl)) (λ x m. h x (there (Memᴰ.append_left (rows r after) m))) in
      let v : d r + height after ≤ k = height-below r after (λ y m. one y (there (Memᴰ.append_right (rows n below) m))) k low
      (λ x m. h x (there (Memᴰ.append_right (rows n below) m))) in
      omega (arith, one _ (here refl))

-- ---- both

module _ (t : List Row) (h : Readable t) where
  -- the depth of a record, by all lines
  abbrev pub depth_in : ℕ → ℕ
  depth_in n = depth (reverse_aux t []) n

  no_top : TOP ∈ numbers t → ⊥
  no_top m = number_record t h.distinct TOP m

  pub depth_top : depth_in TOP ≡ 0
  depth_top = depth_settled [] t TOP no_top

  pub depth_one : OneMore depth_in t
  depth_one = depth-row [] t h.distinct.once apart h.rooted
    where
      apart : (n : ℕ) → n ∈ TOP ∷ [] → n ∈ numbers t → ⊥
      apart n (here e) k = no_top (Memᴰ.cast (sym e) k)
      apart n (there m) k = Memᴰ.not-nil m

  -- the greatest depth is the least that is no less than each
  pub greatest_each : (x : Row) → x ∈ t → depth_in x.number ≤ greatest_depth t
  greatest_each = greatest_above [] t h.distinct.once

  pub greatest_least : (k : ℕ) → ((x : Row) → x ∈ t → depth_in x.number ≤ k) → greatest_depth t ≤ k
  greatest_least = greatest_below [] t h.distinct.once

  -- the greatest depth of the lines is the tree's height
  pub deepest : greatest_depth t ≡ height (tree_of t)
  deepest =
      let p = greatest_least (height (tree_of t)) (λ x m.
      omega (arith, depth_top, height_above depth_in TOP (tree_of t) tree-depth x (rows_have t h x m))) in
      let q = height-below depth_in TOP (tree_of t) tree-depth (greatest_depth t) (omega (arith, depth_top)) (λ x m.
      greatest_each x (rows_in t h x m)) in
      omega (arith, depth_top)
    where
      tree-depth : OneMore depth_in (rows TOP (tree_of t))
      tree-depth x m = depth_one x (rows_in t h x m)
