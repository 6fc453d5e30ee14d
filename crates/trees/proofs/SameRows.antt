-- A readable table and its tree have the same rows, each once; so their records, every sum over rows, and their count are the same.
-- t is a table, r a parent, p the one before, n a record, x, y and z rows, a a fact. Assumes nothing.
use mathlib.Core.Path.{◌≡◌, refl, sym, ap, ◌∙◌, subst}
use mathlib.Core.Logic.{◌⊎◌, inl, inr}
use mathlib.Core.Bool.{Bool, true, false, not}
use mathlib.Core.List.Memᴰ
use mathlib.Core.List.Memᴰ.{head as here}
use mathlib.Core.List.Memᴰ.{tail as there}
use mathlib.Core.List.{List, [], ◌∷◌}
use Prim.Native.Nat.{ℕ, ◌+◌}
use native.Mathlib.Omega.{arith}
use lib.ListN.{length}
use lib.Dec.{T, T_not, not_T, eqb, eqb→eq, eqb_refl}
use Rattle.rules.specs.Lists.{◌∈◌, NoneTwice, keep, put, sum}
use Rattle.rules.specs.Marks.{END, START, TOP, is_record}
use Rattle.rules.specs.Line.{Row}
use Rattle.rules.specs.Table.{numbers}
use Rattle.rules.specs.Tree.{Tree, child_numbers, empty, node, numbers_in, rows, tree_of}
use Rattle.rules.specs.Facts.{ContentFact, content_of, facts_of, position, tree_positions}
use Rattle.rules.specs.Demands.{Distinct, Readable, TreeOf}
use Rattle.trees.proofs.Lists.{keep_all, keep_in, keep_out}
use Rattle.trees.proofs.Sets.{map-sub, once_keep, unique_key}
use Rattle.trees.proofs.Disagreeing.{number_of, record_of}
use Rattle.trees.proofs.OneTable.{child_row, content-row, in_table, list_after, row-content}
use Rattle.trees.proofs.Trees.{contents-rows, numbers-rows, tree_distinct}
use Rattle.trees.proofs.TableTree.{tree_of_table}

-- ---- sums over the same rows

-- the rows of other records than x's
abbrev is_other : Row → Row → Bool
is_other x y = not (eqb y.number x.number)

other : (x y : Row) → (y.number ≡ x.number → ⊥) → T (is_other x y)
other x y f = not_T (eqb y.number x.number) (λ t. f (eqb→eq y.number x.number t))

not_other : (x y : Row) → T (is_other x y) → y.number ≡ x.number → ⊥
not_other x y t e =
    T_not (eqb y.number x.number) t (subst (λ (n : ℕ). T (eqb y.number n)) e (eqb_refl y.number))

module _ (count : Row → ℕ) where
  -- one row counted apart
  sum_apart : (x : Row) (ys : List Row) → NoneTwice (numbers ys) → x ∈ ys → sum count ys ≡ count x + sum count (keep (is_other x) ys)
  sum_apart x [] once m = absurd (Memᴰ.not-nil m)
  sum_apart x (y ∷ ys) once (here e) =
      ap (λ (z : Row). count z + sum count ys) (sym e) ∙ ap (λ (l : List Row). count x + sum count l) (sym rest)
    where
      others : keep (is_other x) ys ≡ ys
      others =
          keep_all (is_other x) ys (λ z k. other x z (λ q. once.0 (Memᴰ.cast (ap number_of (sym e) ∙ sym q) (Memᴰ.map number_of k))))

      go : (b : Bool) → T b → put (not b) y (keep (is_other x) ys) ≡ ys
      go true t = others
      go false t = absurd t

      rest : keep (is_other x) (y ∷ ys) ≡ ys
      rest = go (eqb y.number x.number) (subst (λ (z : Row). T (eqb z.number x.number)) e (eqb_refl x.number))
  sum_apart x (y ∷ ys) once (there m) =
      go (eqb y.number x.number) (λ t. once.0 (Memᴰ.cast (eqb→eq y.number x.number t) (Memᴰ.map number_of m)))
      (sum_apart x ys once.1 m)
    where
      go : (b : Bool) → (T b → ⊥) → sum count ys ≡ count x + sum count (keep (is_other x) ys)
          → count y + sum count ys ≡ count x + sum count (put (not b) y (keep (is_other x) ys))
      go true f e = absurd (f tt)
      go false f e = omega arith

  -- the same rows, each once: the same sum
  pub same_sum : (xs ys : List Row) → NoneTwice (numbers xs) → NoneTwice (numbers ys) → ((z : Row) → z ∈ xs → z ∈ ys)
      → ((z : Row) → z ∈ ys → z ∈ xs) → sum count xs ≡ sum count ys
  same_sum [] [] d e f g = refl
  same_sum [] (y ∷ ys) d e f g = absurd (Memᴰ.not-nil (g y (here refl)))
  same_sum (x ∷ xs) ys d e f g =
      ap (λ (k : ℕ). count x + k) (same_sum xs (keep (is_other x) ys) d.1 (once_keep number_of (is_other x) ys e) to from)
      ∙ sym (sum_apart x ys e (f x (here refl)))
    where
      to : (z : Row) → z ∈ xs → z ∈ keep (is_other x) ys
      to z m = keep_in (is_other x) (f z (there m)) (other x z (λ q. d.0 (Memᴰ.cast (sym q) (Memᴰ.map number_of m))))

      from : (z : Row) → z ∈ keep (is_other x) ys → z ∈ xs
      from z m = let v = keep_out (is_other x) ys m in out (g z v.0) v.1
        where
          out : z ∈ x ∷ xs → T (is_other x z) → z ∈ xs
          out (here q) t = absurd (not_other x z t (ap number_of q))
          out (there k) t = k

-- ---- the rows of a table's tree

-- a row of a tree stands there after another, or first
row-position : (r p : ℕ) (f : Tree) (x : Row) → x ∈ rows r f → (q : ℕ) × (position x.parent q x.number ∈ tree_positions r p f)
row-position r p empty x m = absurd (Memᴰ.not-nil m)
row-position r p (node n c below after) x (here e) = (p, here (ap (λ (y : Row). position y.parent p y.number) e))
row-position r p (node n c below after) x (there m) =
    elim (Memᴰ.append_cases (rows n below) m) [
      | inl i ↦ let w = row-position n START below x i in (w.0, there (Memᴰ.append_left (tree_positions r n after) w.1))
      | inr i ↦ let w = row-position r n after x i in (w.0, there (Memᴰ.append_right (tree_positions n START below) w.1))
    ]

module _ (t : List Row) (h : Readable t) where
  is : TreeOf (facts_of t) (tree_of t)
  is = tree_of_table t h

  -- no record stands twice in the tree
  pub rows_distinct : Distinct (rows TOP (tree_of t))
  rows_distinct = tree_distinct (tree_of t) is.tree

  -- a row of the tree has in the table one with its number and content, and one with its number and parent
  by_content : (x : Row) → x ∈ rows TOP (tree_of t) → (y : Row) × (y ∈ t) × (content_of y ≡ content_of x)
  by_content x m =
      content-row t (content_of x) (is.contents_in_lem (content_of x)
      (subst (λ (l : List ContentFact). content_of x ∈ l) (contents-rows TOP (tree_of t)) (Memᴰ.map content_of m)))

  by_parent : (x : Row) → x ∈ rows TOP (tree_of t) → (y : Row) × (y ∈ t) × (y.number ≡ x.number) × (y.parent ≡ x.parent)
  by_parent x m =
      let v = row-position TOP START (tree_of t) x m in
      let a = position x.parent v.0 x.number in
      child_row t x.parent x.number
      (go (list_after x.parent START (child_numbers x.parent t) a (in_table t a (is.positions_in_lem a v.1))))
    where
      go : (x.number ≡ END) ⊎ (x.number ∈ child_numbers x.parent t) → x.number ∈ child_numbers x.parent t
      go (inl e) = absurd (subst (λ (n : ℕ). T (is_record n)) e (rows_distinct.valid x m))
      go (inr k) = k

  -- the rows of the table's tree are the table's
  pub rows_in : (x : Row) → x ∈ rows TOP (tree_of t) → x ∈ t
  rows_in x m =
      let y = by_content x m in
      let z = by_parent x m in
      let n : y.0.number ≡ x.number = ap record_of y.2 in
      let e : z.0 ≡ y.0 = unique_key number_of t h.distinct.once z.1 y.1 (z.2 ∙ sym n) in
      same y.0 y.1 n (sym (ap (λ (u : Row). u.parent) e) ∙ z.3) (ap (λ (a : ContentFact). a.content) y.2)
    where
      same : (y : Row) → y ∈ t → y.number ≡ x.number → y.parent ≡ x.parent → y.content ≡ x.content → x ∈ t
      same y i p q s =
          let e : y ≡ x = λ j. record { number = p j; parent = q j; content = s j } in Memᴰ.cast (sym e) i

  -- all of them
  pub rows_have : (x : Row) → x ∈ t → x ∈ rows TOP (tree_of t)
  rows_have x m =
      let i = subst (λ (l : List ContentFact). content_of x ∈ l) (sym (contents-rows TOP (tree_of t)))
      (is.contents_have (content_of x) (row-content t x m)) in
      let w = Memᴰ.of_map content_of (rows TOP (tree_of t)) i in
      let e : w.0 ≡ x = unique_key number_of t h.distinct.once (rows_in w.0 w.1) m (ap record_of w.2) in
      Memᴰ.cast (sym e) w.1

  -- so its records are the table's too
  pub tree_number : (n : ℕ) → n ∈ numbers_in (tree_of t) → n ∈ numbers t
  tree_number n m =
      map-sub number_of (rows TOP (tree_of t)) t rows_in n (subst (λ (l : List ℕ). n ∈ l) (sym (numbers-rows TOP (tree_of t))) m)

  pub number_tree : (n : ℕ) → n ∈ numbers t → n ∈ numbers_in (tree_of t)
  number_tree n m =
      subst (λ (l : List ℕ). n ∈ l) (numbers-rows TOP (tree_of t)) (map-sub number_of t (rows TOP (tree_of t)) rows_have n m)

  -- and a sum over the rows is the same
  pub rows-sum : (w : Row → ℕ) → sum w (rows TOP (tree_of t)) ≡ sum w t
  rows-sum w = same_sum w (rows TOP (tree_of t)) t rows_distinct.once h.distinct.once rows_in rows_have

-- ---- how many

count-sum : (xs : List Row) → length xs ≡ sum (λ (x : Row). 1) xs
count-sum [] = refl
count-sum (x ∷ xs) = omega (arith, count-sum xs)

-- and there are as many
pub rows-count : (t : List Row) → Readable t → length (rows TOP (tree_of t)) ≡ length t
rows-count t h = count-sum (rows TOP (tree_of t)) ∙ rows-sum t h (λ (x : Row). 1) ∙ sym (count-sum t)
