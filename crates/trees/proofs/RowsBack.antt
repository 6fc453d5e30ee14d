-- The rows of a tree are a readable table, and the tree of that table is the tree.
-- f is a tree, r the parent of its first list, p the one before it, s and t are tables, x a row, a a fact. Assumes nothing.
use mathlib.Core.Path.{◌≡◌, refl, sym, ap, subst}
use mathlib.Core.Logic.{inl, inr}
use mathlib.Core.List.Memᴰ
use mathlib.Core.List.Memᴰ.{head as here}
use mathlib.Core.List.Memᴰ.{tail as there}
use mathlib.Core.List.{List, [], ◌∷◌, ◌++◌}
use Prim.Native.Nat.{ℕ}
use Rattle.rules.specs.Lists.{◌∈◌}
use Rattle.rules.specs.Marks.{START, TOP}
use Rattle.rules.specs.Line.{Row}
use Rattle.rules.specs.Table.{numbers}
use Rattle.rules.specs.Tree.{Tree, empty, node, numbers_in, rows, tree_of}
use Rattle.rules.specs.Facts.{ContentFact, Facts, PositionFact, facts_of, tree_contents, tree_positions}
use Rattle.rules.specs.Merge.{content_edits, position_edits}
use Rattle.rules.specs.Demands.{Answers, IsTree, Readable, Rooted}
use Rattle.trees.proofs.Disagreeing.{parent_of}
use Rattle.trees.proofs.OneTable.{list_in_lem}
use Rattle.trees.proofs.Trees.{contents-rows, numbers-rows, tree_distinct, tree_in_table}
use Rattle.trees.proofs.Answering.{answers_equal}
use Rattle.trees.proofs.TableTree.{table_sound, tree_of_table}

-- ---- parents stand on earlier lines

rooted_more : (t : List Row) (seen more : List ℕ) → ((n : ℕ) → n ∈ seen → n ∈ more) → Rooted seen t → Rooted more t
rooted_more [] seen more h r = tt
rooted_more (x ∷ t) seen more h r = (up r.0, rooted_more t (x.number ∷ seen) (x.number ∷ more) next r.1)
  where
    up : x.parent ∈ TOP ∷ seen → x.parent ∈ TOP ∷ more
    up (here e) = here e
    up (there m) = there (h x.parent m)

    next : (n : ℕ) → n ∈ x.number ∷ seen → n ∈ x.number ∷ more
    next n (here e) = here e
    next n (there m) = there (h n m)

rooted_join : (s t : List Row) (seen : List ℕ) → Rooted seen s → Rooted seen t → Rooted seen (s ++ t)
rooted_join [] t seen r q = q
rooted_join (x ∷ s) t seen r q =
    (r.0, rooted_join s t (x.number ∷ seen) r.1 (rooted_more t seen (x.number ∷ seen) (λ n m. there m) q))

rooted_rows : (r : ℕ) (f : Tree) (seen : List ℕ) → r ∈ TOP ∷ seen → Rooted seen (rows r f)
rooted_rows r empty seen m = tt
rooted_rows r (node n c below after) seen m = (
  m,
  rooted_join (rows n below) (rows r after) (n ∷ seen) (rooted_rows n below (n ∷ seen) (there (here refl)))
      (rooted_rows r after (n ∷ seen) (wide m)),
)
  where
    wide : r ∈ TOP ∷ seen → r ∈ TOP ∷ n ∷ seen
    wide (here e) = here e
    wide (there i) = there (there i)

-- the rows of a tree are a readable table
pub rows_readable : (f : Tree) → IsTree f → Readable (rows TOP f)
rows_readable f t = record { distinct = tree_distinct f t; rooted = rooted_rows TOP f [] (here refl) }

-- ---- the tree back

-- a position fact's parent is that of the first list, or a record of the tree
pub position_parent : (r p : ℕ) (f : Tree) (a : PositionFact) → a ∈ tree_positions r p f → a.parent ∈ r ∷ numbers_in f
position_parent r p empty a (here e) = here (ap parent_of e)
position_parent r p empty a (there m) = absurd (Memᴰ.not-nil m)
position_parent r p (node n c below after) a (here e) = here (ap parent_of e)
position_parent r p (node n c below after) a (there m) =
    elim (Memᴰ.append_cases (tree_positions n START below) m) [
      | inl i ↦ under (position_parent n START below a i)
      | inr i ↦ beside (position_parent r n after a i)
    ]
  where
    under : a.parent ∈ n ∷ numbers_in below → a.parent ∈ r ∷ numbers_in (node n c below after)
    under (here e) = there (here e)
    under (there i) = there (there (Memᴰ.append_left (numbers_in after) i))

    beside : a.parent ∈ r ∷ numbers_in after → a.parent ∈ r ∷ numbers_in (node n c below after)
    beside (here e) = here e
    beside (there i) = there (there (Memᴰ.append_right (numbers_in below) i))

-- no branch, no edit: a tree of the old table's facts answers
alone : (old : Facts) (f : Tree) → IsTree f → ((a : PositionFact) → a ∈ tree_positions TOP START f → a ∈ old.positions)
    → ((a : ContentFact) → a ∈ tree_contents f → a ∈ old.contents) → Answers old [] f
unfolding position_edits content_edits
alone old f t positions contents =
    record {
      tree = t;
      positions_edited = λ a m. absurd (Memᴰ.not-nil m);
      contents_edited = λ a m. absurd (Memᴰ.not-nil m);
      positions_known = λ a m. (old, here refl, positions a m);
      contents_known = λ a m. (old, here refl, contents a m);
    }

-- whose tree is that tree
pub rows_back : (f : Tree) → IsTree f → tree_of (rows TOP f) ≡ f
unfolding facts_of
rows_back f t =
    let r = rows_readable f t in
    let w = tree_of_table (rows TOP f) r in
    answers_equal (facts_of (rows TOP f)) [] (table_sound (rows TOP f) r.distinct) (tree_of (rows TOP f)) f
    (alone (facts_of (rows TOP f)) (tree_of (rows TOP f)) w.tree w.positions_in_lem w.contents_in_lem)
    (alone (facts_of (rows TOP f)) f t positions (λ a m. subst (λ (l : List ContentFact). a ∈ l) (sym (contents-rows TOP f)) m))
  where
    parent_there : (a : PositionFact) → a ∈ tree_positions TOP START f → a.parent ∈ TOP ∷ numbers (rows TOP f)
    parent_there a m = subst (λ (l : List ℕ). a.parent ∈ TOP ∷ l) (sym (numbers-rows TOP f)) (position_parent TOP START f a m)

    positions : (a : PositionFact) → a ∈ tree_positions TOP START f → a ∈ (facts_of (rows TOP f)).positions
    positions a m = list_in_lem (rows TOP f) a.parent (parent_there a m) a (tree_in_table f t a m)
