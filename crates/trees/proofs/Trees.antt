-- A tree and its rows: the facts of a tree are those of the table of its rows, so no two of them disagree.
-- f is a tree, r the parent of its first list, p the one before it, m a parent, a a fact. Assumes nothing.
use mathlib.Core.Path.{◌≡◌, refl, sym, ap, ap₂, ◌∙◌, subst}
use mathlib.Core.Logic.{◌⊎◌, inl, inr}
use mathlib.Core.List.Memᴰ
use mathlib.Core.List.Memᴰ.{head as here}
use mathlib.Core.List.Memᴰ.{tail as there}
use mathlib.Core.List.{List, [], ◌∷◌, ◌++◌, map, map-append, append-nil}
use Prim.Native.Nat.{ℕ}
use lib.Dec.{eqb, eqb_refl}
use mir.Facts.{no_eqb}
use Rattle.rules.specs.Lists.{NoneTwice, ◌∈◌}
use Rattle.rules.specs.Marks.{START, TOP}
use Rattle.rules.specs.Line.{Content, Row}
use Rattle.rules.specs.Table.{numbers}
use Rattle.rules.specs.Tree.{Tree, child_numbers, children_of, empty, node, numbers_in, rows}
use Rattle.rules.specs.Facts.{ContentFact, PositionFact, content_fact, content_of, contents_disagree, facts_of, list_facts}
use Rattle.rules.specs.Facts.{positions_disagree}
use Rattle.rules.specs.Facts.{tree_contents, tree_positions}
use Rattle.rules.specs.Demands.{Distinct, IsTree}
use Rattle.trees.proofs.Lists.{keep_append, put_no, put_yes}
use Rattle.trees.proofs.Sets.{once_apart, once_left, once_right}
use Rattle.trees.proofs.Kept.{Coherent}
use Rattle.trees.proofs.Disagreeing.{number_of}
use Rattle.trees.proofs.OneTable.{InTable, contents_coherent, list_parent, table_coherent}

-- ---- the rows of a tree

-- the numbers of its first list
abbrev pub list_numbers : Tree → List ℕ
list_numbers empty = []
list_numbers (node n c below after) = n ∷ list_numbers after

pub numbers-rows : (r : ℕ) (f : Tree) → numbers (rows r f) ≡ numbers_in f
numbers-rows r empty = refl
numbers-rows r (node n c below after) =
    ap (λ (l : List ℕ). n ∷ l) (map-append number_of (rows n below) (rows r after)
    ∙ ap₂ (λ (k l : List ℕ). k ++ l) (numbers-rows n below) (numbers-rows r after))

pub contents-rows : (r : ℕ) (f : Tree) → map content_of (rows r f) ≡ tree_contents f
contents-rows r empty = refl
contents-rows r (node n c below after) =
    ap (λ (l : List ContentFact). content_fact n c ∷ l) (map-append content_of (rows n below) (rows r after)
    ∙ ap₂ (λ (k l : List ContentFact). k ++ l) (contents-rows n below) (contents-rows r after))

-- ---- the children of m among them

pub children-append : (m : ℕ) (s t : List Row) → child_numbers m (s ++ t) ≡ child_numbers m s ++ child_numbers m t
children-append m s t =
    ap (map number_of) (keep_append (λ (x : Row). eqb x.parent m) s t) ∙ map-append number_of (children_of m s) (children_of m t)

-- of another parent than the first list's: below its first record, or after it
children_other : (m r n : ℕ) (c : Content) (below after : Tree) → (m ≡ r → ⊥)
    → child_numbers m (rows r (node n c below after)) ≡ child_numbers m (rows n below) ++ child_numbers m (rows r after)
children_other m r n c below after h =
    ap (map number_of) (put_no (eqb r m) _ _ (no_eqb (λ e. h (sym e)))) ∙ children-append m (rows n below) (rows r after)

children_none : (m r : ℕ) (f : Tree) → (m ≡ r → ⊥) → (m ∈ numbers_in f → ⊥) → child_numbers m (rows r f) ≡ []
children_none m r empty h g = refl
children_none m r (node n c below after) h g =
    children_other m r n c below after h
    ∙ ap₂ (λ (k l : List ℕ). k ++ l)
    (children_none m n below (λ e. g (here e)) (λ i. g (there (Memᴰ.append_left (numbers_in after) i))))
    (children_none m r after h (λ i. g (there (Memᴰ.append_right (numbers_in below) i))))

children_list : (r : ℕ) (f : Tree) → (r ∈ numbers_in f → ⊥) → child_numbers r (rows r f) ≡ list_numbers f
children_list r empty g = refl
children_list r (node n c below after) g =
    ap (map number_of) (put_yes (eqb r r) _ _ (eqb_refl r))
    ∙ ap (λ (l : List ℕ). n ∷ l) (children-append r (rows n below) (rows r after)
    ∙ ap₂ (λ (k l : List ℕ). k ++ l)
    (children_none r n below (λ e. g (here e)) (λ i. g (there (Memᴰ.append_left (numbers_in after) i))))
    (children_list r after (λ i. g (there (Memᴰ.append_right (numbers_in below) i)))))

-- ---- where a position fact stands: in the first list, or in the list of a record of the tree

abbrev Placed : ℕ → ℕ → Tree → PositionFact → Type 0
Placed r p f a = (a ∈ list_facts r p (list_numbers f)) ⊎ ((a.parent ∈ numbers_in f) × InTable (rows r f) a)

module _ (r p n : ℕ) (c : Content) (below after : Tree) (a : PositionFact)
    (once : NoneTwice (numbers_in (node n c below after))) (other : r ∈ numbers_in (node n c below after) → ⊥) where
  abbrev whole : Tree
  whole = node n c below after

  apart : {m : ℕ} → m ∈ numbers_in below → m ∈ numbers_in after → ⊥
  apart = once_apart (numbers_in below) (numbers_in after) once.1

  other_parent : a.parent ∈ numbers_in whole → a.parent ≡ r → ⊥
  other_parent i e = other (Memᴰ.cast (sym e) i)

  abbrev under : List ℕ
  under = child_numbers a.parent (rows n below)

  abbrev beside : List ℕ
  beside = child_numbers a.parent (rows r after)

  in_whole : a.parent ∈ n ∷ numbers_in below → a.parent ∈ numbers_in whole
  in_whole (here e) = here e
  in_whole (there i) = there (Memᴰ.append_left (numbers_in after) i)

  not_after : a.parent ∈ n ∷ numbers_in below → a.parent ∈ numbers_in after → ⊥
  not_after (here e) j = once.0 (Memᴰ.append_right (numbers_in below) (Memᴰ.cast (sym e) j))
  not_after (there i) j = apart i j

  below-children : a.parent ∈ n ∷ numbers_in below → child_numbers a.parent (rows r whole) ≡ under
  below-children i =
      children_other a.parent r n c below after (other_parent (in_whole i))
      ∙ ap (λ (l : List ℕ). under ++ l) (children_none a.parent r after (other_parent (in_whole i)) (not_after i)) ∙ append-nil under

  after-children : a.parent ∈ numbers_in after → child_numbers a.parent (rows r whole) ≡ beside
  after-children i =
      children_other a.parent r n c below after (other_parent (there (Memᴰ.append_right (numbers_in below) i)))
      ∙ ap (λ (l : List ℕ). l ++ beside) (children_none a.parent n below
      (λ e. once.0 (Memᴰ.append_right (numbers_in below) (Memᴰ.cast (sym e) i))) (λ j. apart j i))

  placed_under : a.parent ∈ n ∷ numbers_in below → InTable (rows n below) a → Placed r p whole a
  placed_under i j = inr (in_whole i, subst (λ (l : List ℕ). a ∈ list_facts a.parent START l) (sym (below-children i)) j)

  placed_below : Placed n START below a → Placed r p whole a
  placed_below (inl i) =
      let e : a.parent ≡ n = list_parent n START (list_numbers below) a i in
      let q = sym (children_list n below (λ k. once.0 (Memᴰ.append_left (numbers_in after) k))) in
      placed_under (here e) (subst (λ (m : ℕ). a ∈ list_facts m START (child_numbers m (rows n below))) (sym e)
      (subst (λ (l : List ℕ). a ∈ list_facts n START l) q i))
  placed_below (inr w) = placed_under (there w.0) w.1

  placed_after : Placed r n after a → Placed r p whole a
  placed_after (inl i) = inl (there i)
  placed_after (inr w) = inr (
    there (Memᴰ.append_right (numbers_in below) w.0),
    subst (λ (l : List ℕ). a ∈ list_facts a.parent START l) (sym (after-children w.0)) w.1,
  )

placed : (r p : ℕ) (f : Tree) (a : PositionFact) → NoneTwice (numbers_in f) → (r ∈ numbers_in f → ⊥) → a ∈ tree_positions r p f
    → Placed r p f a
placed r p empty a once other m = inl m
placed r p (node n c below after) a once other (here e) = inl (here e)
placed r p (node n c below after) a once other (there m) =
    elim (Memᴰ.append_cases (tree_positions n START below) m) [
      | inl i ↦ placed_below r p n c below after a once other (placed n START below a
          (once_left (numbers_in below) (numbers_in after) once.1) (λ j. once.0 (Memᴰ.append_left (numbers_in after) j)) i)
      | inr i ↦ placed_after r p n c below after a once other (placed r n after a
          (once_right (numbers_in below) (numbers_in after) once.1) (λ j. other (there (Memᴰ.append_right (numbers_in below) j))) i)
    ]

-- ---- the facts of a tree

module _ (f : Tree) (t : IsTree f) where
  no_top : TOP ∈ numbers_in f → ⊥
  no_top m = t.valid TOP m

  -- a position fact of the tree is one of the table of its rows
  pub tree_in_table : (a : PositionFact) → a ∈ tree_positions TOP START f → InTable (rows TOP f) a
  tree_in_table a m = go (placed TOP START f a t.once no_top m)
    where
      go : Placed TOP START f a → InTable (rows TOP f) a
      go (inl i) =
          let e : a.parent ≡ TOP = list_parent TOP START (list_numbers f) a i in
          subst (λ (r : ℕ). a ∈ list_facts r START (child_numbers r (rows TOP f))) (sym e)
          (subst (λ (l : List ℕ). a ∈ list_facts TOP START l) (sym (children_list TOP f no_top)) i)
      go (inr w) = w.1

  pub tree_distinct : Distinct (rows TOP f)
  tree_distinct =
      record {
        once = subst NoneTwice (sym (numbers-rows TOP f)) t.once;
        valid = λ x m. t.valid x.number (subst (λ (l : List ℕ). x.number ∈ l) (numbers-rows TOP f) (Memᴰ.map number_of m));
      }

  -- so no two of the tree's facts disagree
  pub tree-positions_coherent : Coherent positions_disagree (tree_positions TOP START f)
  tree-positions_coherent a b m k = table_coherent (rows TOP f) tree_distinct a b (tree_in_table a m) (tree_in_table b k)

  pub tree-contents_coherent : Coherent contents_disagree (tree_contents f)
  unfolding facts_of
  tree-contents_coherent = subst (Coherent contents_disagree) (contents-rows TOP f) (contents_coherent (rows TOP f) tree_distinct)
