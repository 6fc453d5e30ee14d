-- A readable table is a tree with exactly its facts. `tree_of` hangs the rows under their parents; the walk over the table's own
-- facts gives the same tree, and of a walk it is known that it reaches no record twice and has steps enough.
-- t is a table, r a parent, p the one before, s the one after, n a record, x and y rows, a and b facts. Assumes nothing.
use mathlib.Core.Path.{◌≡◌, refl, sym, ap, ◌∙◌, subst}
use mathlib.Core.Logic.{◌⊎◌, inl, inr}
use mathlib.Core.Option.{Option, none, some}
use mathlib.Core.List.Memᴰ
use mathlib.Core.List.Memᴰ.{head as here}
use mathlib.Core.List.Memᴰ.{tail as there}
use mathlib.Core.List.{List, [], ◌∷◌}
use Prim.Native.Nat.{ℕ, zero, suc, ◌<◌}
use native.Mathlib.Omega.{arith}
use lib.Dec.{T, eqb}
use Rattle.rules.specs.Lists.{◌∈◌}
use Rattle.rules.specs.Marks.{END, START, TOP, is_record}
use Rattle.rules.specs.Line.{Content, Row}
use Rattle.rules.specs.Table.{numbers}
use Rattle.rules.specs.Tree.{STEPS, Tree, child_numbers, children_of, empty, hang, node, numbers_in, tree_of}
use Rattle.rules.specs.Facts.{ContentFact, PositionFact, content_fact, content_of, facts_of, list_facts, position, tree_contents}
use Rattle.rules.specs.Facts.{tree_positions}
use Rattle.rules.specs.Merge.{content_in, follower, walk}
use Rattle.rules.specs.Demands.{Distinct, Readable, Rooted, TreeOf}
use Rattle.trees.proofs.Lists.{keep_out}
use Rattle.trees.proofs.Disagreeing.{number_of, one_content, record_of}
use Rattle.trees.proofs.OneTable.{child_number, child_record, child_row, content-row, contents_coherent, in_table, list_after}
use Rattle.trees.proofs.OneTable.{list_follower, list_in_lem, list_of, number_row, row_child, row-content, row_number, table_coherent}
use Rattle.trees.proofs.Walk.{Goes, content_is, found_in, position_to, step_goes, step_in, step_record, walk-content}
use Rattle.trees.proofs.Walk.{walk_induction, walk_none, walk_some}
use Rattle.trees.proofs.Reached.{Along, Holds, lists-whole, steps_enough, steps_of, walk-tree}
use Rattle.trees.proofs.Answering.{Sound}

-- ---- a table's facts are sound

pub table_sound : (t : List Row) → Distinct t → Sound (facts_of t)
table_sound t d =
    record {
      positions_agree = λ a b m k. table_coherent t d a b (in_table t a m) (in_table t b k);
      contents_agree = contents_coherent t d;
      named = named;
    }
  where
    named : (a : PositionFact) → a ∈ (facts_of t).positions → T (is_record a.after)
        → (b : ContentFact) × (b ∈ (facts_of t).contents) × (b.number ≡ a.after)
    named a m i = go (list_after a.parent START (child_numbers a.parent t) a (in_table t a m))
      where
        go : (a.after ≡ END) ⊎ (a.after ∈ child_numbers a.parent t)
            → (b : ContentFact) × (b ∈ (facts_of t).contents) × (b.number ≡ a.after)
        go (inl e) = absurd (subst (λ (n : ℕ). T (is_record n)) e i)
        go (inr k) = let w = child_row t a.parent a.after k in (content_of w.0, row-content t w.0 w.1, w.2)

-- a record of a tree has a content there
pub number_content : (f : Tree) (n : ℕ) → n ∈ numbers_in f → (b : ContentFact) × (b ∈ tree_contents f) × (b.number ≡ n)
number_content empty n m = absurd (Memᴰ.not-nil m)
number_content (node j c below after) n (here e) = (content_fact j c, here refl, sym e)
number_content (node j c below after) n (there m) =
    elim (Memᴰ.append_cases (numbers_in below) m) [
      | inl i ↦ let w = number_content below n i in (w.0, there (Memᴰ.append_left (tree_contents after) w.1), w.2)
      | inr i ↦ let w = number_content after n i in (w.0, there (Memᴰ.append_right (tree_contents below) w.1), w.2)
    ]

-- the walk over the facts of a table
abbrev pub walked : List Row → Tree
walked t = walk (follower (facts_of t).positions) (content_in (facts_of t).contents) STEPS TOP START

module _ (t : List Row) (d : Distinct t) where
  abbrev positions : List PositionFact
  positions = (facts_of t).positions

  abbrev contents : List ContentFact
  contents = (facts_of t).contents

  abbrev next : ℕ → ℕ → Option ℕ
  next = follower positions

  abbrev content : ℕ → Content
  content = content_in contents

  steps : (a : PositionFact) → a ∈ positions → Goes next a
  steps = step_goes positions (table_sound t d).positions_agree

  enough : steps_of (walked t) < STEPS
  enough = steps_enough positions (table_sound t d).positions_agree content

  -- ---- the rows hung under their parents are what the walk reaches

  content-found : (x : Row) → x ∈ t → content x.number ≡ x.content
  content-found x m =
      content_is contents contents (λ a k. k) (λ a b k l. contents_coherent t d b a l k) (content_of x) (row-content t x m)

  hung : (k r p : ℕ) (list : List Row) → ((a : PositionFact) → a ∈ list_facts r p (numbers list) → a ∈ positions)
      → ((x : Row) → x ∈ list → x ∈ t) → hang k t list ≡ walk next content k r p
  unfolding hang walk
  hung zero r p list h g = refl
  hung (suc k) r p [] h g = sym (walk_none next content k r p ((steps (position r p END) (h (position r p END) (here refl))).0 refl))
  hung (suc k) r p (x ∷ list) h g =
      let m : x ∈ t = g x (here refl) in
      let n : ℕ = x.number in
      let e : next r p ≡ some n = (steps (position r p n) (h (position r p n) (here refl))).1 (d.valid x m) in
      let c : content n ≡ x.content = content-found x m in
      let u : hang k t (children_of n t) ≡ walk next content k n START =
      hung k n START (children_of n t) (list_in_lem t n (there (row_number t x m)))
      (λ y i. (keep_out (λ (z : Row). eqb z.parent n) t i).0) in
      let v : hang k t list ≡ walk next content k r n = hung k r n list (λ a i. h a (there i)) (λ y i. g y (there i)) in
      let q = walk_some next content k r p n e in
      cc

  pub tree-walked : tree_of t ≡ walked t
  unfolding tree_of
  tree-walked =
      hung STEPS TOP START (children_of TOP t) (list_in_lem t TOP (here refl)) (λ y i. (keep_out (λ (z : Row). eqb z.parent TOP) t i).0)

  -- ---- the walk's position facts are the table's

  -- whom the walk goes on to is a child
  next_child : (r p n : ℕ) → next r p ≡ some n → n ∈ child_numbers r t
  next_child r p n e =
      go (list_after r START (child_numbers r t) (position r p n) (in_table t (position r p n) (step_in positions r p n e)))
    where
      go : (n ≡ END) ⊎ (n ∈ child_numbers r t) → n ∈ child_numbers r t
      go (inl q) = absurd (subst (λ (m : ℕ). T (is_record m)) q (step_record positions r p n e))
      go (inr m) = m

  -- where the walk ends, the list does
  ended : (r p : ℕ) → r ∈ TOP ∷ numbers t → p ∈ START ∷ child_numbers r t → next r p ≡ none → position r p END ∈ positions
  ended r p i j e =
      let w = list_follower r START p (child_numbers r t) j in
      go w.0 (list_in_lem t r i (position r p w.0) w.1) (list_after r START (child_numbers r t) (position r p w.0) w.1)
    where
      go : (s : ℕ) → position r p s ∈ positions → (s ≡ END) ⊎ (s ∈ child_numbers r t) → position r p END ∈ positions
      go s m (inl q) = Memᴰ.cast (ap (position r p) (sym q)) m
      go s m (inr q) =
          let a : next r p ≡ some s = (steps (position r p s) m).1 (child_record t d r s q) in
          let z : ◌≡◌ {A = ℕ} 0 1 = cc in
          absurd (omega arith)

  -- the position facts of a tree, whose first list is part of one of the table's, are the table's
  abbrev InPositions : ℕ → ℕ → Tree → Type 0
  InPositions r p f =
      r ∈ TOP ∷ numbers t → p ∈ START ∷ child_numbers r t → (a : PositionFact) → a ∈ tree_positions r p f → a ∈ positions

  positions_in_lem : (k r p : ℕ) → steps_of (walk next content k r p) < k → InPositions r p (walk next content k r p)
  positions_in_lem =
      walk_induction next content (λ k r p f. steps_of f < k → InPositions r p f) (λ r p h. absurd (omega arith)) (λ k r p e h. end r p e)
      (λ k r p n below after e u v h. on r p n (content n) below after e (u (omega arith)) (v (omega arith)))
    where
      end : (r p : ℕ) → next r p ≡ none → InPositions r p empty
      end r p e i j a (here q) = Memᴰ.cast q (ended r p i j e)
      end r p e i j a (there m) = absurd (Memᴰ.not-nil m)

      on : (r p n : ℕ) (c : Content) (below after : Tree) → next r p ≡ some n → InPositions n START below → InPositions r n after
          → InPositions r p (node n c below after)
      on r p n c below after e u v i j a (here q) = Memᴰ.cast q (step_in positions r p n e)
      on r p n c below after e u v i j a (there m) =
          let k = next_child r p n e in
          elim (Memᴰ.append_cases (tree_positions n START below) m) [
            | inl w ↦ u (there (child_number t r n k)) (here refl) a w
            | inr w ↦ v i (there k) a w
          ]

  -- ---- every record is reached

  -- the list of r, and its children, are in the walk's tree
  abbrev HoldsList : ℕ → Type 0
  HoldsList r = Holds next content TOP START (walked t) (list_facts r START (child_numbers r t)) (child_numbers r t)

  along : (r : ℕ) → r ∈ TOP ∷ numbers t → Along next content r START (child_numbers r t)
  along r i = (λ a m. steps a (list_in_lem t r i a m), child_record t d r)

  holds_list : (r : ℕ) → r ∈ TOP ∷ numbers t → r ∈ TOP ∷ numbers_in (walked t) → HoldsList r
  holds_list r i (here e) =
      let w = lists-whole next content STEPS TOP START enough in
      subst HoldsList (sym e) (w.own (child_numbers TOP t) (along TOP (here refl)))
  holds_list r i (there m) = (lists-whole next content STEPS TOP START enough).below r m (child_numbers r t) (along r i)

  -- line by line: the numbers `seen` are reached, so the next line's parent is
  abbrev Reached : ℕ → Type 0
  Reached n = (n ∈ numbers t) × (n ∈ numbers_in (walked t))

  reached : (seen : List ℕ) (s : List Row) → ((n : ℕ) → n ∈ seen → Reached n) → ((x : Row) → x ∈ s → x ∈ t) → Rooted seen s
      → (x : Row) → x ∈ s → x.number ∈ numbers_in (walked t)
  reached seen [] h g r x m = absurd (Memᴰ.not-nil m)
  reached seen (y ∷ s) h g r x m = go m (reached (y.number ∷ seen) s more (λ z k. g z (there k)) r.1 x)
    where
      up : y.parent ∈ TOP ∷ seen → (y.parent ∈ TOP ∷ numbers t) × (y.parent ∈ TOP ∷ numbers_in (walked t))
      up (here e) = (here e, here e)
      up (there k) = (there (h y.parent k).0, there (h y.parent k).1)

      this : y.number ∈ numbers_in (walked t)
      this = let u = up r.0 in (holds_list y.parent u.0 u.1).1 y.number (row_child t y (g y (here refl)))

      more : (n : ℕ) → n ∈ y.number ∷ seen → Reached n
      more n (here e) = (Memᴰ.cast e (row_number t y (g y (here refl))), Memᴰ.cast e this)
      more n (there k) = h n k

      go : x ∈ y ∷ s → (x ∈ s → x.number ∈ numbers_in (walked t)) → x.number ∈ numbers_in (walked t)
      go (here e) f = Memᴰ.cast (ap number_of e) this
      go (there k) f = f k

  -- ---- exactly the table's facts

  module _ (rooted : Rooted [] t) where
    all_reached : (n : ℕ) → n ∈ numbers t → n ∈ numbers_in (walked t)
    all_reached n m =
        let w = number_row t n m in
        Memᴰ.cast (sym w.2) (reached [] t (λ j k. absurd (Memᴰ.not-nil k)) (λ x k. k) rooted w.0 w.1)

    walked-positions : (a : PositionFact) → a ∈ tree_positions TOP START (walked t) → a ∈ positions
    walked-positions = positions_in_lem STEPS TOP START enough (here refl) (here refl)

    positions-walked : (a : PositionFact) → a ∈ positions → a ∈ tree_positions TOP START (walked t)
    positions-walked a m = let w = list_of t a m in (holds_list w.0 w.1 (up w.0 w.1)).0 a w.2
      where
        up : (r : ℕ) → r ∈ TOP ∷ numbers t → r ∈ TOP ∷ numbers_in (walked t)
        up r (here e) = here e
        up r (there k) = there (all_reached r k)

    walked-contents : (a : ContentFact) → a ∈ tree_contents (walked t) → a ∈ contents
    walked-contents a m =
        let w = position_to TOP START (walked t) a m in
        let v = (walk-tree positions (table_sound t d).positions_agree content).valid a.number w.3 in
        let i = subst (λ (n : ℕ). T (is_record n)) (sym w.2) v in
        let u = (table_sound t d).named w.0 (walked-positions w.0 w.1) i in
        found_in contents a u.0 u.1 (u.2 ∙ w.2) (walk-content next content STEPS TOP START a m)

    contents-walked : (a : ContentFact) → a ∈ contents → a ∈ tree_contents (walked t)
    contents-walked a m =
        let v = content-row t a m in
        let n : a.number ∈ numbers t = Memᴰ.cast (sym (ap record_of v.2)) (row_number t v.0 v.1) in
        let w = number_content (walked t) a.number (all_reached a.number n) in
        let agree = contents_coherent t d a w.0 m (walked-contents w.0 w.1) in
        same w.0 w.1 (sym w.2) (one_content a w.0 agree (sym w.2))
      where
        same : (b : ContentFact) → b ∈ tree_contents (walked t) → a.number ≡ b.number → a.content ≡ b.content
            → a ∈ tree_contents (walked t)
        same b k p q = Memᴰ.cast (λ i. content_fact (p i) (q i)) k

    walked-tree : TreeOf (facts_of t) (walked t)
    walked-tree =
        record {
          tree = walk-tree positions (table_sound t d).positions_agree content;
          positions_in_lem = walked-positions;
          positions_have = positions-walked;
          contents_in_lem = walked-contents;
          contents_have = contents-walked;
        }

-- a readable table is a tree with exactly its facts
pub tree_of_table : (t : List Row) → Readable t → TreeOf (facts_of t) (tree_of t)
tree_of_table t r = subst (TreeOf (facts_of t)) (sym (tree-walked t r.distinct)) (walked-tree t r.distinct r.rooted)
