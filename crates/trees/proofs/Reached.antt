-- What the walk reaches, over facts that do not disagree: records, each once, with steps enough; and a reached parent's list whole.
-- r is a parent, p the one before, n a record, ns the numbers of a list, k the steps left, f a tree, a and b facts. Assumes nothing.
use mathlib.Core.Path.{◌≡◌, refl, sym, subst}
use mathlib.Core.Logic.{◌⊎◌, inl, inr}
use mathlib.Core.Option.{Option, none, some}
use mathlib.Core.List.Memᴰ
use mathlib.Core.List.Memᴰ.{head as here}
use mathlib.Core.List.Memᴰ.{tail as there}
use mathlib.Core.List.{List, [], ◌∷◌}
use Prim.Native.Nat.{ℕ, suc, ◌<◌, ◌≤◌, max}
use native.Mathlib.Omega.{arith}
use lib.ListN.{length, length-append}
use lib.Dec.{T}
use Rattle.rules.specs.Lists.{◌∈◌}
use Rattle.rules.specs.Marks.{END, START, TOP, is_record}
use Rattle.rules.specs.Line.{Content}
use Rattle.rules.specs.Tree.{STEPS, Tree, empty, node, numbers_in}
use Rattle.rules.specs.Facts.{PositionFact, list_facts, position, positions_disagree, tree_positions}
use Rattle.rules.specs.Merge.{follower, walk}
use Rattle.rules.specs.Demands.{IsTree}
use Rattle.trees.proofs.Sets.{pigeonhole}
use Rattle.trees.proofs.Marks.{record_high}
use Rattle.trees.proofs.Kept.{Coherent}
use Rattle.trees.proofs.Once.{records_once}
use Rattle.trees.proofs.Walk.{Goes, step_in, step_record, walk_induction, walk-position, walk_record}

-- ---- steps

-- the most steps from the start of the first list to an end
abbrev pub steps_of : Tree → ℕ
steps_of empty = 0
steps_of (node n c below after) = suc (max (steps_of below) (steps_of after))

steps_le : (f : Tree) → steps_of f ≤ length (numbers_in f)
steps_le empty = omega arith
steps_le (node n c below after) = omega (arith, steps_le below, steps_le after, length-append (numbers_in below) (numbers_in after))

-- a tree has fewer records than there are steps
pub tree_small : (f : Tree) → IsTree f → length (numbers_in f) < STEPS
tree_small f t =
    let h : length (TOP ∷ numbers_in f) ≤ STEPS = pigeonhole STEPS (TOP ∷ numbers_in f) (λ m. t.valid TOP m, t.once) low in
    omega arith
  where
    low : (n : ℕ) → n ∈ TOP ∷ numbers_in f → n < STEPS
    low n (here e) = omega arith
    low n (there m) = record_high n (t.valid n m)

-- ---- over facts that do not disagree

module _ (facts : List PositionFact) (agree : Coherent positions_disagree facts) (content : ℕ → Content) where
  abbrev walked : Tree
  walked = walk (follower facts) content STEPS TOP START

  records : (n : ℕ) → n ∈ numbers_in walked → T (is_record n)
  records = walk_record (follower facts) content (step_record facts) STEPS TOP START

  position_in : (a : PositionFact) → a ∈ tree_positions TOP START walked → T (is_record a.after) → a ∈ facts
  position_in a m i = go (walk-position (follower facts) content STEPS TOP START a m)
    where
      go : (follower facts a.parent a.before ≡ some a.after) ⊎ (a.after ≡ END) → a ∈ facts
      go (inl e) = step_in facts a.parent a.before a.after e
      go (inr e) = absurd (subst (λ (n : ℕ). T (is_record n)) e i)

  -- no record is reached twice
  pub walk-tree : IsTree walked
  walk-tree =
      record {
        once = records_once walked (λ a b m k i j. agree a b (position_in a m i) (position_in b k j)) records;
        valid = records;
      }

  -- the steps do not run out
  pub steps_enough : steps_of walked < STEPS
  steps_enough = omega (arith, steps_le walked, tree_small walked walk-tree)

-- ---- a reached parent's list

module _ (next : ℕ → ℕ → Option ℕ) (content : ℕ → Content) where
  -- the walk goes along the list of r from p on
  abbrev pub Along : ℕ → ℕ → List ℕ → Type 0
  Along r p ns = ((a : PositionFact) → a ∈ list_facts r p ns → Goes next a) × ((n : ℕ) → n ∈ ns → T (is_record n))

  -- the facts of a list and its children are in the tree, whose first list is that of r from p on
  abbrev pub Holds : ℕ → ℕ → Tree → List PositionFact → List ℕ → Type 0
  Holds r p f facts ns = ((a : PositionFact) → a ∈ facts → a ∈ tree_positions r p f) × ((n : ℕ) → n ∈ ns → n ∈ numbers_in f)

  -- every list along which the walk goes, from its start or from the START of a record that it reached, is there whole
  pub record Whole (r p : ℕ) (f : Tree) : Type 0 where
    pub own : (ns : List ℕ) → Along r p ns → Holds r p f (list_facts r p ns) ns
    pub below : (n : ℕ) → n ∈ numbers_in f → (ns : List ℕ) → Along n START ns → Holds r p f (list_facts n START ns) ns

  whole_none : (r p : ℕ) → next r p ≡ none → Whole r p empty
  whole_none r p e = record { own = own; below = λ n m. absurd (Memᴰ.not-nil m) }
    where
      own : (ns : List ℕ) → Along r p ns → Holds r p empty (list_facts r p ns) ns
      own [] w = (λ a m. m, λ n m. m)
      own (n ∷ ns) w =
          let q : next r p ≡ some n = (w.0 (position r p n) (here refl)).1 (w.1 n (here refl)) in
          let z : ◌≡◌ {A = ℕ} 0 1 = cc in
          absurd (omega arith)

  module _ (r p n : ℕ) (c : Content) (below after : Tree) where
    abbrev whole : Tree
    whole = node n c below after

    in_below : {facts : List PositionFact} {ns : List ℕ} → Holds n START below facts ns → Holds r p whole facts ns
    in_below w = (
      λ a m. there (Memᴰ.append_left (tree_positions r n after) (w.0 a m)),
      λ j m. there (Memᴰ.append_left (numbers_in after) (w.1 j m)),
    )

    in_after : {facts : List PositionFact} {ns : List ℕ} → Holds r n after facts ns → Holds r p whole facts ns
    in_after w = (
      λ a m. there (Memᴰ.append_right (tree_positions n START below) (w.0 a m)),
      λ j m. there (Memᴰ.append_right (numbers_in below) (w.1 j m)),
    )

    more : (ns : List ℕ) → Holds r n after (list_facts r n ns) ns → Holds r p whole (list_facts r p (n ∷ ns)) (n ∷ ns)
    more ns w = (positions, numbers)
      where
        positions : (a : PositionFact) → a ∈ list_facts r p (n ∷ ns) → a ∈ tree_positions r p whole
        positions a (here e) = here e
        positions a (there m) = (in_after w).0 a m

        numbers : (j : ℕ) → j ∈ n ∷ ns → j ∈ numbers_in whole
        numbers j (here e) = here e
        numbers j (there m) = (in_after w).1 j m

    whole_some : next r p ≡ some n → Whole n START below → Whole r n after → Whole r p whole
    whole_some e u v = record { own = own; below = lower }
      where
        same : (j : ℕ) (ns : List ℕ) → j ≡ n → Along r p (j ∷ ns) → Holds r p whole (list_facts r p (j ∷ ns)) (j ∷ ns)
        same j ns q =
            subst (λ (i : ℕ). Along r p (i ∷ ns) → Holds r p whole (list_facts r p (i ∷ ns)) (i ∷ ns)) (sym q)
            (λ w. more ns (v.own ns (λ a m. w.0 a (there m), λ i m. w.1 i (there m))))

        own : (ns : List ℕ) → Along r p ns → Holds r p whole (list_facts r p ns) ns
        own [] w =
            let q : next r p ≡ none = (w.0 (position r p END) (here refl)).0 refl in
            let z : ◌≡◌ {A = ℕ} 0 1 = cc in
            absurd (omega arith)
        own (j ∷ ns) w =
            let q : next r p ≡ some j = (w.0 (position r p j) (here refl)).1 (w.1 j (here refl)) in
            let d : j ≡ n = cc in
            same j ns d w

        lower : (j : ℕ) → j ∈ numbers_in whole → (ns : List ℕ) → Along j START ns → Holds r p whole (list_facts j START ns) ns
        lower j (here q) ns w =
            subst (λ (i : ℕ). Along i START ns → Holds r p whole (list_facts i START ns) ns) (sym q) (λ z. in_below (u.own ns z)) w
        lower j (there m) ns w =
            elim (Memᴰ.append_cases (numbers_in below) m) [
              | inl i ↦ in_below (u.below j i ns w)
              | inr i ↦ in_after (v.below j i ns w)
            ]

  pub lists-whole : (k r p : ℕ) → steps_of (walk next content k r p) < k → Whole r p (walk next content k r p)
  lists-whole =
      walk_induction next content (λ k r p f. steps_of f < k → Whole r p f) (λ r p h. absurd (omega arith)) (λ k r p e h. whole_none r p e)
      (λ k r p n below after e u v h. whole_some r p n (content n) below after e (u (omega arith)) (v (omega arith)))
