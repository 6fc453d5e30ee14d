-- The walk meets what Conditions says it meets: the positions of the merged tree begin where the walk comes to, and nowhere else. So the
-- places of 24 are exactly the broken lists, and those of 25 exactly the lost edits, once the edits agree. r is a parent, p the one before,
-- s and x are those after, n is a record, k the steps left, f a tree, a and b are facts. Assumes nothing.
use mathlib.Core.Path.{◌≡◌, refl, sym, ap, ap₂, ◌∙◌, subst}
use mathlib.Core.Logic.{◌⊎◌, inl, inr}
use mathlib.Core.Bool.{Bool, not}
use mathlib.Core.Option.{Option, none, some}
use mathlib.Core.List.Memᴰ
use mathlib.Core.List.Memᴰ.{head as here}
use mathlib.Core.List.Memᴰ.{tail as there}
use mathlib.Core.List.{List, ◌++◌, map}
use Prim.Native.Nat.{ℕ, suc, ◌<◌}
use native.Mathlib.Omega.{arith}
use lib.Dec.{T, T_not, not_T}
use Rattle.rules.specs.Lists.{◌∈◌, any}
use Rattle.rules.specs.Marks.{END, START, TOP, is_record}
use Rattle.rules.specs.Line.{Content}
use Rattle.rules.specs.Tree.{STEPS, Tree, empty, node, numbers_in}
use Rattle.rules.specs.Facts.{ContentFact, Facts, PositionFact, content_fact, contents_disagree, lacking, position, positions_disagree}
use Rattle.rules.specs.Facts.{same_content_fact, same_position, tree_contents, tree_positions}
use Rattle.rules.specs.Merge.{broken_lists, content_edits, content_in, follower, kept_contents, kept_positions, lost_edits, merged_tree}
use Rattle.rules.specs.Merge.{position_edits, walk}
use Rattle.rules.specs.Conditions.{BrokenList, ContentEdit, HeldContent, HeldPosition, KeptPosition, LostContent, LostEdit, LostPosition}
use Rattle.rules.specs.Conditions.{Met, begin, on, under}
use Rattle.trees.proofs.Lists.{keep_in, keep_out}
use Rattle.trees.proofs.Kept.{Coherent, Tells, has_in_lem, has_out}
use Rattle.trees.proofs.Disagreeing.{after_of, before_of, content_tells, parent_of, position_tells, record_of}
use Rattle.trees.proofs.Walk.{content_is, position_to, step_goes, step_in, step_record, walk-content, walk_induction}
use Rattle.trees.proofs.Reached.{steps_enough, steps_of}
use Rattle.trees.proofs.TableTree.{number_content}
use Rattle.trees.proofs.Clashing.{Places, content_edit_in, content_edit_out, kept-content_in, kept-position_in, kept-position_out}
use Rattle.trees.proofs.Clashing.{position_edit_in, position_edit_out}

-- ---- those that another list lacks, and their places

module _ {A : Type 0} {same : A → A → Bool} (tells : Tells same) (place : A → ℕ) (xs ys : List A) where
  lacking_out : (n : ℕ) → n ∈ map place (lacking same xs ys) → (a : A) × (a ∈ xs) × (a ∈ ys → ⊥) × (place a ≡ n)
  lacking_out n m =
      let v = Memᴰ.of_map place (lacking same xs ys) m in
      let w = keep_out (λ (x : A). not (any (same x) ys)) xs v.1 in
      (v.0, w.0, λ i. T_not (any (same v.0) ys) w.1 (has_in_lem tells i), v.2)

  lacking_in : (a : A) → a ∈ xs → (a ∈ ys → ⊥) → place a ∈ map place (lacking same xs ys)
  lacking_in a m h =
      Memᴰ.map place (keep_in (λ (x : A). not (any (same x) ys)) m (not_T (any (same a) ys) (λ t. h (has_out tells ys t))))

-- ---- the positions of a tree, whose first list is that of r, from p on

-- one of them begins under r at p
abbrev Begins : List PositionFact → ℕ → ℕ → Type 0
Begins positions r p = (s : ℕ) × (position r p s ∈ positions)

first_begins : (r p : ℕ) (f : Tree) → Begins (tree_positions r p f) r p
first_begins r p empty = (END, here refl)
first_begins r p (node n c below after) = (n, here refl)

-- where one goes to a record, another goes on from it, and a third begins its list
goes_further : (r p : ℕ) (f : Tree) (a : PositionFact) → T (is_record a.after) → a ∈ tree_positions r p f
    → Begins (tree_positions r p f) a.parent a.after × Begins (tree_positions r p f) a.after START × (a.after ∈ numbers_in f)
goes_further r p empty a i (here e) = absurd (subst (λ (n : ℕ). T (is_record n)) (ap after_of e) i)
goes_further r p empty a i (there m) = absurd (Memᴰ.not-nil m)
goes_further r p (node n c below after) a i (here e) =
    let u = first_begins r n after in
    let v = first_begins n START below in
    let q : a.parent ≡ r = ap parent_of e in
    let d : a.after ≡ n = ap after_of e in (
      (u.0, there (Memᴰ.append_right (tree_positions n START below) (Memᴰ.cast (ap₂ (λ (j k : ℕ). position j k u.0) q d) u.1))),
      (v.0, there (Memᴰ.append_left (tree_positions r n after) (Memᴰ.cast (ap (λ (j : ℕ). position j START v.0) d) v.1))),
      here d,
    )
goes_further r p (node n c below after) a i (there m) =
    elim (Memᴰ.append_cases (tree_positions n START below) m) [
      | inl j ↦ let w = goes_further n START below a i j in (
        (w.0.0, there (Memᴰ.append_left (tree_positions r n after) w.0.1)),
        (w.1.0, there (Memᴰ.append_left (tree_positions r n after) w.1.1)),
        there (Memᴰ.append_left (numbers_in after) w.2),
      )
      | inr j ↦ let w = goes_further r n after a i j in (
        (w.0.0, there (Memᴰ.append_right (tree_positions n START below) w.0.1)),
        (w.1.0, there (Memᴰ.append_right (tree_positions n START below) w.1.1)),
        there (Memᴰ.append_right (numbers_in below) w.2),
      )
    ]

-- ---- where the steps do not run out, each position of what the walk makes says how the step goes there

module _ (next : ℕ → ℕ → Option ℕ) (content : ℕ → Content) where
  abbrev Stepped : PositionFact → Type 0
  Stepped a =
      (next a.parent a.before ≡ some a.after) ⊎ ((next a.parent a.before ≡ none) × (a.after ≡ END))

  abbrev AllStepped : ℕ → ℕ → ℕ → Tree → Type 0
  AllStepped k r p f = steps_of f < k → (a : PositionFact) → a ∈ tree_positions r p f → Stepped a

  walk_stepped : (k r p : ℕ) → AllStepped k r p (walk next content k r p)
  walk_stepped = walk_induction next content AllStepped (λ r p h. absurd (omega arith)) ended more
    where
      ended : (k r p : ℕ) → next r p ≡ none → AllStepped (suc k) r p empty
      ended k r p e h a (here q) = inr (ap₂ next (ap parent_of q) (ap before_of q) ∙ e, ap after_of q)
      ended k r p e h a (there m) = absurd (Memᴰ.not-nil m)

      more : (k r p n : ℕ) (below after : Tree) → next r p ≡ some n → AllStepped k n START below → AllStepped k r n after
          → AllStepped (suc k) r p (node n (content n) below after)
      more k r p n below after e u v h a (here q) = inl (ap₂ next (ap parent_of q) (ap before_of q) ∙ e ∙ ap some (sym (ap after_of q)))
      more k r p n below after e u v h a (there m) =
          elim (Memᴰ.append_cases (tree_positions n START below) m) [ inl i ↦ u (omega arith) a i | inr i ↦ v (omega arith) a i ]

-- ---- the walk of the merge

module _ (old : Facts) (branches : List Facts) where
  abbrev facts : List PositionFact
  facts = kept_positions old branches

  abbrev contents : List ContentFact
  contents = kept_contents old branches

  abbrev tree : Tree
  tree = merged_tree old branches

  -- what the walk makes begins only where it comes to, and each record is met
  abbrev AllMet : ℕ → ℕ → Tree → Type 0
  AllMet r p f =
      Met old branches r p → ((a : PositionFact) → a ∈ tree_positions r p f → Met old branches a.parent a.before)
      × ((n : ℕ) → n ∈ numbers_in f → Met old branches n START)

  walk_met : (k r p : ℕ) → AllMet r p (walk (follower facts) (content_in contents) k r p)
  walk_met = walk_induction (follower facts) (content_in contents) (λ k r p f. AllMet r p f) (λ r p. ended) (λ k r p e. ended) more
    where
      at : {r p : ℕ} (a : PositionFact) {s : ℕ} → a ≡ position r p s → Met old branches r p → Met old branches a.parent a.before
      at a e m = subst (λ (b : PositionFact). Met old branches b.parent b.before) (sym e) m

      ended : {r p : ℕ} → AllMet r p empty
      ended {r} {p} m = (positions, λ n k. absurd (Memᴰ.not-nil k))
        where
          positions : (a : PositionFact) → a ∈ tree_positions r p empty → Met old branches a.parent a.before
          positions a (here e) = at a e m
          positions a (there k) = absurd (Memᴰ.not-nil k)

      more : (k r p n : ℕ) (below after : Tree) → follower facts r p ≡ some n → AllMet n START below → AllMet r n after
          → AllMet r p (node n (content_in contents n) below after)
      more k r p n below after e u v m = (positions, numbers)
        where
          kept : KeptPosition old branches (position r p n)
          kept = kept-position_out old branches (position r p n) (step_in facts r p n e)

          i : T (is_record n)
          i = step_record facts r p n e

          positions : (a : PositionFact) → a ∈ tree_positions r p (node n (content_in contents n) below after)
              → Met old branches a.parent a.before
          positions a (here q) = at a q m
          positions a (there j) =
              elim (Memᴰ.append_cases (tree_positions n START below) j) [
                | inl l ↦ (u (under m kept i)).0 a l
                | inr l ↦ (v (on m kept i)).0 a l
              ]

          numbers : (j : ℕ) → j ∈ numbers_in (node n (content_in contents n) below after) → Met old branches j START
          numbers j (here q) = subst (λ (l : ℕ). Met old branches l START) (sym q) (under m kept i)
          numbers j (there w) =
              elim (Memᴰ.append_cases (numbers_in below) w) [
                | inl l ↦ (u (under m kept i)).1 j l
                | inr l ↦ (v (on m kept i)).1 j l
              ]

  tree_met : AllMet TOP START tree
  unfolding merged_tree
  tree_met = walk_met STEPS TOP START

  -- ---- once the edits agree

  module _ (agree : Coherent positions_disagree facts)
      (ends : (a : PositionFact) → a ∈ facts → (a.after ≡ END) ⊎ T (is_record a.after)) where
    stepped : (a : PositionFact) → a ∈ tree_positions TOP START tree → Stepped (follower facts) (content_in contents) a
    unfolding merged_tree
    stepped = walk_stepped (follower facts) (content_in contents) STEPS TOP START (steps_enough facts agree (content_in contents))

    -- a kept fact that begins where a position of the tree does is that position
    same_after_lem : (r p s x : ℕ) → position r p s ∈ facts → position r p x ∈ tree_positions TOP START tree → x ≡ s
    same_after_lem r p s x m k = go (stepped (position r p x) k) (ends (position r p s) m)
      where
        goes : (s ≡ END → follower facts r p ≡ none) × (T (is_record s) → follower facts r p ≡ some s)
        goes = step_goes facts agree (position r p s) m

        go : (follower facts r p ≡ some x) ⊎ ((follower facts r p ≡ none) × (x ≡ END)) → (s ≡ END) ⊎ T (is_record s) → x ≡ s
        go (inl e) (inl q) = let d = goes.0 q in let z : ◌≡◌ {A = ℕ} 0 1 = cc in absurd (omega arith)
        go (inl e) (inr i) = let d = goes.1 i in cc
        go (inr e) (inl q) = e.1 ∙ sym q
        go (inr e) (inr i) = let c = e.0 in let d = goes.1 i in let z : ◌≡◌ {A = ℕ} 0 1 = cc in absurd (omega arith)

    -- where the walk comes to, a position of the tree begins, under the top or a record of the tree
    met_begins : {r p : ℕ} → Met old branches r p → Begins (tree_positions TOP START tree) r p × ((r ≡ TOP) ⊎ (r ∈ numbers_in tree))
    met_begins begin = (first_begins TOP START tree, inl refl)
    met_begins (on {r} {p} {s} m k i) =
        let w = met_begins m in
        let e = same_after_lem r p s w.0.0 (kept-position_in old branches (position r p s) k) w.0.1 in
        let placed = Memᴰ.cast (ap (position r p) (sym e)) w.0.1 in
        ((goes_further TOP START tree (position r p s) i placed).0, w.1)
    met_begins (under {r} {p} {s} m k i) =
        let w = met_begins m in
        let e = same_after_lem r p s w.0.0 (kept-position_in old branches (position r p s) k) w.0.1 in
        let placed = Memᴰ.cast (ap (position r p) (sym e)) w.0.1 in
        let v = goes_further TOP START tree (position r p s) i placed in
        (v.1, inr v.2)

    -- so the position facts that are held are those of the tree
    held_position : (a : PositionFact) → HeldPosition old branches a → a ∈ tree_positions TOP START tree
    held_position a w =
        let v = (met_begins w.1).0 in
        let e = same_after_lem a.parent a.before a.after v.0 (kept-position_in old branches a w.0) v.1 in
        Memᴰ.cast (ap (position a.parent a.before) (sym e)) v.1

    -- ---- the places of 24

    pub broken_places : Places (BrokenList old branches) (broken_lists old branches)
    unfolding broken_lists
    broken_places = record { place-holds = holds; holds-place = place }
      where
        positions : List PositionFact
        positions = tree_positions TOP START tree

        holds : (r : ℕ) → r ∈ map parent_of (lacking same_position positions facts) → BrokenList old branches r
        holds r m =
            let w = lacking_out position_tells parent_of positions facts r m in
            let a = w.0 in
            let stops : (s : ℕ) → KeptPosition old branches (position a.parent a.before s) → ⊥ = λ s k.
            let i = kept-position_in old branches (position a.parent a.before s) k in
            let e = same_after_lem a.parent a.before s a.after i w.1 in
            w.2 (Memᴰ.cast (ap (position a.parent a.before) e) i) in
            subst (BrokenList old branches) w.3 (a.before, (tree_met begin).0 a w.1, stops)

        place : (r : ℕ) → BrokenList old branches r → r ∈ map parent_of (lacking same_position positions facts)
        place r (p, m, stops) =
            let w = (met_begins m).0 in
            lacking_in position_tells parent_of positions facts (position r p w.0) w.1
            (λ k. stops w.0 (kept-position_out old branches (position r p w.0) k))

    -- ---- the places of 25

    module _ (one : Coherent contents_disagree contents)
        (valid : (a : ContentFact) → ContentEdit old branches a → T (is_record a.number)) where
      content-found : (a : ContentFact) → a ∈ tree_contents tree → a.content ≡ content_in contents a.number
      unfolding merged_tree
      content-found a m = walk-content (follower facts) (content_in contents) STEPS TOP START a m

      reached : (n : ℕ) → T (is_record n) → Met old branches n START → n ∈ numbers_in tree
      reached n i m = go (met_begins m).1
        where
          go : (n ≡ TOP) ⊎ (n ∈ numbers_in tree) → n ∈ numbers_in tree
          go (inl e) = absurd (subst (λ (j : ℕ). T (is_record j)) e i)
          go (inr k) = k

      held_content : (a : ContentFact) → ContentEdit old branches a → HeldContent old branches a → a ∈ tree_contents tree
      held_content a i w =
          let b = number_content tree a.number (reached a.number (valid a i) w.1) in
          let found : content_in contents a.number ≡ a.content =
          content_is contents contents (λ c k. k) (λ c d k l. one d c l k) a (kept-content_in old branches a w.0) in
          let c : a.content ≡ b.0.content = sym found ∙ ap (content_in contents) (sym b.2) ∙ sym (content-found b.0 b.1) in
          let n : a.number ≡ b.0.number = sym b.2 in
          Memᴰ.cast (λ j. content_fact (n j) (c j)) b.1

      lost-content : (n : ℕ) → n ∈ map record_of (lacking same_content_fact (content_edits old branches) (tree_contents tree))
          → LostContent old branches n
      lost-content n m =
          let w = lacking_out content_tells record_of (content_edits old branches) (tree_contents tree) n m in
          let i = content_edit_out old branches w.0 w.1 in
          (w.0, i, w.3, λ h. w.2 (held_content w.0 i h))

      content-lost : (n : ℕ) → LostContent old branches n
          → n ∈ map record_of (lacking same_content_fact (content_edits old branches) (tree_contents tree))
      content-lost n (a, i, e, lost) =
          Memᴰ.cast (sym e) (lacking_in content_tells record_of (content_edits old branches) (tree_contents tree) a
          (content_edit_in old branches a i)
          (λ m. lost (inl i, (tree_met begin).1 a.number (position_to TOP START tree a m).3)))

      lost-position : (n : ℕ) → n ∈ map parent_of (lacking same_position (position_edits old branches) (tree_positions TOP START tree))
          → LostPosition old branches n
      lost-position n m =
          let w = lacking_out position_tells parent_of (position_edits old branches) (tree_positions TOP START tree) n m in
          (w.0, position_edit_out old branches w.0 w.1, w.3, λ h. w.2 (held_position w.0 h))

      position-lost : (n : ℕ) → LostPosition old branches n
          → n ∈ map parent_of (lacking same_position (position_edits old branches) (tree_positions TOP START tree))
      position-lost n (a, i, e, lost) =
          Memᴰ.cast (sym e) (lacking_in position_tells parent_of (position_edits old branches) (tree_positions TOP START tree) a
          (position_edit_in old branches a i) (λ m. lost (inl i, (tree_met begin).0 a m)))

      pub lost_places : Places (LostEdit old branches) (lost_edits old branches)
      unfolding lost_edits
      lost_places = record { place-holds = holds; holds-place = place }
        where
          records : List ℕ
          records = map record_of (lacking same_content_fact (content_edits old branches) (tree_contents tree))

          parents : List ℕ
          parents = map parent_of (lacking same_position (position_edits old branches) (tree_positions TOP START tree))

          holds : (n : ℕ) → n ∈ records ++ parents → LostEdit old branches n
          holds n m = elim (Memᴰ.append_cases records m) [ inl i ↦ inl (lost-content n i) | inr i ↦ inr (lost-position n i) ]

          place : (n : ℕ) → LostEdit old branches n → n ∈ records ++ parents
          place n (inl w) = Memᴰ.append_left parents (content-lost n w)
          place n (inr w) = Memᴰ.append_right records (position-lost n w)
