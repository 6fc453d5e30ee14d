-- The walk: it follows a tree whose position facts it is given, goes only to records, and takes its contents from the facts.
-- r is a parent, p the one before, n a record, k the steps left, f a tree, a and b facts; `next` says who follows, `content` what
-- each record holds. Assumes nothing.
use mathlib.Core.Path.{◌≡◌, refl, sym, ap, ap₂, ◌∙◌, subst}
use mathlib.Core.Logic.{◌⊎◌, inl, inr}
use mathlib.Core.Bool.{Bool, ◌&&◌}
use mathlib.Core.Option.{Option, none, some}
use mathlib.Core.List.Memᴰ
use mathlib.Core.List.Memᴰ.{head as here}
use mathlib.Core.List.Memᴰ.{tail as there}
use mathlib.Core.List.{List, [], ◌∷◌, ◌++◌, map}
use Prim.Native.Nat.{ℕ, zero, suc, ◌≤◌, ◌+◌}
use native.Mathlib.Omega.{arith}
use lib.ListN.{length, length-append}
use lib.Dec.{T, eqb, eqb→eq, eqb_refl}
use mir.Facts.{and_yes, yes_and}
use Rattle.rules.specs.Lists.{◌∈◌, first, keep}
use Rattle.rules.specs.Marks.{END, START, is_record}
use Rattle.rules.specs.Line.{Content}
use Rattle.rules.specs.Tree.{Tree, empty, node, numbers_in}
use Rattle.rules.specs.Facts.{ContentFact, PositionFact, content_fact, contents_disagree, position, positions_disagree, tree_contents}
use Rattle.rules.specs.Facts.{tree_positions}
use Rattle.rules.specs.Merge.{content_in, follower, goes_on, onward, or_empty, walk}
use Rattle.trees.proofs.Lists.{keep_in, keep_none, keep_out}
use Rattle.trees.proofs.Sets.{first_is}
use Rattle.trees.proofs.Kept.{Coherent}
use Rattle.trees.proofs.Disagreeing.{after_of, before_of, one_after, one_content, parent_of, record_of}

-- ---- one step

pub goes_on_out : (r p : ℕ) (a : PositionFact) → T (goes_on r p a) → (a.parent ≡ r) × (a.before ≡ p) × T (is_record a.after)
goes_on_out r p a t =
    let u = and_yes (eqb a.parent r) (eqb a.before p && is_record a.after) t in
    let v = and_yes (eqb a.before p) (is_record a.after) u.1 in
    (eqb→eq a.parent r u.0, eqb→eq a.before p v.0, v.1)

goes_on_in : (a : PositionFact) → T (is_record a.after) → T (goes_on a.parent a.before a)
goes_on_in a t =
    yes_and (eqb a.parent a.parent) (eqb a.before a.before && is_record a.after) (eqb_refl a.parent)
    (yes_and (eqb a.before a.before) (is_record a.after) (eqb_refl a.before) t)

-- a step is one of the facts, and goes to a record
step_from : (facts : List PositionFact) (r p n : ℕ) → follower facts r p ≡ some n → (position r p n ∈ facts) × T (is_record n)
unfolding follower
step_from facts r p n = go (keep (goes_on r p) facts) (λ a m. keep_out (goes_on r p) facts m)
  where
    go : (those : List PositionFact) → ((a : PositionFact) → a ∈ those → (a ∈ facts) × T (goes_on r p a))
        → first (map after_of those) ≡ some n → (position r p n ∈ facts) × T (is_record n)
    go [] h e = let z : ◌≡◌ {A = ℕ} 0 1 = cc in absurd (omega arith)
    go (a ∷ those) h e =
        let w = h a (here refl) in
        let g = goes_on_out r p a w.1 in
        let s : a.after ≡ n = cc in
        let q : a ≡ position r p n = λ i. record { parent = g.0 i; before = g.1 i; after = s i } in
        (Memᴰ.cast (sym q) w.0, subst (λ (m : ℕ). T (is_record m)) s g.2)

pub step_in : (facts : List PositionFact) (r p n : ℕ) → follower facts r p ≡ some n → position r p n ∈ facts
step_in facts r p n e = (step_from facts r p n e).0

pub step_record : (facts : List PositionFact) (r p n : ℕ) → follower facts r p ≡ some n → T (is_record n)
step_record facts r p n e = (step_from facts r p n e).1

-- the step goes as the position fact says
abbrev pub Goes : (ℕ → ℕ → Option ℕ) → PositionFact → Type 0
Goes next a =
    (a.after ≡ END → next a.parent a.before ≡ none) × (T (is_record a.after) → next a.parent a.before ≡ some a.after)

-- so it does for facts g among others with which they do not disagree
module _ (facts g : List PositionFact) (sub : (a : PositionFact) → a ∈ g → a ∈ facts)
    (agree : (a b : PositionFact) → a ∈ g → b ∈ facts → T (positions_disagree b a) → ⊥) where
  same_after_lem : (a b : PositionFact) → a ∈ g → b ∈ facts → T (goes_on a.parent a.before b)
      → (b.after ≡ a.after) × T (is_record b.after)
  same_after_lem a b m k t =
      let w = goes_on_out a.parent a.before b t in (one_after b a (agree a b m k) w.0 w.1, w.2)

  pub goes : (a : PositionFact) → a ∈ g → Goes (follower facts) a
  unfolding follower
  goes a m = (ends, on)
    where
      ends : a.after ≡ END → first (map after_of (keep (goes_on a.parent a.before) facts)) ≡ none
      ends e =
          ap (λ (l : List PositionFact). first (map after_of l)) (keep_none (goes_on a.parent a.before) facts (λ b k t.
          let w = same_after_lem a b m k t in subst (λ (n : ℕ). T (is_record n)) (w.0 ∙ e) w.1))

      on : T (is_record a.after) → first (map after_of (keep (goes_on a.parent a.before) facts)) ≡ some a.after
      on t = first_is (goes_on a.parent a.before) after_of a facts (sub a m) (goes_on_in a t) (λ b k u. (same_after_lem a b m k u).0)

-- the step read off facts that do not disagree: what a table of followers has to give
module _ (facts : List PositionFact) where
  pub step_goes : Coherent positions_disagree facts → (a : PositionFact) → a ∈ facts → Goes (follower facts) a
  step_goes agree = goes facts facts (λ a m. m) (λ a b m k. agree b a k m)

  pub step_is : Coherent positions_disagree facts → (r p n : ℕ) → T (is_record n) → position r p n ∈ facts → follower facts r p ≡ some n
  step_is agree r p n i m = (step_goes agree (position r p n) m).1 i

  pub step_none : (r p : ℕ) → ((n : ℕ) → T (is_record n) → position r p n ∈ facts → ⊥) → follower facts r p ≡ none
  step_none r p h = go (follower facts r p) refl
    where
      go : (o : Option ℕ) → follower facts r p ≡ o → follower facts r p ≡ none
      go none e = e
      go (some n) e = absurd (h n (step_record facts r p n e) (step_in facts r p n e))

-- ---- contents

-- the content found is that of facts g among others with which they do not disagree
pub content_is : (facts g : List ContentFact) → ((a : ContentFact) → a ∈ g → a ∈ facts)
    → ((a b : ContentFact) → a ∈ g → b ∈ facts → T (contents_disagree b a) → ⊥)
    → (a : ContentFact) → a ∈ g → content_in facts a.number ≡ a.content
unfolding content_in
content_is facts g sub agree a m =
    ap or_empty (first_is (λ (b : ContentFact). eqb b.number a.number) (λ (b : ContentFact). b.content) a facts (sub a m)
    (eqb_refl a.number) (λ b k t. one_content b a (agree a b m k) (eqb→eq b.number a.number t)))

-- and it is one that is there
content_there : (facts : List ContentFact) (a : ContentFact) → a ∈ facts
    → content_fact a.number (content_in facts a.number) ∈ facts
unfolding content_in
content_there facts a m = go (keep test facts) (keep_in test m (eqb_refl a.number)) (λ b k. keep_out test facts k)
  where
    test : ContentFact → Bool
    test b = eqb b.number a.number

    go : (those : List ContentFact) → a ∈ those → ((b : ContentFact) → b ∈ those → (b ∈ facts) × T (eqb b.number a.number))
        → content_fact a.number (or_empty (first (map (λ (b : ContentFact). b.content) those))) ∈ facts
    go [] i h = absurd (Memᴰ.not-nil i)
    go (b ∷ those) i h =
        let w = h b (here refl) in
        let e = sym (eqb→eq b.number a.number w.1) in
        Memᴰ.cast (λ j. content_fact (e j) b.content) w.0

-- so a record with some content among the facts has there the content found
pub found_in : (facts : List ContentFact) (a b : ContentFact) → b ∈ facts → b.number ≡ a.number
    → a.content ≡ content_in facts a.number → a ∈ facts
found_in facts a b m q e =
    let n = sym q in
    let c : a.content ≡ content_in facts b.number = e ∙ ap (content_in facts) n in
    Memᴰ.cast (λ i. content_fact (n i) (c i)) (content_there facts b m)

-- a record of a tree follows another, or START
pub position_to : (r p : ℕ) (f : Tree) (a : ContentFact) → a ∈ tree_contents f
    → (b : PositionFact) × (b ∈ tree_positions r p f) × (b.after ≡ a.number) × (a.number ∈ numbers_in f)
position_to r p empty a m = absurd (Memᴰ.not-nil m)
position_to r p (node n c below after) a (here e) = (position r p n, here refl, sym (ap record_of e), here (ap record_of e))
position_to r p (node n c below after) a (there m) =
    elim (Memᴰ.append_cases (tree_contents below) m) [
      | inl i ↦ let w = position_to n START below a i in
          (w.0, there (Memᴰ.append_left (tree_positions r n after) w.1), w.2, there (Memᴰ.append_left (numbers_in after) w.3))
      | inr i ↦ let w = position_to r n after a i in
          (w.0, there (Memᴰ.append_right (tree_positions n START below) w.1), w.2, there (Memᴰ.append_right (numbers_in below) w.3))
    ]

-- ---- the walk

module _ (next : ℕ → ℕ → Option ℕ) (content : ℕ → Content) where
  abbrev made : ℕ → ℕ → Option ℕ → Tree
  made k r o = onward o (λ n. node n (content n) (walk next content k n START) (walk next content k r n))

  pub walk_none : (k r p : ℕ) → next r p ≡ none → walk next content (suc k) r p ≡ empty
  unfolding walk
  walk_none k r p e = ap (made k r) e

  pub walk_some : (k r p n : ℕ) → next r p ≡ some n
      → walk next content (suc k) r p ≡ node n (content n) (walk next content k n START) (walk next content k r n)
  unfolding walk
  walk_some k r p n e = ap (made k r) e

  -- what holds where the steps run out, where nobody follows, and of a record if of what is below and after it
  pub walk_induction : (P : ℕ → ℕ → ℕ → Tree → Type 0) → ((r p : ℕ) → P zero r p empty)
      → ((k r p : ℕ) → next r p ≡ none → P (suc k) r p empty)
      → ((k r p n : ℕ) (below after : Tree) → next r p ≡ some n → P k n START below → P k r n after
      → P (suc k) r p (node n (content n) below after))
      → (k r p : ℕ) → P k r p (walk next content k r p)
  unfolding walk
  walk_induction P out ended on zero r p = out r p
  walk_induction P out ended on (suc k) r p =
      go (next r p) refl (λ n. walk_induction P out ended on k n START) (λ n. walk_induction P out ended on k r n)
    where
      go : (o : Option ℕ) → next r p ≡ o → ((n : ℕ) → P k n START (walk next content k n START))
          → ((n : ℕ) → P k r n (walk next content k r n)) → P (suc k) r p (made k r o)
      go none e a b = ended k r p e
      go (some n) e a b = on k r p n (walk next content k n START) (walk next content k r n) e (a n) (b n)

  -- along a tree: where the steps go as its position facts say, the walk gives the tree
  pub follow : (k r p : ℕ) (f : Tree) → length (numbers_in f) ≤ k → ((n : ℕ) → n ∈ numbers_in f → T (is_record n))
      → ((a : PositionFact) → a ∈ tree_positions r p f → Goes next a)
      → ((a : ContentFact) → a ∈ tree_contents f → content a.number ≡ a.content) → walk next content k r p ≡ f
  unfolding walk
  follow zero r p empty h valid goes holds = refl
  follow zero r p (node n c below after) h valid goes holds = absurd (omega arith)
  follow (suc k) r p empty h valid goes holds = walk_none k r p ((goes (position r p END) (here refl)).0 refl)
  follow (suc k) r p (node n c below after) h valid goes holds =
      let l : length (numbers_in below ++ numbers_in after) ≡ length (numbers_in below) + length (numbers_in after) =
      length-append (numbers_in below) (numbers_in after) in
      let d : walk next content k n START ≡ below =
      follow k n START below (omega arith) (λ m i. valid m (there (Memᴰ.append_left (numbers_in after) i)))
      (λ a i. goes a (there (Memᴰ.append_left (tree_positions r n after) i)))
      (λ a i. holds a (there (Memᴰ.append_left (tree_contents after) i))) in
      let e : walk next content k r n ≡ after =
      follow k r n after (omega arith) (λ m i. valid m (there (Memᴰ.append_right (numbers_in below) i)))
      (λ a i. goes a (there (Memᴰ.append_right (tree_positions n START below) i)))
      (λ a i. holds a (there (Memᴰ.append_right (tree_contents below) i))) in
      let q : content n ≡ c = holds (content_fact n c) (here refl) in
      walk_some k r p n ((goes (position r p n) (here refl)).1 (valid n (here refl))) ∙ cc

  -- ---- what the walk makes

  -- records only
  pub walk_record : ((r p n : ℕ) → next r p ≡ some n → T (is_record n))
      → (k r p : ℕ) (n : ℕ) → n ∈ numbers_in (walk next content k r p) → T (is_record n)
  walk_record valid = walk_induction (λ k r p f. (n : ℕ) → n ∈ numbers_in f → T (is_record n)) (λ r p. none_in) (λ k r p e. none_in) on
    where
      none_in : (n : ℕ) → n ∈ [] → T (is_record n)
      none_in n m = absurd (Memᴰ.not-nil m)

      on : (k r p n : ℕ) (below after : Tree) → next r p ≡ some n → ((m : ℕ) → m ∈ numbers_in below → T (is_record m))
          → ((m : ℕ) → m ∈ numbers_in after → T (is_record m)) → (m : ℕ) → m ∈ numbers_in (node n (content n) below after) → T (is_record m)
      on k r p n below after e u v m (here q) = subst (λ (j : ℕ). T (is_record j)) (sym q) (valid r p n e)
      on k r p n below after e u v m (there i) = elim (Memᴰ.append_cases (numbers_in below) i) [ inl j ↦ u m j | inr j ↦ v m j ]

  -- each with the content given
  abbrev HoldsContents : Tree → Type 0
  HoldsContents f = (a : ContentFact) → a ∈ tree_contents f → a.content ≡ content a.number

  pub walk-content : (k r p : ℕ) → HoldsContents (walk next content k r p)
  walk-content = walk_induction (λ k r p f. HoldsContents f) (λ r p. none_in) (λ k r p e. none_in) on
    where
      none_in : HoldsContents empty
      none_in a m = absurd (Memᴰ.not-nil m)

      on : (k r p n : ℕ) (below after : Tree) → next r p ≡ some n → HoldsContents below → HoldsContents after
          → HoldsContents (node n (content n) below after)
      on k r p n below after e u v a (here q) = ap (λ (b : ContentFact). b.content) q ∙ ap content (sym (ap record_of q))
      on k r p n below after e u v a (there i) = elim (Memᴰ.append_cases (tree_contents below) i) [ inl j ↦ u a j | inr j ↦ v a j ]

  -- a position fact of what it makes is a step, or an end
  abbrev IsStep : PositionFact → Type 0
  IsStep a = (next a.parent a.before ≡ some a.after) ⊎ (a.after ≡ END)

  abbrev HoldsSteps : ℕ → ℕ → Tree → Type 0
  HoldsSteps r p f = (a : PositionFact) → a ∈ tree_positions r p f → IsStep a

  pub walk-position : (k r p : ℕ) → HoldsSteps r p (walk next content k r p)
  walk-position = walk_induction (λ k r p f. HoldsSteps r p f) (λ r p. end) (λ k r p e. end) on
    where
      end : {r p : ℕ} → HoldsSteps r p empty
      end a (here e) = inr (ap after_of e)
      end a (there m) = absurd (Memᴰ.not-nil m)

      on : (k r p n : ℕ) (below after : Tree) → next r p ≡ some n → HoldsSteps n START below → HoldsSteps r n after
          → HoldsSteps r p (node n (content n) below after)
      on k r p n below after e u v a (here q) = inl (ap₂ next (ap parent_of q) (ap before_of q) ∙ e ∙ ap some (sym (ap after_of q)))
      on k r p n below after e u v a (there i) =
          elim (Memᴰ.append_cases (tree_positions n START below) i) [ inl j ↦ u a j | inr j ↦ v a j ]
