-- Edits, disagreement and kept facts as the rules compute them are those that Conditions speaks of, and the places of codes 21 to 23 are
-- exactly those where two edits clash. a and b are facts, g and h parents given, n is a record, r a parent. Assumes nothing.
use mathlib.Core.Path.{◌≡◌, refl, sym, ◌∙◌, subst}
use mathlib.Core.Logic.{◌⊎◌, inl, inr}
use mathlib.Core.Bool.{Bool, not, ◌&&◌, ◌||◌}
use mathlib.Core.List.Memᴰ
use mathlib.Core.List.Memᴰ.{head as here}
use mathlib.Core.List.{List, [], ◌∷◌, map}
use Prim.Native.Nat.{ℕ}
use lib.Dec.{T, T_not, eqb, eqb→eq, eqb_refl}
use mir.Facts.{and_yes, yes_and, or_yes, yes_eqb, no_eqb, eqb_no}
use Rattle.rules.specs.Lists.{◌∈◌, any, flat}
use Rattle.rules.specs.Facts.{ContentFact, Facts, ParentGiven, PositionFact, contents_disagree, contents_of, disagreeing, edits, kept}
use Rattle.rules.specs.Facts.{neighbours_disagree, parent_given, parents_differ, parents_disagree, parents_given, positions_disagree}
use Rattle.rules.specs.Facts.{positions_of, same_content}
use Rattle.rules.specs.Merge.{content_clashes, content_edits, kept_contents, kept_positions, neighbour_clashes, parent_clashes}
use Rattle.rules.specs.Merge.{position_edits}
use Rattle.rules.specs.Conditions.{ContentClash, ContentEdit, ContentsDisagree, DifferentContents, DifferentFollowers}
use Rattle.rules.specs.Conditions.{DifferentForerunners, DifferentNeighbours, DifferentParents, Edit, GivesParent, Kept, KeptContent}
use Rattle.rules.specs.Conditions.{KeptPosition, NeighbourClash, Nowhere, ParentClash, PositionEdit, PositionsDisagree}
use Rattle.trees.proofs.Lists.{any_in, any_out, cannot_fail, flat_in, flat_out, or_left, or_right}
use Rattle.trees.proofs.Kept.{Agrees, Tells, edit_from, edit_in, edit_kept, kept_cases, old-kept, places_in, places_out}
use Rattle.trees.proofs.Disagreeing.{content_tells, contents_agree, given_in, given_out, one_content, parent_of, position_tells}
use Rattle.trees.proofs.Disagreeing.{record_of}

-- the list has exactly the places where the condition holds
pub record Places (Condition : ℕ → Type 0) (places : List ℕ) : Type 0 where
  pub place-holds : (n : ℕ) → n ∈ places → Condition n
  pub holds-place : (n : ℕ) → Condition n → n ∈ places

module _ (Condition : ℕ → Type 0) where
  -- the list is empty exactly if the condition holds nowhere
  pub none_nowhere : (places : List ℕ) → Places Condition places → places ≡ [] → Nowhere Condition
  none_nowhere places w e n c = Memᴰ.not-nil (subst (λ (ns : List ℕ). n ∈ ns) e (w.holds-place n c))

  pub nowhere_none : (places : List ℕ) → Places Condition places → Nowhere Condition → places ≡ []
  nowhere_none [] w none = refl
  nowhere_none (n ∷ places) w none = absurd (none n (w.place-holds n (here refl)))

-- ---- disagreement

pub contents_differ : (a b : ContentFact) → T (contents_disagree a b) → DifferentContents a.number a b
contents_differ a b t =
    let w = and_yes (eqb a.number b.number) (not (same_content a.content b.content)) t in
    (refl, sym (eqb→eq a.number b.number w.0), λ e. contents_agree a b (λ q. e) t)

pub differ_contents : (n : ℕ) (a b : ContentFact) → DifferentContents n a b → T (contents_disagree a b)
differ_contents n a b w =
    cannot_fail (contents_disagree a b) (λ t. w.2 (one_content a b (λ u. T_not (contents_disagree a b) t u) (w.0 ∙ sym w.1)))

pub neighbours_differ : (a b : PositionFact) → T (neighbours_disagree a b) → DifferentNeighbours a.parent a b
neighbours_differ a b t = (refl, sym (eqb→eq a.parent b.parent w.0), go (or_yes (p && not s) (s && not p) w.1))
  where
    s : Bool
    s = eqb a.after b.after

    p : Bool
    p = eqb a.before b.before

    w : T (eqb a.parent b.parent) × T ((p && not s) || (s && not p))
    w = and_yes (eqb a.parent b.parent) _ t

    go : T (p && not s) ⊎ T (s && not p) → DifferentFollowers a b ⊎ DifferentForerunners a b
    go (inl u) = let v = and_yes p (not s) u in inl (eqb→eq a.before b.before v.0, eqb_no v.1)
    go (inr u) = let v = and_yes s (not p) u in inr (eqb→eq a.after b.after v.0, eqb_no v.1)

pub differ_neighbours : (r : ℕ) (a b : PositionFact) → DifferentNeighbours r a b → T (neighbours_disagree a b)
differ_neighbours r a b w = yes_and (eqb a.parent b.parent) _ (yes_eqb (w.0 ∙ sym w.1)) (go w.2)
  where
    s : Bool
    s = eqb a.after b.after

    p : Bool
    p = eqb a.before b.before

    go : DifferentFollowers a b ⊎ DifferentForerunners a b → T ((p && not s) || (s && not p))
    go (inl v) = or_left (p && not s) (s && not p) (yes_and p (not s) (yes_eqb v.0) (no_eqb v.1))
    go (inr v) = or_right (p && not s) (s && not p) (yes_and s (not p) (yes_eqb v.0) (no_eqb v.1))

pub parents_differ_lem : (g h : ParentGiven) (a b : PositionFact) → g ∈ parents_given a → h ∈ parents_given b → T (parents_differ g h)
    → DifferentParents g.number a b
parents_differ_lem g h a b m k t =
    let u = given_out g a m in
    let v = given_out h b k in
    let w = and_yes (eqb g.number h.number) (not (eqb g.parent h.parent)) t in
    let e = sym (eqb→eq g.number h.number w.0) in
    ((u.1, u.2), subst (λ (n : ℕ). GivesParent n b) e (v.1, v.2), λ q. eqb_no w.1 (u.0 ∙ q ∙ sym v.0))

pub differ_parents : (n : ℕ) (a b : PositionFact) → DifferentParents n a b
    → T (parents_differ (parent_given n a.parent) (parent_given n b.parent))
differ_parents n a b w = yes_and (eqb n n) (not (eqb a.parent b.parent)) (eqb_refl n) (no_eqb w.2)

positions_differ : (a b : PositionFact) → T (positions_disagree a b) → PositionsDisagree a b
positions_differ a b t = go (or_yes (parents_disagree a b) (neighbours_disagree a b) t)
  where
    go : T (parents_disagree a b) ⊎ T (neighbours_disagree a b) → PositionsDisagree a b
    go (inl u) =
        let v = any_out (λ (g : ParentGiven). any (parents_differ g) (parents_given b)) (parents_given a) u in
        let w = any_out (parents_differ v.0) (parents_given b) v.2 in
        inl (v.0.number, parents_differ_lem v.0 w.0 a b v.1 w.1 w.2)
    go (inr u) = inr (a.parent, neighbours_differ a b u)

pub differ_positions : (a b : PositionFact) → PositionsDisagree a b → T (positions_disagree a b)
differ_positions a b (inl (n, w)) =
    or_left (parents_disagree a b) (neighbours_disagree a b)
    (any_in (λ (g : ParentGiven). any (parents_differ g) (parents_given b)) (given_in n a w.0.0 w.0.1)
    (any_in (parents_differ (parent_given n a.parent)) (given_in n b w.1.0 w.1.1) (differ_parents n a b w)))
differ_positions a b (inr (r, w)) = or_right (parents_disagree a b) (neighbours_disagree a b) (differ_neighbours r a b w)

-- ---- edits and kept facts of one kind

module _ {A : Type 0} {same : A → A → Bool} (tells : Tells same) (part : Facts → List A) (old : Facts) (branches : List Facts) where
  abbrev the_edits : List A
  the_edits = edits same (part old) (map part branches)

  edit_listed : (a : A) → Edit part old branches a → a ∈ the_edits
  edit_listed a w = edit_in tells (part old) (map part branches) a (part w.0.0) (Memᴰ.map part w.0.1) w.0.2 w.1

  listed_edit : (a : A) → a ∈ the_edits → Edit part old branches a
  listed_edit a m =
      let v = edit_from tells (part old) (map part branches) a m in
      let w = Memᴰ.of_map part branches v.1 in
      ((w.0, w.1, subst (λ (l : List A). a ∈ l) (sym w.2) v.2), v.3)

  module _ (disagree : A → A → Bool) (Disagree : A → A → Type 0) (to : (a b : A) → T (disagree a b) → Disagree a b)
      (from : (a b : A) → Disagree a b → T (disagree a b)) where
    kept_listed : (a : A) → Kept part old branches Disagree a → a ∈ kept disagree the_edits (part old)
    kept_listed a (inl w) = edit_kept tells (part old) (map part branches) disagree a (edit_listed a w)
    kept_listed a (inr w) =
        old-kept tells (part old) (map part branches) disagree a w.0 (λ b m t. w.1 b (listed_edit b m) (to a b t))

    listed_kept : (a : A) → a ∈ kept disagree the_edits (part old) → Kept part old branches Disagree a
    listed_kept a m = go (kept_cases tells (part old) (map part branches) disagree a m)
      where
        go : (a ∈ the_edits) ⊎ ((a ∈ part old) × Agrees disagree a the_edits) → Kept part old branches Disagree a
        go (inl k) = inl (listed_edit a k)
        go (inr w) = inr (w.0, λ b k d. w.1 b (edit_listed b k) (from a b d))

-- ---- edits and kept facts of the merge

module _ (old : Facts) (branches : List Facts) where
  pub position_edit_in : (a : PositionFact) → PositionEdit old branches a → a ∈ position_edits old branches
  unfolding position_edits
  position_edit_in = edit_listed position_tells positions_of old branches

  pub position_edit_out : (a : PositionFact) → a ∈ position_edits old branches → PositionEdit old branches a
  unfolding position_edits
  position_edit_out = listed_edit position_tells positions_of old branches

  pub content_edit_in : (a : ContentFact) → ContentEdit old branches a → a ∈ content_edits old branches
  unfolding content_edits
  content_edit_in = edit_listed content_tells contents_of old branches

  pub content_edit_out : (a : ContentFact) → a ∈ content_edits old branches → ContentEdit old branches a
  unfolding content_edits
  content_edit_out = listed_edit content_tells contents_of old branches

  pub kept-position_in : (a : PositionFact) → KeptPosition old branches a → a ∈ kept_positions old branches
  unfolding kept_positions position_edits
  kept-position_in =
      kept_listed position_tells positions_of old branches positions_disagree PositionsDisagree positions_differ differ_positions

  pub kept-position_out : (a : PositionFact) → a ∈ kept_positions old branches → KeptPosition old branches a
  unfolding kept_positions position_edits
  kept-position_out =
      listed_kept position_tells positions_of old branches positions_disagree PositionsDisagree positions_differ differ_positions

  pub kept-content_in : (a : ContentFact) → KeptContent old branches a → a ∈ kept_contents old branches
  unfolding kept_contents content_edits
  kept-content_in =
      kept_listed content_tells contents_of old branches contents_disagree ContentsDisagree (λ a b t. (a.number, contents_differ a b t))
      (λ a b w. differ_contents w.0 a b w.1)

  -- ---- the places of codes 21 to 23

  pub content_places : Places (ContentClash old branches) (content_clashes old branches)
  unfolding content_clashes
  content_places = record { place-holds = holds; holds-place = place }
    where
      holds : (n : ℕ) → n ∈ map record_of (disagreeing contents_disagree (content_edits old branches)) → ContentClash old branches n
      holds n m =
          let w = places_out contents_disagree record_of (content_edits old branches) m in (
            w.0,
            w.1,
            content_edit_out w.0 w.2,
            content_edit_out w.1 w.3,
            subst (λ (j : ℕ). DifferentContents j w.0 w.1) w.5 (contents_differ w.0 w.1 w.4),
          )

      place : (n : ℕ) → ContentClash old branches n → n ∈ map record_of (disagreeing contents_disagree (content_edits old branches))
      place n (a, b, i, j, w) =
          Memᴰ.cast (sym w.0) (places_in contents_disagree record_of (content_edits old branches) (content_edit_in a i)
          (content_edit_in b j) (differ_contents n a b w))

  pub parent_places : Places (ParentClash old branches) (parent_clashes old branches)
  unfolding parent_clashes
  parent_places = record { place-holds = holds; holds-place = place }
    where
      given : List ParentGiven
      given = flat parents_given (position_edits old branches)

      number_of : ParentGiven → ℕ
      number_of g = g.number

      holds : (n : ℕ) → n ∈ map number_of (disagreeing parents_differ given) → ParentClash old branches n
      holds n m =
          let w = places_out parents_differ number_of given m in
          let u = flat_out parents_given (position_edits old branches) w.2 in
          let v = flat_out parents_given (position_edits old branches) w.3 in (
            u.0,
            v.0,
            position_edit_out u.0 u.1,
            position_edit_out v.0 v.1,
            subst (λ (j : ℕ). DifferentParents j u.0 v.0) w.5 (parents_differ_lem w.0 w.1 u.0 v.0 u.2 v.2 w.4),
          )

      place : (n : ℕ) → ParentClash old branches n → n ∈ map number_of (disagreeing parents_differ given)
      place n (a, b, i, j, w) =
          places_in parents_differ number_of given
          (flat_in parents_given (position_edit_in a i) (given_in n a w.0.0 w.0.1))
          (flat_in parents_given (position_edit_in b j) (given_in n b w.1.0 w.1.1)) (differ_parents n a b w)

  pub neighbour_places : Places (NeighbourClash old branches) (neighbour_clashes old branches)
  unfolding neighbour_clashes
  neighbour_places = record { place-holds = holds; holds-place = place }
    where
      holds : (r : ℕ) → r ∈ map parent_of (disagreeing neighbours_disagree (position_edits old branches)) → NeighbourClash old branches r
      holds r m =
          let w = places_out neighbours_disagree parent_of (position_edits old branches) m in (
            w.0,
            w.1,
            position_edit_out w.0 w.2,
            position_edit_out w.1 w.3,
            subst (λ (j : ℕ). DifferentNeighbours j w.0 w.1) w.5 (neighbours_differ w.0 w.1 w.4),
          )

      place : (r : ℕ) → NeighbourClash old branches r → r ∈ map parent_of (disagreeing neighbours_disagree (position_edits old branches))
      place r (a, b, i, j, w) =
          Memᴰ.cast (sym w.0) (places_in neighbours_disagree parent_of (position_edits old branches) (position_edit_in a i)
          (position_edit_in b j) (differ_neighbours r a b w))
