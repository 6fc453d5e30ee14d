-- The merge does not depend on the order of the branches, nor on how often one is handed in. `old` is the facts of the old table,
-- `branches` and `others` the facts of the desks' tables, a and b facts. Assumes nothing.
use mathlib.Core.Path.{◌≡◌, refl, sym, ap, ap₂, ◌∙◌, subst, fun_ext}
use mathlib.Core.Logic.{◌⊎◌, inl, inr}
use mathlib.Core.Bool.{Bool, not}
use mathlib.Core.Option.{Option}
use mathlib.Core.List.Memᴰ
use mathlib.Core.List.Memᴰ.{head as here}
use mathlib.Core.List.Memᴰ.{tail as there}
use mathlib.Core.List.{List, [], ◌∷◌, ◌++◌, map}
use Prim.Native.Nat.{ℕ, min, ◌≤◌}
use native.Mathlib.Omega.{arith}
use native.Mathlib.Decide.{dec_le}
use lib.Dec.{T, T_not, not_T, eqb, eqb→eq}
use Rattle.rules.specs.Codes.{broken_list, content_clash, lost_edit, neighbour_clash, parent_clash}
use Rattle.rules.specs.Lists.{◌∈◌, any, flat, keep}
use Rattle.rules.specs.Marks.{START, TOP}
use Rattle.rules.specs.Line.{Content}
use Rattle.rules.specs.Tree.{STEPS, Tree}
use Rattle.rules.specs.Facts.{ContentFact, Facts, ParentGiven, PositionFact, contents_disagree, contents_of, disagreeing, edits, kept}
use Rattle.rules.specs.Facts.{lacking, positions_of, neighbours_disagree, parents_differ, parents_given, positions_disagree}
use Rattle.rules.specs.Facts.{same_content_fact}
use Rattle.rules.specs.Facts.{same_position, tree_contents, tree_positions}
use Rattle.rules.specs.Merge.{Result, broken_lists, content_clashes, content_edits, content_in, follower, goes_on, kept_contents}
use Rattle.rules.specs.Merge.{kept_positions}
use Rattle.rules.specs.Merge.{least, lost_edits, merge, merged, merged_tree, neighbour_clashes, or_empty, parent_clashes, position_edits}
use Rattle.rules.specs.Merge.{refuse, refused, walk}
use Rattle.trees.proofs.Lists.{any_in, any_out, keep_in, keep_out}
use Rattle.trees.proofs.Sets.{Sub, first-same, flat-sub, map-sub}
use Rattle.trees.proofs.Kept.{Coherent, kept_coherent, none_coherent}
use Rattle.trees.proofs.Disagreeing.{after_of, content_flip, content_tells, one_after, one_content, parent_of, record_of}
use Rattle.trees.proofs.Walk.{goes_on_out}
use Rattle.trees.proofs.Answering.{Sound}
use Rattle.trees.proofs.Accepting.{kept-positions_coherent}

-- ---- facts of one kind: more of them

module _ {A : Type 0} where
  any-sub : (test : A → Bool) (xs ys : List A) → Sub xs ys → T (any test xs) → T (any test ys)
  any-sub test xs ys h t = let w = any_out test xs t in any_in test (h w.0 w.1) w.2

  none_sub : (test : A → Bool) (xs ys : List A) → Sub xs ys → T (not (any test ys)) → T (not (any test xs))
  none_sub test xs ys h t = not_T (any test xs) (λ u. T_not (any test ys) t (any-sub test xs ys h u))

  disagreeing-sub : (disagree : A → A → Bool) (xs ys : List A) → Sub xs ys → Sub (disagreeing disagree xs) (disagreeing disagree ys)
  disagreeing-sub disagree xs ys h x m =
      let w = keep_out (λ (a : A). any (disagree a) xs) xs m in
      keep_in (λ (a : A). any (disagree a) ys) (h x w.0) (any-sub (disagree x) xs ys h w.1)

  lacking-sub : (same : A → A → Bool) (xs xs' ys ys' : List A) → Sub xs xs' → Sub ys' ys → Sub (lacking same xs ys) (lacking same xs' ys')
  lacking-sub same xs xs' ys ys' h g x m =
      let w = keep_out (λ (a : A). not (any (same a) ys)) xs m in
      keep_in (λ (a : A). not (any (same a) ys')) (h x w.0) (none_sub (same x) ys' ys g w.1)

  kept-sub : (disagree : A → A → Bool) (edited edited' old : List A)
      → Sub edited edited' → Sub edited' edited → Sub (kept disagree edited old) (kept disagree edited' old)
  kept-sub disagree edited edited' old h g x m = go (Memᴰ.append_cases edited m)
    where
      go : (x ∈ edited) ⊎ (x ∈ keep (λ (a : A). not (any (disagree a) edited)) old) → x ∈ kept disagree edited' old
      go (inl k) = Memᴰ.append_left (keep (λ (a : A). not (any (disagree a) edited')) old) (h x k)
      go (inr k) =
          let w = keep_out (λ (a : A). not (any (disagree a) edited)) old k in
          Memᴰ.append_right edited'
          (keep_in (λ (a : A). not (any (disagree a) edited')) w.0 (none_sub (disagree x) edited' edited g w.1))

  append-sub : (xs ys xs' ys' : List A) → Sub xs xs' → Sub ys ys' → Sub (xs ++ ys) (xs' ++ ys')
  append-sub xs ys xs' ys' h g x m =
      elim (Memᴰ.append_cases xs m) [ inl i ↦ Memᴰ.append_left ys' (h x i) | inr i ↦ Memᴰ.append_right xs' (g x i) ]

edits-sub : {A : Type 0} (same : A → A → Bool) (old : List A) (branches others : List (List A)) → Sub branches others
    → Sub (edits same old branches) (edits same old others)
edits-sub {A} same old branches others h = flat-sub (λ (b : List A). lacking same b old) branches others h

-- ---- the least place

min_cases : (m n : ℕ) → (min m n ≡ m) ⊎ (min m n ≡ n)
min_cases m n = elim (dec_le m n) [ yes h ↦ inl (omega arith) | no h ↦ inr (omega arith) ]

pub least_in : (n : ℕ) (ns : List ℕ) → least n ns ∈ n ∷ ns
least_in n [] = here refl
least_in n (m ∷ ns) = go (least_in (min n m) ns) (min_cases n m)
  where
    go : least (min n m) ns ∈ min n m ∷ ns → (min n m ≡ n) ⊎ (min n m ≡ m) → least (min n m) ns ∈ n ∷ m ∷ ns
    go (there k) c = there (there k)
    go (here e) (inl c) = here (e ∙ c)
    go (here e) (inr c) = there (here (e ∙ c))

pub least-le : (n : ℕ) (ns : List ℕ) (j : ℕ) → j ∈ n ∷ ns → least n ns ≤ j
least-le n [] j (here e) = omega arith
least-le n [] j (there k) = absurd (Memᴰ.not-nil k)
least-le n (m ∷ ns) j (here e) = omega (arith, least-le (min n m) ns (min n m) (here refl))
least-le n (m ∷ ns) j (there (here e)) = omega (arith, least-le (min n m) ns (min n m) (here refl))
least-le n (m ∷ ns) j (there (there k)) = least-le (min n m) ns j (there k)

-- the same places, the same refusal
pub refuse-same : (code : ℕ) (ns ms : List ℕ) (u v : Result) → Sub ns ms → Sub ms ns → (ns ≡ [] → u ≡ v)
    → refuse code ns u ≡ refuse code ms v
refuse-same code [] [] u v h g e = e refl
refuse-same code [] (m ∷ ms) u v h g e = absurd (Memᴰ.not-nil (g m (here refl)))
refuse-same code (n ∷ ns) [] u v h g e = absurd (Memᴰ.not-nil (h n (here refl)))
refuse-same code (n ∷ ns) (m ∷ ms) u v h g e =
    let p = least-le n ns (least m ms) (g (least m ms) (least_in m ms)) in
    let q = least-le m ms (least n ns) (h (least n ns) (least_in n ns)) in
    let d : least n ns ≡ least m ms = omega arith in
    ap (refused code) d

-- ---- edits and places of codes 21 to 23

module _ (old : Facts) (branches others : List Facts) (h : Sub branches others) where
  position-edits-sub : Sub (position_edits old branches) (position_edits old others)
  unfolding position_edits
  position-edits-sub =
      edits-sub same_position old.positions (map positions_of branches) (map positions_of others) (map-sub positions_of branches others h)

  content-edits-sub : Sub (content_edits old branches) (content_edits old others)
  unfolding content_edits
  content-edits-sub =
      edits-sub same_content_fact old.contents (map contents_of branches) (map contents_of others) (map-sub contents_of branches others h)

  content_clashes_sub : Sub (content_clashes old branches) (content_clashes old others)
  unfolding content_clashes
  content_clashes_sub =
      map-sub record_of (disagreeing contents_disagree (content_edits old branches))
      (disagreeing contents_disagree (content_edits old others))
      (disagreeing-sub contents_disagree (content_edits old branches) (content_edits old others) content-edits-sub)

  abbrev given : List Facts → List ParentGiven
  given those = flat parents_given (position_edits old those)

  parent_clashes_sub : Sub (parent_clashes old branches) (parent_clashes old others)
  unfolding parent_clashes
  parent_clashes_sub =
      map-sub (λ (g : ParentGiven). g.number) (disagreeing parents_differ (given branches)) (disagreeing parents_differ (given others))
      (disagreeing-sub parents_differ (given branches) (given others)
      (flat-sub parents_given (position_edits old branches) (position_edits old others) position-edits-sub))

  neighbour_clashes_sub : Sub (neighbour_clashes old branches) (neighbour_clashes old others)
  unfolding neighbour_clashes
  neighbour_clashes_sub =
      map-sub parent_of (disagreeing neighbours_disagree (position_edits old branches))
      (disagreeing neighbours_disagree (position_edits old others))
      (disagreeing-sub neighbours_disagree (position_edits old branches) (position_edits old others) position-edits-sub)

-- ---- kept facts and places of codes 24 and 25

module _ (old : Facts) (branches others : List Facts) (h : Sub branches others) (g : Sub others branches) where
  kept-positions-sub : Sub (kept_positions old branches) (kept_positions old others)
  unfolding kept_positions
  kept-positions-sub =
      kept-sub positions_disagree (position_edits old branches) (position_edits old others) old.positions
      (position-edits-sub old branches others h) (position-edits-sub old others branches g)

  kept-contents-sub : Sub (kept_contents old branches) (kept_contents old others)
  unfolding kept_contents
  kept-contents-sub =
      kept-sub contents_disagree (content_edits old branches) (content_edits old others) old.contents
      (content-edits-sub old branches others h) (content-edits-sub old others branches g)

module _ (old : Facts) (branches others : List Facts) (h : Sub branches others) (g : Sub others branches)
    (e : merged_tree old branches ≡ merged_tree old others) where
  abbrev positions_in : List Facts → List PositionFact
  positions_in those = tree_positions TOP START (merged_tree old those)

  abbrev contents_in : List Facts → List ContentFact
  contents_in those = tree_contents (merged_tree old those)

  positions_there : Sub (positions_in branches) (positions_in others)
  positions_there a m = subst (λ (f : Tree). a ∈ tree_positions TOP START f) e m

  positions_back : Sub (positions_in others) (positions_in branches)
  positions_back a m = subst (λ (f : Tree). a ∈ tree_positions TOP START f) (sym e) m

  contents_back : Sub (contents_in others) (contents_in branches)
  contents_back a m = subst (λ (f : Tree). a ∈ tree_contents f) (sym e) m

  broken_lists-sub : Sub (broken_lists old branches) (broken_lists old others)
  unfolding broken_lists
  broken_lists-sub =
      map-sub parent_of (lacking same_position (positions_in branches) (kept_positions old branches))
      (lacking same_position (positions_in others) (kept_positions old others))
      (lacking-sub same_position (positions_in branches) (positions_in others) (kept_positions old branches) (kept_positions old others)
      positions_there (kept-positions-sub old others branches g h))

  lost-positions-sub : Sub (map parent_of (lacking same_position (position_edits old branches) (positions_in branches)))
      (map parent_of (lacking same_position (position_edits old others) (positions_in others)))
  lost-positions-sub =
      map-sub parent_of (lacking same_position (position_edits old branches) (positions_in branches))
      (lacking same_position (position_edits old others) (positions_in others))
      (lacking-sub same_position (position_edits old branches) (position_edits old others) (positions_in branches) (positions_in others)
      (position-edits-sub old branches others h) positions_back)

  lost-contents-sub : Sub (map record_of (lacking same_content_fact (content_edits old branches) (contents_in branches)))
      (map record_of (lacking same_content_fact (content_edits old others) (contents_in others)))
  lost-contents-sub =
      map-sub record_of (lacking same_content_fact (content_edits old branches) (contents_in branches))
      (lacking same_content_fact (content_edits old others) (contents_in others))
      (lacking-sub same_content_fact (content_edits old branches) (content_edits old others) (contents_in branches) (contents_in others)
      (content-edits-sub old branches others h) contents_back)

  lost-edits-sub : Sub (lost_edits old branches) (lost_edits old others)
  unfolding lost_edits
  lost-edits-sub =
      append-sub
      (map record_of (lacking same_content_fact (content_edits old branches) (contents_in branches)))
      (map parent_of (lacking same_position (position_edits old branches) (positions_in branches)))
      (map record_of (lacking same_content_fact (content_edits old others) (contents_in others)))
      (map parent_of (lacking same_position (position_edits old others) (positions_in others)))
      lost-contents-sub lost-positions-sub

-- ---- without codes 21 to 23 the walk has no choice

pub kept-contents_coherent : (old : Facts) (branches : List Facts) → Sound old → content_clashes old branches ≡ []
    → Coherent contents_disagree (kept_contents old branches)
unfolding kept_contents content_edits content_clashes
kept-contents_coherent old branches sound no_content =
    kept_coherent content_tells old.contents (map contents_of branches) contents_disagree content_flip
    (none_coherent contents_disagree record_of (content_edits old branches) no_content) sound.contents_agree

follower-same : (facts others : List PositionFact) → Sub facts others → Sub others facts → Coherent positions_disagree facts
    → (r p : ℕ) → follower facts r p ≡ follower others r p
unfolding follower
follower-same facts others h g agree r p = first-same (goes_on r p) after_of facts others h g one
  where
    one : (a b : PositionFact) → a ∈ facts → b ∈ facts → T (goes_on r p a) → T (goes_on r p b) → a.after ≡ b.after
    one a b m k t u =
        let v = goes_on_out r p a t in
        let w = goes_on_out r p b u in
        one_after a b (agree a b m k) (v.0 ∙ sym w.0) (v.1 ∙ sym w.1)

content-same : (facts others : List ContentFact) → Sub facts others → Sub others facts → Coherent contents_disagree facts
    → (n : ℕ) → content_in facts n ≡ content_in others n
unfolding content_in
content-same facts others h g agree n =
    ap or_empty (first-same (λ (a : ContentFact). eqb a.number n) (λ (a : ContentFact). a.content) facts others h g
    (λ a b m k t u. one_content a b (agree a b m k) (eqb→eq a.number n t ∙ sym (eqb→eq b.number n u))))

module _ (old : Facts) (branches others : List Facts) (h : Sub branches others) (g : Sub others branches) (sound : Sound old) where
  same-tree : content_clashes old branches ≡ [] → parent_clashes old branches ≡ [] → neighbour_clashes old branches ≡ []
      → merged_tree old branches ≡ merged_tree old others
  unfolding merged_tree
  same-tree no_content no_parent no_neighbour =
      ap₂ (λ (next : ℕ → ℕ → Option ℕ) (content : ℕ → Content). walk next content STEPS TOP START)
      (fun_ext (λ r. fun_ext (λ p. steps r p))) (fun_ext contents)
    where
      steps : (r p : ℕ) → follower (kept_positions old branches) r p ≡ follower (kept_positions old others) r p
      steps =
          follower-same (kept_positions old branches) (kept_positions old others) (kept-positions-sub old branches others h g)
          (kept-positions-sub old others branches g h) (kept-positions_coherent old branches sound no_parent no_neighbour)

      contents : (n : ℕ) → content_in (kept_contents old branches) n ≡ content_in (kept_contents old others) n
      contents =
          content-same (kept_contents old branches) (kept_contents old others) (kept-contents-sub old branches others h g)
          (kept-contents-sub old others branches g h) (kept-contents_coherent old branches sound no_content)

  -- ---- the verdict, from a code on

  abbrev from25 : List Facts → Result
  from25 those = refuse lost_edit (lost_edits old those) (merged (merged_tree old those))

  abbrev from24 : List Facts → Result
  from24 those = refuse broken_list (broken_lists old those) (from25 those)

  abbrev from23 : List Facts → Result
  from23 those = refuse neighbour_clash (neighbour_clashes old those) (from24 those)

  abbrev from22 : List Facts → Result
  from22 those = refuse parent_clash (parent_clashes old those) (from23 those)

  same25 : merged_tree old branches ≡ merged_tree old others → from25 branches ≡ from25 others
  same25 e =
      refuse-same lost_edit (lost_edits old branches) (lost_edits old others)
      (merged (merged_tree old branches)) (merged (merged_tree old others))
      (lost-edits-sub old branches others h g e) (lost-edits-sub old others branches g h (sym e)) (λ z. ap merged e)

  same24 : merged_tree old branches ≡ merged_tree old others → from24 branches ≡ from24 others
  same24 e =
      refuse-same broken_list (broken_lists old branches) (broken_lists old others) (from25 branches) (from25 others)
      (broken_lists-sub old branches others h g e) (broken_lists-sub old others branches g h (sym e)) (λ z. same25 e)

  -- the same branches in any order: the same verdict
  pub merge-same : merge old branches ≡ merge old others
  unfolding merge
  merge-same =
      refuse-same content_clash (content_clashes old branches) (content_clashes old others) (from22 branches) (from22 others)
      (content_clashes_sub old branches others h) (content_clashes_sub old others branches g) (λ no_content.
      refuse-same parent_clash (parent_clashes old branches) (parent_clashes old others) (from23 branches) (from23 others)
      (parent_clashes_sub old branches others h) (parent_clashes_sub old others branches g) (λ no_parent.
      refuse-same neighbour_clash (neighbour_clashes old branches) (neighbour_clashes old others) (from24 branches) (from24 others)
      (neighbour_clashes_sub old branches others h) (neighbour_clashes_sub old others branches g) (λ no_neighbour.
      same24 (same-tree no_content no_parent no_neighbour))))
