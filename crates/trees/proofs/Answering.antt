-- Demand 3, one way: if a tree holds every edit and no fact absent from all tables, the merge is accepted and gives that tree. So
-- there is at most one. `old` and `branches` are the facts of the tables, f is the tree, a and b are facts. Assumes nothing.
use mathlib.Core.Path.{◌≡◌, refl, sym, ap, ap₂, ◌∙◌, subst}
use mathlib.Core.List.Memᴰ
use mathlib.Core.List.{List, [], ◌∷◌, ◌++◌, map}
use Prim.Native.Nat.{ℕ}
use native.Mathlib.Omega.{arith}
use lib.Dec.{T}
use Rattle.rules.specs.Codes.{broken_list, content_clash, lost_edit, neighbour_clash, parent_clash}
use Rattle.rules.specs.Lists.{◌∈◌, any, flat}
use Rattle.rules.specs.Marks.{START, TOP, is_record}
use Rattle.rules.specs.Tree.{STEPS, Tree}
use Rattle.rules.specs.Facts.{ContentFact, Facts, ParentGiven, PositionFact, contents_disagree, contents_of, neighbours_disagree}
use Rattle.rules.specs.Facts.{parents_differ, positions_of, parents_disagree, parents_given, positions_disagree, tree_contents}
use Rattle.rules.specs.Facts.{tree_positions}
use Rattle.rules.specs.Merge.{Result, broken_lists, content_clashes, content_edits, content_in, follower, kept_contents, kept_positions}
use Rattle.rules.specs.Merge.{lost_edits, merge, merged, merged_tree, neighbour_clashes, parent_clashes, position_edits, refuse}
use Rattle.rules.specs.Demands.{Answers}
use Rattle.trees.proofs.Lists.{any_in, flat_out, or_left, or_right}
use Rattle.trees.proofs.Kept.{Coherent, InSome, all-kept, coherent_none, kept_agrees, none_lacking}
use Rattle.trees.proofs.Disagreeing.{content_tells, parent_of, position_tells, record_of}
use Rattle.trees.proofs.Trees.{tree-contents_coherent, tree-positions_coherent}
use Rattle.trees.proofs.Walk.{content_is, follow, goes}
use Rattle.trees.proofs.Reached.{tree_small}

-- the facts of one table: no two disagree, and each record to which a position fact goes has a content
pub record Sound (t : Facts) : Type 0 where
  pub positions_agree : Coherent positions_disagree t.positions
  pub contents_agree : Coherent contents_disagree t.contents
  pub named : (a : PositionFact) → a ∈ t.positions → T (is_record a.after)
      → (b : ContentFact) × (b ∈ t.contents) × (b.number ≡ a.after)

pub refuse_none : (code : ℕ) (places : List ℕ) (result : Result) → places ≡ [] → refuse code places result ≡ result
refuse_none code [] result e = refl
refuse_none code (place ∷ places) result e = cc

-- position facts that do not disagree give one parent to each record
pub parents_coherent : (facts : List PositionFact) → Coherent positions_disagree facts → Coherent parents_differ (flat parents_given facts)
parents_coherent facts agree g h m k t =
    let u = flat_out parents_given facts m in
    let v = flat_out parents_given facts k in
    let differ = any_in (parents_differ g) v.2 t in
    agree u.0 v.0 u.1 v.1 (or_left (parents_disagree u.0 v.0) (neighbours_disagree u.0 v.0)
    (any_in (λ (c : ParentGiven). any (parents_differ c) (parents_given v.0)) u.2 differ))

module _ (old : Facts) (branches : List Facts) (sound : Sound old) (f : Tree) (w : Answers old branches f) where
  -- ---- positions

  known_position : (a : PositionFact) → a ∈ tree_positions TOP START f → InSome position_tells old.positions (map positions_of branches) a
  known_position a m = let v = w.positions_known a m in (v.0.positions, Memᴰ.map positions_of v.1, v.2)

  positions-kept : (a : PositionFact) → a ∈ tree_positions TOP START f → a ∈ kept_positions old branches
  unfolding kept_positions position_edits
  positions-kept =
      all-kept position_tells old.positions (map positions_of branches) positions_disagree (tree_positions TOP START f)
      (tree-positions_coherent f w.tree) sound.positions_agree w.positions_edited known_position

  positions_agree : (a b : PositionFact) → a ∈ tree_positions TOP START f → b ∈ kept_positions old branches → T (positions_disagree b a) → ⊥
  unfolding kept_positions position_edits
  positions_agree =
      kept_agrees position_tells old.positions (map positions_of branches) positions_disagree (tree_positions TOP START f)
      (tree-positions_coherent f w.tree) sound.positions_agree w.positions_edited known_position

  edits_coherent : Coherent positions_disagree (position_edits old branches)
  edits_coherent a b m k = tree-positions_coherent f w.tree a b (w.positions_edited a m) (w.positions_edited b k)

  no_parent_clash : parent_clashes old branches ≡ []
  unfolding parent_clashes
  no_parent_clash =
      coherent_none parents_differ (λ (g : ParentGiven). g.number) (flat parents_given (position_edits old branches))
      (parents_coherent (position_edits old branches) edits_coherent)

  no_neighbour_clash : neighbour_clashes old branches ≡ []
  unfolding neighbour_clashes
  no_neighbour_clash =
      coherent_none neighbours_disagree parent_of (position_edits old branches)
      (λ a b m k t. edits_coherent a b m k (or_right (parents_disagree a b) (neighbours_disagree a b) t))

  -- ---- contents

  known_content : (a : ContentFact) → a ∈ tree_contents f → InSome content_tells old.contents (map contents_of branches) a
  known_content a m = let v = w.contents_known a m in (v.0.contents, Memᴰ.map contents_of v.1, v.2)

  content-found : (a : ContentFact) → a ∈ tree_contents f → content_in (kept_contents old branches) a.number ≡ a.content
  unfolding kept_contents content_edits
  content-found =
      content_is (kept_contents old branches) (tree_contents f)
      (all-kept content_tells old.contents (map contents_of branches) contents_disagree (tree_contents f)
      (tree-contents_coherent f w.tree) sound.contents_agree w.contents_edited known_content)
      (kept_agrees content_tells old.contents (map contents_of branches) contents_disagree (tree_contents f)
      (tree-contents_coherent f w.tree) sound.contents_agree w.contents_edited known_content)

  no_content_clash : content_clashes old branches ≡ []
  unfolding content_clashes
  no_content_clash =
      coherent_none contents_disagree record_of (content_edits old branches)
      (λ a b m k. tree-contents_coherent f w.tree a b (w.contents_edited a m) (w.contents_edited b k))

  -- ---- the merged tree

  tree-merged : merged_tree old branches ≡ f
  unfolding merged_tree
  tree-merged =
      follow (follower (kept_positions old branches)) (content_in (kept_contents old branches)) STEPS TOP START f
      (omega (arith, tree_small f w.tree)) w.tree.valid
      (goes (kept_positions old branches) (tree_positions TOP START f) positions-kept positions_agree) content-found

  no_broken_list : broken_lists old branches ≡ []
  unfolding broken_lists
  no_broken_list =
      none_lacking position_tells parent_of (tree_positions TOP START (merged_tree old branches)) (kept_positions old branches)
      (subst (λ (g : Tree). (a : PositionFact) → a ∈ tree_positions TOP START g → a ∈ kept_positions old branches) (sym tree-merged)
      positions-kept)

  no_lost_edit : lost_edits old branches ≡ []
  unfolding lost_edits
  no_lost_edit =
      ap₂ (λ (k l : List ℕ). k ++ l)
      (none_lacking content_tells record_of (content_edits old branches) (tree_contents (merged_tree old branches))
      (subst (λ (g : Tree). (a : ContentFact) → a ∈ content_edits old branches → a ∈ tree_contents g) (sym tree-merged)
      w.contents_edited))
      (none_lacking position_tells parent_of (position_edits old branches) (tree_positions TOP START (merged_tree old branches))
      (subst (λ (g : Tree). (a : PositionFact) → a ∈ position_edits old branches → a ∈ tree_positions TOP START g) (sym tree-merged)
      w.positions_edited))

  -- where such a tree is, the merge is accepted and gives it
  pub answer_merged : merge old branches ≡ merged f
  unfolding merge
  answer_merged =
      refuse_none content_clash (content_clashes old branches) _ no_content_clash
      ∙ refuse_none parent_clash (parent_clashes old branches) _ no_parent_clash
      ∙ refuse_none neighbour_clash (neighbour_clashes old branches) _ no_neighbour_clash
      ∙ refuse_none broken_list (broken_lists old branches) _ no_broken_list
      ∙ refuse_none lost_edit (lost_edits old branches) _ no_lost_edit
      ∙ ap merged tree-merged

-- so there is at most one
pub answers_equal : (old : Facts) (branches : List Facts) → Sound old → (f g : Tree) → Answers old branches f → Answers old branches g
    → f ≡ g
answers_equal old branches sound f g v w =
    let p = answer_merged old branches sound f v in let q = answer_merged old branches sound g w in cc
