-- Demand 3 over readable tables: a merge is accepted exactly if some tree holds every edit and no fact absent from all tables, and
-- gives that tree, of which there is one; the order of the branches does not matter. `old` and `branches` are tables, O and B their
-- facts, b and t tables, f and g trees. Assumes nothing.
use mathlib.Core.Path.{◌≡◌, refl, sym, ap, ◌∙◌, subst}
use mathlib.Core.Logic.{◌↔◌}
use mathlib.Core.List.Memᴰ
use mathlib.Core.List.Memᴰ.{head as here}
use mathlib.Core.List.Memᴰ.{tail as there}
use mathlib.Core.List.{List, [], ◌∷◌, map}
use Rattle.rules.specs.Lists.{◌∈◌}
use Rattle.rules.specs.Line.{Row}
use Rattle.rules.specs.Tree.{Tree, tree_of}
use Rattle.rules.specs.Facts.{ContentFact, Facts, PositionFact, contents_of, facts_of, positions_of}
use Rattle.rules.specs.Merge.{content_edits, merge, merged, position_edits}
use Rattle.rules.specs.Demands.{Answers, Readable}
use Rattle.trees.proofs.Sets.{map-sub}
use Rattle.trees.proofs.Kept.{edit_from}
use Rattle.trees.proofs.Disagreeing.{content_tells, position_tells}
use Rattle.trees.proofs.Answering.{Sound, answer_merged, answers_equal}
use Rattle.trees.proofs.Accepting.{merged_answers}
use Rattle.trees.proofs.Order.{merge-same}
use Rattle.trees.proofs.TableTree.{table_sound, tree_of_table}

module _ (old : List Row) (branches : List (List Row)) (ok : (t : List Row) → t ∈ old ∷ branches → Readable t) where
  abbrev O : Facts
  O = facts_of old

  abbrev B : List Facts
  B = map facts_of branches

  old_sound : Sound O
  old_sound = table_sound old (ok old (here refl)).distinct

  all_sound : (t : Facts) → t ∈ O ∷ B → Sound t
  all_sound t m =
      let w = Memᴰ.of_map facts_of (old ∷ branches) m in subst Sound w.2 (table_sound w.0 (ok w.0 w.1).distinct)

  -- accepted, with f, exactly if f holds every edit and no fact absent from all tables
  pub demand3 : (f : Tree) → Answers O B f ↔ (merge O B ≡ merged f)
  demand3 f = (λ w. answer_merged O B old_sound f w, λ e. merged_answers O B all_sound f e)

  -- there is at most one such tree
  pub one_answer : (f g : Tree) → Answers O B f → Answers O B g → f ≡ g
  one_answer f g = answers_equal O B old_sound f g

  -- the same branches in any order, however often: the same result
  pub any_order : (others : List (List Row)) → ((b : List Row) → b ∈ branches → b ∈ others) → ((b : List Row) → b ∈ others → b ∈ branches)
      → merge O B ≡ merge O (map facts_of others)
  any_order others h g =
      merge-same O B (map facts_of others) (map-sub facts_of branches others h) (map-sub facts_of others branches g) old_sound

  -- an edit of branches that are each the old table or b is a fact of b
  module _ (b : List Row) (each : (t : List Row) → t ∈ branches → t ∈ old ∷ b ∷ []) {A : Type 0} (part : Facts → List A) where
    from_changed : (x : A) → (l : List A) × (l ∈ map part B) × (x ∈ l) × (x ∈ part O → ⊥) → x ∈ part (facts_of b)
    from_changed x v =
        let w = Memᴰ.of_map part B v.1 in
        let u = Memᴰ.of_map facts_of branches w.1 in
        go u.0 (each u.0 u.1) (subst (λ (l : List A). x ∈ l) (sym (ap part u.2 ∙ w.2)) v.2)
      where
        go : (t : List Row) → t ∈ old ∷ b ∷ [] → x ∈ part (facts_of t) → x ∈ part (facts_of b)
        go t (here e) k = absurd (v.3 (subst (λ (s : List Row). x ∈ part (facts_of s)) e k))
        go t (there (here e)) k = subst (λ (s : List Row). x ∈ part (facts_of s)) e k
        go t (there (there n)) k = absurd (Memᴰ.not-nil n)

  -- each branch is the old table or b, and b is one of them: the result is b's tree
  pub one_changed : (b : List Row) → b ∈ branches → ((t : List Row) → t ∈ branches → t ∈ old ∷ b ∷ []) → merge O B ≡ merged (tree_of b)
  unfolding position_edits content_edits
  one_changed b m each =
      let w = tree_of_table b (ok b (there m)) in
      answer_merged O B old_sound (tree_of b) (record {
        tree = w.tree;
        positions_edited = λ a i. w.positions_have a (from_changed b each positions_of a (position_from a i));
        contents_edited = λ a i. w.contents_have a (from_changed b each contents_of a (content-from a i));
        positions_known = λ a i. (facts_of b, there (Memᴰ.map facts_of m), w.positions_in_lem a i);
        contents_known = λ a i. (facts_of b, there (Memᴰ.map facts_of m), w.contents_in_lem a i);
      })
    where
      position_from : (a : PositionFact) → a ∈ position_edits O B
          → (l : List PositionFact) × (l ∈ map positions_of B) × (a ∈ l) × (a ∈ O.positions → ⊥)
      position_from = edit_from position_tells O.positions (map positions_of B)

      content-from : (a : ContentFact) → a ∈ content_edits O B
          → (l : List ContentFact) × (l ∈ map contents_of B) × (a ∈ l) × (a ∈ O.contents → ⊥)
      content-from = edit_from content_tells O.contents (map contents_of B)
