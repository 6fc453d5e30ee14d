-- The rules' chain of refusals, link after link: a place where it is the least of its kind, and none of the kinds before it. Assumes
-- nothing.
use mathlib.Core.Path.{◌≡◌, ◌∙◌}
use mathlib.Core.List.{List, []}
use Prim.Native.Nat.{ℕ}
use Rattle.std.specs.Prelude.{Some}
use Rattle.rules.specs.Codes.{content_clash, parent_clash, neighbour_clash, broken_list, lost_edit}
use Rattle.rules.specs.Facts.{Facts}
use Rattle.rules.specs.Merge.{refused, merged, merge, merged_tree, content_clashes, parent_clashes, neighbour_clashes}
use Rattle.rules.specs.Merge.{broken_lists, lost_edits}
use Rattle.edits.specs.Least.{least_or_none}
use Rattle.edits.proofs.Best.{refuse-least, refuse_none}

module _ (old : Facts) (branches : List Facts) where
  pub merge_21 : (n : ℕ) → least_or_none (content_clashes old branches) ≡ Some n → merge old branches ≡ refused content_clash n
  unfolding merge
  merge_21 n h = refuse-least content_clash n (content_clashes old branches) _ h

  module _ (no_content : content_clashes old branches ≡ []) where
    pub merge_22 : (n : ℕ) → least_or_none (parent_clashes old branches) ≡ Some n → merge old branches ≡ refused parent_clash n
    unfolding merge
    merge_22 n h = refuse_none content_clash _ _ no_content ∙ refuse-least parent_clash n (parent_clashes old branches) _ h

    module _ (no_parent : parent_clashes old branches ≡ []) where
      pub merge_23 : (n : ℕ) → least_or_none (neighbour_clashes old branches) ≡ Some n → merge old branches ≡ refused neighbour_clash n
      unfolding merge
      merge_23 n h =
          refuse_none content_clash _ _ no_content ∙ refuse_none parent_clash _ _ no_parent
          ∙ refuse-least neighbour_clash n (neighbour_clashes old branches) _ h

      module _ (no_neighbour : neighbour_clashes old branches ≡ []) where
        pub merge_24 : (n : ℕ) → least_or_none (broken_lists old branches) ≡ Some n → merge old branches ≡ refused broken_list n
        unfolding merge
        merge_24 n h =
            refuse_none content_clash _ _ no_content ∙ refuse_none parent_clash _ _ no_parent ∙ refuse_none neighbour_clash _ _ no_neighbour
            ∙ refuse-least broken_list n (broken_lists old branches) _ h

        module _ (no_broken : broken_lists old branches ≡ []) where
          pub merge_25 : (n : ℕ) → least_or_none (lost_edits old branches) ≡ Some n → merge old branches ≡ refused lost_edit n
          unfolding merge
          merge_25 n h =
              refuse_none content_clash _ _ no_content ∙ refuse_none parent_clash _ _ no_parent
              ∙ refuse_none neighbour_clash _ _ no_neighbour
              ∙ refuse_none broken_list _ _ no_broken ∙ refuse-least lost_edit n (lost_edits old branches) _ h

          pub merge_done : lost_edits old branches ≡ [] → merge old branches ≡ merged (merged_tree old branches)
          unfolding merge
          merge_done no_lost =
              refuse_none content_clash _ _ no_content ∙ refuse_none parent_clash _ _ no_parent
              ∙ refuse_none neighbour_clash _ _ no_neighbour
              ∙ refuse_none broken_list _ _ no_broken ∙ refuse_none lost_edit _ _ no_lost
