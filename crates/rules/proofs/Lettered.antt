-- The lettered trees A to M of document 01: one table, one claim.
-- `1 ⟨ 2 · 3 · ∅ ⟩ ∅` is 1(2 3); `3 ✶ ∅` is 3*, record 3 with a new content. Assumes nothing.
use mathlib.Core.Path.{◌≡◌, refl}
use mathlib.Core.List.{List, [], ◌∷◌, map}
use Prim.Native.Nat.{ℕ}
use Rattle.rules.specs.Codes.{parent_clash, neighbour_clash, broken_list, lost_edit}
use Rattle.rules.specs.Marks.{TOP}
use Rattle.rules.specs.Tree.{Tree, empty, node, rows}
use Rattle.rules.specs.Facts.{Facts, facts_of}
use Rattle.rules.specs.Merge.{Result, refused, merged, merge, content_clashes, parent_clashes, neighbour_clashes, broken_lists}
use Rattle.rules.specs.Merge.{lost_edits, merged_tree, kept_positions, kept_contents, position_edits, content_edits, walk, follower}
use Rattle.rules.specs.Merge.{content_in}

infixr 60 ◌·◌ ◌✶◌ ◌⟨◌⟩◌
abbrev ∅ : Tree
∅ = empty

abbrev ◌·◌ : ℕ → Tree → Tree
◌·◌ n rest = node n (n ∷ []) empty rest

abbrev ◌✶◌ : ℕ → Tree → Tree
◌✶◌ n rest = node n (n ∷ n ∷ []) empty rest

abbrev ◌⟨◌⟩◌ : ℕ → Tree → Tree → Tree
◌⟨◌⟩◌ n below rest = node n (n ∷ []) below rest

pub record Case : Type 0 where
  pub old : Tree
  pub first : Tree
  pub second : Tree
  pub result : Result

abbrev case : Tree → Tree → Tree → Result → Case
case o f s r = record { old = o; first = f; second = s; result = r }

abbrev pub letters : List Case
letters =
    -- A
    case ∅ ∅ ∅ (merged ∅)
    -- B
    ∷ case (1 ⟨ 2 · 3 · 4 · ∅ ⟩ ∅) (1 ⟨ 3 · 4 · ∅ ⟩ ∅) (1 ⟨ 2 · 3 · 4 · 5 · ∅ ⟩ ∅) (merged (1 ⟨ 3 · 4 · 5 · ∅ ⟩ ∅))
    -- C
    ∷ case (1 · 2 ⟨ 3 · 4 · ∅ ⟩ ∅) (1 ⟨ 2 ⟨ 3 · 4 · ∅ ⟩ ∅ ⟩ ∅) (1 · 2 ⟨ 3 · 4 · 5 · ∅ ⟩ ∅) (merged (1 ⟨ 2 ⟨ 3 · 4 · 5 · ∅ ⟩ ∅ ⟩ ∅))
    -- D
    ∷ case (1 ⟨ 2 · ∅ ⟩ ∅) (1 ⟨ 2 · 5 · ∅ ⟩ ∅) (1 ⟨ 2 · 6 · ∅ ⟩ ∅) (refused neighbour_clash 1)
    -- E
    ∷ case (1 ⟨ 2 · 3 · 4 · ∅ ⟩ ∅) (1 ⟨ 2 · 4 · ∅ ⟩ ∅) (1 ⟨ 2 · 3 · ∅ ⟩ ∅) (refused broken_list 1)
    -- F
    ∷ case (1 ⟨ 2 · 3 · 4 · 5 · ∅ ⟩ ∅) (1 ⟨ 3 · 2 · 4 · 5 · ∅ ⟩ ∅) (1 ⟨ 2 · 3 · 5 · 4 · ∅ ⟩ ∅) (refused neighbour_clash 1)
    -- G
    ∷ case (1 · 2 · ∅) (1 ⟨ 2 · ∅ ⟩ ∅) (2 ⟨ 1 · ∅ ⟩ ∅) (refused parent_clash 1)
    -- H
    ∷ case (3 · 1 · 4 · 2 · 5 · ∅) (3 · 4 · 2 ⟨ 1 · ∅ ⟩ 5 · ∅) (3 · 1 ⟨ 2 · ∅ ⟩ 4 · 5 · ∅) (refused lost_edit 1)
    -- I
    ∷ case (1 ⟨ 2 · ∅ ⟩ ∅) (1 · ∅) (1 ⟨ 2 ✶ ∅ ⟩ ∅) (refused lost_edit 2)
    -- J
    ∷ case (1 ⟨ 2 ⟨ 3 · ∅ ⟩ ∅ ⟩ 4 · 5 · ∅) (1 · 4 · 5 ⟨ 3 · ∅ ⟩ ∅) (1 · 4 ⟨ 2 ⟨ 3 · ∅ ⟩ ∅ ⟩ 5 · ∅) (refused broken_list 2)
    -- K
    ∷ case (1 ⟨ 2 · ∅ ⟩ 3 · ∅) (1 · 3 · ∅) (1 · 3 ⟨ 2 · ∅ ⟩ ∅) (merged (1 · 3 ⟨ 2 · ∅ ⟩ ∅))
    -- L
    ∷ case (1 ⟨ 2 · 3 · 4 · ∅ ⟩ ∅) (1 ⟨ 2 · ∅ ⟩ ∅) (1 ⟨ 2 · 3 · 5 · 4 · ∅ ⟩ ∅) (refused lost_edit 1)
    -- M
    ∷ case (1 ⟨ 2 ⟨ 4 · 5 · 6 · ∅ ⟩ 3 ⟨ 7 · ∅ ⟩ ∅ ⟩ ∅) (1 ⟨ 3 ⟨ 7 · ∅ ⟩ 2 ⟨ 4 · 5 · 6 · ∅ ⟩ 8 · ∅ ⟩ ∅) (1 ⟨ 2 ⟨ 5 · 4 · 6 · ∅ ⟩ 3 ✶ ∅ ⟩ ∅)
    (merged (1 ⟨ 3 ✶ 2 ⟨ 5 · 4 · 6 · ∅ ⟩ 8 · ∅ ⟩ ∅))
    ∷ []

abbrev pub facts : Tree → Facts
facts f = facts_of (rows TOP f)

abbrev pub merge_of : Case → Result
merge_of k = merge (facts k.old) (facts k.first ∷ facts k.second ∷ [])

pub lettered : map merge_of letters ≡ map (λ (k : Case). k.result) letters
unfolding merge content_clashes parent_clashes neighbour_clashes broken_lists lost_edits merged_tree
    kept_positions kept_contents position_edits content_edits walk follower content_in facts_of
lettered = refl
