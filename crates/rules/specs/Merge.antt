-- The merge: the edits of all branches, the kept facts, the walk from the top, and the conditions of codes 21 to 25.
-- `old` and `branches` are the facts of the tables. Assumes nothing.
use Rattle.std.proofs.Math.Option.{Option, none, some}
use Rattle.std.specs.Prelude.{Bool, ◌&&◌, List, [], ◌∷◌, ◌++◌, map, ℕ, zero, suc, min, eqb}
use Rattle.rules.specs.Codes.{content_clash, parent_clash, neighbour_clash, broken_list, lost_edit}
use Rattle.rules.specs.Lists.{first, keep, flat}
use Rattle.rules.specs.Marks.{TOP, START, is_record}
use Rattle.rules.specs.Line.{Content}
use Rattle.rules.specs.Tree.{Tree, empty, node, STEPS}
use Rattle.rules.specs.Facts.{PositionFact, ContentFact, ParentGiven, Facts, positions_of, contents_of, tree_positions, tree_contents}
use Rattle.rules.specs.Facts.{same_position, same_content_fact, contents_disagree, parents_given, parents_differ, neighbours_disagree}
use Rattle.rules.specs.Facts.{positions_disagree, lacking, edits, kept, disagreeing}

-- ---- the walk

-- under r, the fact goes on from p to a record
abbrev pub goes_on : ℕ → ℕ → PositionFact → Bool
goes_on r p a = eqb a.parent r && (eqb a.before p && is_record a.after)

-- whom the facts give as the next after p under r, if anyone
unfoldable pub follower : List PositionFact → ℕ → ℕ → Option ℕ
follower facts r p = first (map (λ (a : PositionFact). a.after) (keep (goes_on r p) facts))

-- the content, or nothing where none is given
abbrev pub or_empty : Option Content → Content
or_empty none = []
or_empty (some c) = c

-- the content that the facts give a record
unfoldable pub content_in : List ContentFact → ℕ → Content
content_in facts n = or_empty (first (map (λ (a : ContentFact). a.content) (keep (λ (a : ContentFact). eqb a.number n) facts)))

-- the tree from the next record on; none, where the list stops
abbrev pub onward : Option ℕ → (ℕ → Tree) → Tree
onward none tree = empty
onward (some n) tree = tree n

-- "Under each reached parent it goes from START along kept facts, reaching each record met": the list of r from p on, by who
-- follows (`next`) and what each record holds (`content`)
unfoldable pub walk : (ℕ → ℕ → Option ℕ) → (ℕ → Content) → ℕ → ℕ → ℕ → Tree
walk next content zero r p = empty
walk next content (suc k) r p =
    onward (next r p) (λ n. node n (content n) (walk next content k n START) (walk next content k r n))

-- ---- the verdict

pub data Result : Type 0 where
  refused : ℕ → ℕ → Result
  merged : Tree → Result

-- the least of some places
abbrev pub least : ℕ → List ℕ → ℕ
least place [] = place
least place (other ∷ others) = least (min place other) others

-- "Each is given exactly when its condition holds and none before it does", at the least of its places
abbrev pub refuse : ℕ → List ℕ → Result → Result
refuse code [] result = result
refuse code (place ∷ places) result = refused code (least place places)

module _ (old : Facts) (branches : List Facts) where
  unfoldable pub position_edits : List PositionFact
  position_edits = edits same_position old.positions (map positions_of branches)

  unfoldable pub content_edits : List ContentFact
  content_edits = edits same_content_fact old.contents (map contents_of branches)

  unfoldable pub kept_positions : List PositionFact
  kept_positions = kept positions_disagree position_edits old.positions

  unfoldable pub kept_contents : List ContentFact
  kept_contents = kept contents_disagree content_edits old.contents

  -- "The merged tree is what is reached, each record with its kept content."
  unfoldable pub merged_tree : Tree
  merged_tree = walk (follower kept_positions) (content_in kept_contents) STEPS TOP START

  -- 21: "two edits give one record different contents"
  unfoldable pub content_clashes : List ℕ
  content_clashes = map (λ (a : ContentFact). a.number) (disagreeing contents_disagree content_edits)

  -- 22: "two edits give one record different parents"
  unfoldable pub parent_clashes : List ℕ
  parent_clashes = map (λ (g : ParentGiven). g.number) (disagreeing parents_differ (flat parents_given position_edits))

  -- 23: "two edits disagree on follower or forerunner under one parent"
  unfoldable pub neighbour_clashes : List ℕ
  neighbour_clashes = map (λ (a : PositionFact). a.parent) (disagreeing neighbours_disagree position_edits)

  -- 24: "a reached parent's list stops before END": the tree ends it there, and no kept fact does
  unfoldable pub broken_lists : List ℕ
  broken_lists = map (λ (a : PositionFact). a.parent) (lacking same_position (tree_positions TOP START merged_tree) kept_positions)

  -- 25: "an edit is not among the facts of the merged tree"
  unfoldable pub lost_edits : List ℕ
  lost_edits =
      map (λ (a : ContentFact). a.number) (lacking same_content_fact content_edits (tree_contents merged_tree))
      ++ map (λ (a : PositionFact). a.parent) (lacking same_position position_edits (tree_positions TOP START merged_tree))

  -- "Codes 21 to 32 follow in number order": those of the facts
  unfoldable pub merge : Result
  merge =
      refuse content_clash content_clashes
      (refuse parent_clash parent_clashes
      (refuse neighbour_clash neighbour_clashes
      (refuse broken_list broken_lists
      (refuse lost_edit lost_edits
      (merged merged_tree)))))
