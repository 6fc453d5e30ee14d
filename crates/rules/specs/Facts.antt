-- Facts and edits. A position fact says who follows whom under a parent, a content fact which content a record has; the two kinds
-- do not know each other. r is a parent, p the one before, s the one after, n a record. Assumes nothing.
use Rattle.std.specs.Prelude.{Bool, true, false, not, ◌&&◌, ◌||◌, List, [], ◌∷◌, ◌++◌, map, ℕ, eqb}
use Rattle.rules.specs.Lists.{put, keep, any, flat}
use Rattle.rules.specs.Marks.{TOP, START, END, is_record}
use Rattle.rules.specs.Line.{Content, Row}
use Rattle.rules.specs.Table.{numbers}
use Rattle.rules.specs.Tree.{Tree, empty, node, child_numbers}

-- "under r, p is directly followed by s"
pub record PositionFact : Type 0 where
  pub parent : ℕ
  pub before : ℕ
  pub after : ℕ

-- "A content fact gives a record its content."
pub record ContentFact : Type 0 where
  pub number : ℕ
  pub content : Content

pub record Facts : Type 0 where
  pub positions : List PositionFact
  pub contents : List ContentFact

abbrev pub positions_of : Facts → List PositionFact
positions_of t = t.positions

abbrev pub contents_of : Facts → List ContentFact
contents_of t = t.contents

abbrev pub position : ℕ → ℕ → ℕ → PositionFact
position r p s = record { parent = r; before = p; after = s }

abbrev pub content_fact : ℕ → Content → ContentFact
content_fact n c = record { number = n; content = c }

-- ---- the facts of a table

-- the position facts of one list, from p on; START to END if it is childless
abbrev pub list_facts : ℕ → ℕ → List ℕ → List PositionFact
list_facts r p [] = position r p END ∷ []
list_facts r p (n ∷ ns) = position r p n ∷ list_facts r n ns

abbrev pub content_of : Row → ContentFact
content_of x = content_fact x.number x.content

-- the lists of the top and of every record, and every content
unfoldable pub facts_of : List Row → Facts
facts_of t =
    record {
      positions = flat (λ (r : ℕ). list_facts r START (child_numbers r t)) (TOP ∷ numbers t);
      contents = map content_of t;
    }

-- ---- the facts of a tree, whose first list is that of r, from p on

abbrev pub tree_positions : ℕ → ℕ → Tree → List PositionFact
tree_positions r p empty = position r p END ∷ []
tree_positions r p (node n c below after) = position r p n ∷ (tree_positions n START below ++ tree_positions r n after)

abbrev pub tree_contents : Tree → List ContentFact
tree_contents empty = []
tree_contents (node n c below after) = content_fact n c ∷ (tree_contents below ++ tree_contents after)

-- ---- equal facts

abbrev pub same_content : Content → Content → Bool
same_content [] [] = true
same_content [] (y ∷ d) = false
same_content (x ∷ c) [] = false
same_content (x ∷ c) (y ∷ d) = eqb x y && same_content c d

abbrev pub same_position : PositionFact → PositionFact → Bool
same_position a b = eqb a.parent b.parent && (eqb a.before b.before && eqb a.after b.after)

abbrev pub same_content_fact : ContentFact → ContentFact → Bool
same_content_fact a b = eqb a.number b.number && same_content a.content b.content

-- ---- "Two facts disagree if"

-- "they give one record different contents"
abbrev pub contents_disagree : ContentFact → ContentFact → Bool
contents_disagree a b = eqb a.number b.number && not (same_content a.content b.content)

-- "a fact gives parent r to each of p and s that is a record"
pub record ParentGiven : Type 0 where
  pub number : ℕ
  pub parent : ℕ

abbrev pub parent_given : ℕ → ℕ → ParentGiven
parent_given n r = record { number = n; parent = r }

abbrev pub parents_given : PositionFact → List ParentGiven
parents_given a =
    put (is_record a.before) (parent_given a.before a.parent)
    (put (is_record a.after) (parent_given a.after a.parent) [])

abbrev pub parents_differ : ParentGiven → ParentGiven → Bool
parents_differ a b = eqb a.number b.number && not (eqb a.parent b.parent)

-- "or one record different parents"
abbrev pub parents_disagree : PositionFact → PositionFact → Bool
parents_disagree a b = any (λ (g : ParentGiven). any (parents_differ g) (parents_given b)) (parents_given a)

-- "or, under the same r, the same p with different s or the same s with different p"
abbrev pub neighbours_disagree : PositionFact → PositionFact → Bool
neighbours_disagree a b =
    eqb a.parent b.parent
    && ((eqb a.before b.before && not (eqb a.after b.after))
    || (eqb a.after b.after && not (eqb a.before b.before)))

abbrev pub positions_disagree : PositionFact → PositionFact → Bool
positions_disagree a b = parents_disagree a b || neighbours_disagree a b

-- ---- edits and kept facts of one kind, whichever it is

module _ {A : Type 0} (same : A → A → Bool) where
  -- the facts of xs that ys lacks
  abbrev pub lacking : List A → List A → List A
  lacking xs ys = keep (λ (x : A). not (any (same x) ys)) xs

  -- "The edits are the facts of first or second that old lacks."
  abbrev pub edits : List A → List (List A) → List A
  edits old branches = flat (λ (branch : List A). lacking branch old) branches

module _ {A : Type 0} (disagree : A → A → Bool) where
  -- "all edits, with every old fact that disagrees with no edit"
  abbrev pub kept : List A → List A → List A
  kept edited old = edited ++ keep (λ (x : A). not (any (disagree x) edited)) old

  -- those that disagree with another of them
  abbrev pub disagreeing : List A → List A
  disagreeing xs = keep (λ (x : A). any (disagree x) xs) xs
