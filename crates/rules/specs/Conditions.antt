-- What a refusal with code 21 to 25 says, in words of facts and edits: the condition of each code, as a type. Nothing here computes, and
-- nothing that computes uses it; that the merge is refused exactly so is proved (trees/proofs/Refusing, and of the call in
-- demands/proofs/OnTheCall). `old` and `branches` are the facts of the tables, a and b facts, r is a parent, p the one before, s the one
-- after, n a record or a parent. Assumes nothing.
use Rattle.std.specs.Prelude.{◌≡◌, ◌⊎◌, ◌↔◌, List, ℕ, ◌≤◌, T}
use Rattle.rules.specs.Codes.{content_clash, parent_clash, neighbour_clash, broken_list, lost_edit}
use Rattle.rules.specs.Lists.{◌∈◌}
use Rattle.rules.specs.Marks.{TOP, START, is_record}
use Rattle.rules.specs.Line.{Row}
use Rattle.rules.specs.Table.{numbers}
use Rattle.rules.specs.Facts.{PositionFact, ContentFact, Facts, positions_of, contents_of, position}
use Rattle.rules.specs.declared.answers.Merged.{Merged}

-- ---- where a condition holds

abbrev pub Somewhere : (ℕ → Type 0) → Type 0
Somewhere Condition = (n : ℕ) × Condition n

abbrev pub Nowhere : (ℕ → Type 0) → Type 0
Nowhere Condition = (n : ℕ) → Condition n → ⊥

pub record Least (Condition : ℕ → Type 0) (n : ℕ) : Type 0 where
  pub holds : Condition n
  pub least : (m : ℕ) → Condition m → n ≤ m

-- ---- "Two facts disagree if"

-- "they give one record different contents": record n
abbrev pub DifferentContents : ℕ → ContentFact → ContentFact → Type 0
DifferentContents n a b = (a.number ≡ n) × (b.number ≡ n) × (a.content ≡ b.content → ⊥)

-- "a fact gives parent r to each of p and s that is a record": to n it does
abbrev pub GivesParent : ℕ → PositionFact → Type 0
GivesParent n a = T (is_record n) × ((n ≡ a.before) ⊎ (n ≡ a.after))

-- "or one record different parents": record n
abbrev pub DifferentParents : ℕ → PositionFact → PositionFact → Type 0
DifferentParents n a b = GivesParent n a × GivesParent n b × (a.parent ≡ b.parent → ⊥)

-- "the same p with different s"
abbrev pub DifferentFollowers : PositionFact → PositionFact → Type 0
DifferentFollowers a b = (a.before ≡ b.before) × (a.after ≡ b.after → ⊥)

-- "or the same s with different p"
abbrev pub DifferentForerunners : PositionFact → PositionFact → Type 0
DifferentForerunners a b = (a.after ≡ b.after) × (a.before ≡ b.before → ⊥)

-- "or, under the same r"
abbrev pub DifferentNeighbours : ℕ → PositionFact → PositionFact → Type 0
DifferentNeighbours r a b = (a.parent ≡ r) × (b.parent ≡ r) × (DifferentFollowers a b ⊎ DifferentForerunners a b)

abbrev pub ContentsDisagree : ContentFact → ContentFact → Type 0
ContentsDisagree a b = Somewhere (λ n. DifferentContents n a b)

abbrev pub PositionsDisagree : PositionFact → PositionFact → Type 0
PositionsDisagree a b = Somewhere (λ n. DifferentParents n a b) ⊎ Somewhere (λ r. DifferentNeighbours r a b)

-- ---- edits and kept facts, of positions or of contents

module _ {A : Type 0} (part : Facts → List A) (old : Facts) (branches : List Facts) where
  -- "The edits are the facts of first or second that old lacks."
  abbrev pub Edit : A → Type 0
  Edit a = ((t : Facts) × (t ∈ branches) × (a ∈ part t)) × (a ∈ part old → ⊥)

  abbrev pub TwoEdits : (A → A → Type 0) → Type 0
  TwoEdits Clash = (a : A) × (b : A) × Edit a × Edit b × Clash a b

  -- "The kept facts are all edits, with every old fact that disagrees with no edit."
  abbrev pub Kept : (A → A → Type 0) → A → Type 0
  Kept Disagree a = Edit a ⊎ ((a ∈ part old) × ((b : A) → Edit b → Disagree a b → ⊥))

module _ (old : Facts) (branches : List Facts) where
  abbrev pub PositionEdit : PositionFact → Type 0
  PositionEdit a = Edit positions_of old branches a

  abbrev pub ContentEdit : ContentFact → Type 0
  ContentEdit a = Edit contents_of old branches a

  abbrev pub KeptPosition : PositionFact → Type 0
  KeptPosition a = Kept positions_of old branches PositionsDisagree a

  abbrev pub KeptContent : ContentFact → Type 0
  KeptContent a = Kept contents_of old branches ContentsDisagree a

  -- ---- codes 21 to 23: two edits disagree

  -- 21: "two edits give one record different contents": record n
  abbrev pub ContentClash : ℕ → Type 0
  ContentClash n = TwoEdits contents_of old branches (DifferentContents n)

  -- 22: "two edits give one record different parents": record n
  abbrev pub ParentClash : ℕ → Type 0
  ParentClash n = TwoEdits positions_of old branches (DifferentParents n)

  -- 23: "two edits disagree on follower or forerunner under one parent": parent r
  abbrev pub NeighbourClash : ℕ → Type 0
  NeighbourClash r = TwoEdits positions_of old branches (DifferentNeighbours r)

  -- ---- code 24: the walk stops

  -- "The walk begins at the top. Under each reached parent it goes from START along kept facts, reaching each record met": under r, the
  -- walk comes to p
  pub data Met : ℕ → ℕ → Type 0 where
    begin : Met TOP START
    on : {r p s : ℕ} → Met r p → KeptPosition (position r p s) → T (is_record s) → Met r s
    under : {r p s : ℕ} → Met r p → KeptPosition (position r p s) → T (is_record s) → Met s START

  -- 24: "a reached parent's list stops before END": under r the walk comes to p, and "no kept fact goes on", neither to a record nor to END
  abbrev pub BrokenList : ℕ → Type 0
  BrokenList r = (p : ℕ) × Met r p × ((s : ℕ) → KeptPosition (position r p s) → ⊥)

  -- ---- code 25: an edit is lost

  -- "The merged tree is what is reached, each record with its kept content": these are its facts
  abbrev pub HeldPosition : PositionFact → Type 0
  HeldPosition a = KeptPosition a × Met a.parent a.before

  abbrev pub HeldContent : ContentFact → Type 0
  HeldContent a = KeptContent a × Met a.number START

  -- 25: "an edit is not among the facts of the merged tree", "taking a content fact's record and a position fact's parent": n
  abbrev pub LostContent : ℕ → Type 0
  LostContent n = (a : ContentFact) × ContentEdit a × (a.number ≡ n) × (HeldContent a → ⊥)

  abbrev pub LostPosition : ℕ → Type 0
  LostPosition n = (a : PositionFact) × PositionEdit a × (a.parent ≡ n) × (HeldPosition a → ⊥)

  abbrev pub LostEdit : ℕ → Type 0
  LostEdit n = LostContent n ⊎ LostPosition n

  -- ---- "Each is given exactly when its condition holds and none before it does", at the least of its places: code and place

  pub data Refusal : ℕ → ℕ → Type 0 where
    content_clash_lem : {n : ℕ} → Least ContentClash n → Refusal content_clash n
    parent_clash_lem : {n : ℕ} → Nowhere ContentClash → Least ParentClash n → Refusal parent_clash n
    neighbour_clash_lem : {r : ℕ} → Nowhere ContentClash → Nowhere ParentClash → Least NeighbourClash r → Refusal neighbour_clash r
    broken_list_lem : {r : ℕ} → Nowhere ContentClash → Nowhere ParentClash → Nowhere NeighbourClash → Least BrokenList r
        → Refusal broken_list r
    lost_edit_lem : {n : ℕ} → Nowhere ContentClash → Nowhere ParentClash → Nowhere NeighbourClash → Nowhere BrokenList → Least LostEdit n
        → Refusal lost_edit n

-- ---- the place

-- a record of one of the tables
abbrev pub RecordOf : List (List Row) → ℕ → Type 0
RecordOf tables n = (t : List Row) × (t ∈ tables) × (n ∈ numbers t)

-- "A parent place of 0 is the top."
abbrev pub TopOrRecordOf : List (List Row) → ℕ → Type 0
TopOrRecordOf tables n = (n ≡ TOP) ⊎ RecordOf tables n

-- ---- what the answer of merge says

-- The code is told exactly if its condition holds somewhere and none before it does (`Before`). Then the answer names the least place where
-- it holds, no table, and no lengths.
pub record Names (answer : Merged) (code : ℕ) (Condition : ℕ → Type 0) (Before : Type 0) : Type 0 where
  pub exactly : (answer.code ≡ code) ↔ (Somewhere Condition × Before)
  pub place_is : answer.code ≡ code → Least Condition answer.place
  pub answer_is : answer.code ≡ code
      → answer ≡ record { code = code; table = 0; place = answer.place; table_length = 0; ledger_length = 0 }
