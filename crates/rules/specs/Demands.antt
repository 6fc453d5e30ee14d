-- What the demands speak of, as types: readable tables, trees, and the tree that answers a merge. Assumes nothing.
use Rattle.std.specs.Prelude.{cond, ◌≡◌, List, [], ◌∷◌, map, ℕ, ◌≤◌, T, eqb, length}
use Rattle.rules.specs.Limits.{LINES, BYTES}
use Rattle.rules.specs.Lists.{◌∈◌, NoneTwice, every}
use Rattle.rules.specs.Marks.{TOP, START, is_record}
use Rattle.rules.specs.Text.{allowed, content_ok}
use Rattle.rules.specs.Line.{Row}
use Rattle.rules.specs.Table.{numbers, verdict, readable}
use Rattle.rules.specs.Tree.{Tree, numbers_in, rows}
use Rattle.rules.specs.Facts.{PositionFact, ContentFact, Facts, positions_of, contents_of, facts_of, tree_positions, tree_contents}
use Rattle.rules.specs.Merge.{position_edits, content_edits}
use Rattle.rules.specs.Written.{written_tree}
use Rattle.rules.specs.Ledger.{Entry, entries_of, ledger}
use Rattle.rules.specs.Calls.{Outcome, not_read, clash, too_large, no_room, done}

-- ---- tables and trees

-- numbers of records, "once in a table"
pub record Distinct (t : List Row) : Type 0 where
  pub once : NoneTwice (numbers t)
  pub valid : (x : Row) → x ∈ t → T (is_record x.number)

-- "Any other parent must stand on an earlier line": `seen` are the numbers of the lines before
abbrev pub Rooted : List ℕ → List Row → Type 0
Rooted seen [] = Unit {0}
Rooted seen (x ∷ t) = (x.parent ∈ TOP ∷ seen) × Rooted (x.number ∷ seen) t

-- a table's rows, whatever their contents
pub record Readable (t : List Row) : Type 0 where
  pub distinct : Distinct t
  pub rooted : Rooted [] t

-- a tree of records, each once
pub record IsTree (f : Tree) : Type 0 where
  pub once : NoneTwice (numbers_in f)
  pub valid : (n : ℕ) → n ∈ numbers_in f → T (is_record n)

-- a tree with exactly the facts of a table
pub record TreeOf (t : Facts) (f : Tree) : Type 0 where
  pub tree : IsTree f
  pub positions_in_lem : (a : PositionFact) → a ∈ tree_positions TOP START f → a ∈ t.positions
  pub positions_have : (a : PositionFact) → a ∈ t.positions → a ∈ tree_positions TOP START f
  pub contents_in_lem : (a : ContentFact) → a ∈ tree_contents f → a ∈ t.contents
  pub contents_have : (a : ContentFact) → a ∈ t.contents → a ∈ tree_contents f

-- a content that a line may hold
pub record Writable (c : List ℕ) : Type 0 where
  pub rule : T (content_ok c)
  pub bytes : T (every allowed c)

-- a tree within the limits of a table
pub record Within (f : Tree) : Type 0 where
  pub tree : IsTree f
  pub contents : (x : Row) → x ∈ rows TOP f → Writable x.content
  pub few : length (rows TOP f) ≤ LINES
  pub short : length (written_tree f) ≤ BYTES

-- ---- demand 3

-- a fact of one of the tables
module _ {A : Type 0} (part : Facts → List A) where
  abbrev pub Known : Facts → List Facts → A → Type 0
  Known old branches a = (t : Facts) × (t ∈ old ∷ branches) × (a ∈ part t)

-- "holds every edit of both desks and no fact absent from all three tables"
pub record Answers (old : Facts) (branches : List Facts) (f : Tree) : Type 0 where
  pub tree : IsTree f
  pub positions_edited : (a : PositionFact) → a ∈ position_edits old branches → a ∈ tree_positions TOP START f
  pub contents_edited : (a : ContentFact) → a ∈ content_edits old branches → a ∈ tree_contents f
  pub positions_known : (a : PositionFact) → a ∈ tree_positions TOP START f → Known positions_of old branches a
  pub contents_known : (a : ContentFact) → a ∈ tree_contents f → Known contents_of old branches a

-- "in the ledger only the desk marks trade places"
abbrev pub traded : ℕ → ℕ
traded mark = cond (eqb mark 1) 2 (cond (eqb mark 2) 1 mark)

abbrev pub traded_entry : Entry → Entry
traded_entry e = record { number = e.number; origin = traded e.origin; bytes = e.bytes }

-- the same outcome, with the desk marks of its ledger traded
abbrev pub traded_outcome : Outcome → Outcome
traded_outcome (not_read table code line) = not_read table code line
traded_outcome (clash code place) = clash code place
traded_outcome too_large = too_large
traded_outcome (no_room code table_length ledger_length) = no_room code table_length ledger_length
traded_outcome (done table es) = done table (map traded_entry es)

-- ---- the ledger

-- "Origin is 0 if the content equals old's for that number; otherwise 1 if only first has it, 2 if only second, 3 if both."
pub data OriginIs (old first second : Facts) (a : ContentFact) : ℕ → Type 0 where
  of_old : a ∈ old.contents → OriginIs old first second a 0
  only_first : (a ∈ old.contents → ⊥) → a ∈ first.contents → (a ∈ second.contents → ⊥) → OriginIs old first second a 1
  only_second : (a ∈ old.contents → ⊥) → (a ∈ first.contents → ⊥) → a ∈ second.contents → OriginIs old first second a 2
  of_both : (a ∈ old.contents → ⊥) → a ∈ first.contents → a ∈ second.contents → OriginIs old first second a 3

-- ---- demand 3 on texts

-- the texts' tables, all of them readable
pub record Tables (old : List ℕ) (branches : List (List ℕ)) (o : List Row) (bs : List (List Row)) : Type 0 where
  pub old_read : verdict old ≡ readable o
  pub branches_read : map verdict branches ≡ map readable bs

-- the tree f answers the merge of these tables, is within the limits, and fits with its ledger into the room of the two buffers
pub record Answered (o : List Row) (bs : List (List Row)) (table_room ledger_room : ℕ) (f : Tree) : Type 0 where
  pub answers : Answers (facts_of o) (map facts_of bs) f
  pub within : Within f
  pub table-room : length (written_tree f) ≤ table_room
  pub ledger-room : length (ledger (entries_of o bs f)) ≤ ledger_room
