-- Writing records and lists from memory into a lent buffer: what it asks, and which bytes lie where afterwards. A name with a prime is
-- the state afterwards; `at` is the place of the next byte, `left` the count of records still unwritten. r is a parent, n a record or
-- END. Assumes nothing.
use Rattle.std.specs.Prelude.{◌≡◌, List, ◌++◌, ℕ, suc, ◌+◌, ◌≤◌, length}
use Rattle.rules.specs.Marks.{END}
use Rattle.rules.specs.Line.{Row}
use Rattle.rules.specs.Tree.{Tree, empty, node, rows}
use Rattle.rules.specs.Written.{line, written, tidied, over}
use Rattle.facts.specs.Memory.{FOLLOWER, FIRST, field}
use Rattle.bytes_out.specs.Put.{Put}
use Rattle.write.specs.Stored.{HasContent, content_at, Stored}

-- these bytes are put there, and so many records fewer are unwritten
pub record Done (out out' : List ℕ) (at left at' left' : ℕ) (bytes : List ℕ) (count : ℕ) : Type 0 where
  pub put : Put out out' at at' bytes
  pub rest : left' + count ≡ left

module _ (texts : List (List ℕ)) (ls fs : List ℕ) where
  -- the links from n on lay down this tree: the record n, those below it, those after it
  abbrev pub Laid : ℕ → Tree → Type 0
  Laid n empty = n ≡ END
  Laid n (node m c below after) =
      (n ≡ END → ⊥)
      × (m ≡ n)
      × HasContent texts ls fs n
      × (c ≡ content_at texts ls fs n)
      × Laid (field ls fs n FIRST) below
      × Laid (field ls fs n FOLLOWER) after

  abbrev pub row_at : ℕ → ℕ → Row
  row_at r n = record { number = n; parent = r; content = content_at texts ls fs n }

  -- "a record first, then its children in order, each with all below it"
  abbrev pub record_bytes : ℕ → ℕ → Tree → List ℕ
  record_bytes r n below = line (row_at r n) ++ written (rows n below)

  -- ---- what is asked: there is such a tree, no more of it than is still unwritten, and room for its bytes

  pub record ListReady (r n at left room : ℕ) : Type 0 where
    pub tree : Tree
    pub laid : Laid n tree
    pub few : length (rows r tree) ≤ left
    pub fits : at + length (written (rows r tree)) ≤ room

  pub record RecordReady (r n at left room : ℕ) : Type 0 where
    pub below : Tree
    pub content : HasContent texts ls fs n
    pub laid : Laid (field ls fs n FIRST) below
    pub few : suc (length (rows n below)) ≤ left
    pub fits : at + length (record_bytes r n below) ≤ room

  -- ---- what is done, whatever tree the links lay down

  pub record ListWritten (r n : ℕ) (out out' : List ℕ) (at left at' left' : ℕ) : Type 0 where
    pub all : (f : Tree) → Laid n f → Done out out' at left at' left' (written (rows r f)) (length (rows r f))

  pub record RecordWritten (r n : ℕ) (out out' : List ℕ) (at left at' left' : ℕ) : Type 0 where
    pub all : (below : Tree) → Laid (field ls fs n FIRST) below
        → Done out out' at left at' left' (record_bytes r n below) (suc (length (rows n below)))

  -- ---- a whole table: its written form from byte 0 on, and behind it what lay there

  pub record TableReady (count room : ℕ) : Type 0 where
    pub t : List Row
    pub stored : Stored texts ls fs t
    pub counted : count ≡ length t
    pub fits : length (tidied t) ≤ room

  pub record TableWritten (out out' : List ℕ) : Type 0 where
    pub all : (t : List Row) → Stored texts ls fs t → out' ≡ over (tidied t) out
