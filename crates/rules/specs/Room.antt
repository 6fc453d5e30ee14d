-- Lack of room, as types, with document 01's numbers: when the tree that answers a merge is not written. o and bs are the tables of old
-- and of the branches, f is a tree. Assumes nothing.
use Rattle.std.specs.Prelude.{◌⊎◌, List, map, ℕ, ◌<◌, ◌≤◌, length}
use Rattle.rules.specs.Marks.{TOP}
use Rattle.rules.specs.Line.{Row}
use Rattle.rules.specs.Tree.{Tree, rows}
use Rattle.rules.specs.Facts.{facts_of}
use Rattle.rules.specs.Written.{written_tree}
use Rattle.rules.specs.Ledger.{entries_of, ledger}
use Rattle.rules.specs.Demands.{Answers}

-- 26: "merged table over 512 records or 32,768 bytes"
pub record TooLarge (o : List Row) (bs : List (List Row)) (f : Tree) : Type 0 where
  pub answers : Answers (facts_of o) (map facts_of bs) f
  pub over : (512 < length (rows TOP f)) ⊎ (32768 < length (written_tree f))

-- a tree that answers, within both limits
pub record Sized (o : List Row) (bs : List (List Row)) (f : Tree) : Type 0 where
  pub answers : Answers (facts_of o) (map facts_of bs) f
  pub few : length (rows TOP f) ≤ 512
  pub short : length (written_tree f) ≤ 32768

-- 31: "table buffer too short"
pub record TableTooLong (o : List Row) (bs : List (List Row)) (table_room : ℕ) (f : Tree) : Type 0 where
  pub sized : Sized o bs f
  pub long : table_room < length (written_tree f)

-- 32: "ledger buffer too short", the table's being long enough
pub record LedgerTooLong (o : List Row) (bs : List (List Row)) (table_room ledger_room : ℕ) (f : Tree) : Type 0 where
  pub sized : Sized o bs f
  pub table-room : length (written_tree f) ≤ table_room
  pub long : ledger_room < length (ledger (entries_of o bs f))
