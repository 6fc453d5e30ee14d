-- How a merge ends once the merged table lies in memory: what is asked of memory, and what the answer and the two buffers tell. texts hold
-- the contents, ls and fs are the two arrays, t is the merged table's rows, count how many there are; a prime marks a buffer afterwards.
-- Assumes nothing.
use Rattle.std.specs.Prelude.{◌≡◌, cond, ◌||◌, List, ℕ, ◌<◌, eqb, ltb, length, Result, Ok, Err}
use Rattle.rules.specs.Limits.{LINES, BYTES}
use Rattle.rules.specs.Codes.{accepted, merged_too_large, table_too_short, ledger_too_short}
use Rattle.rules.specs.Line.{Row}
use Rattle.rules.specs.Tree.{tree_of}
use Rattle.rules.specs.Calls.{Outcome, packed, told, answer_of, table_after, ledger_after}
use Rattle.rules.specs.Kinds.{shortage_code}
use Rattle.rules.specs.declared.answers.Merged.{Merged}
use Rattle.rules.specs.declared.kinds.Shortage.{Shortage}
use Rattle.facts.specs.Memory.{ROOM}
use Rattle.facts.specs.Order.{InWrittenOrder}
use Rattle.write.specs.Stored.{Stored}
use Rattle.ledger.specs.Entries.{entries_in}

-- ---- by numbers alone

-- the code, for so many records and the two lengths in the room of the two buffers
abbrev pub room_code : ℕ → ℕ → ℕ → ℕ → ℕ → ℕ
room_code records table_length ledger_length table_room ledger_room =
    cond (ltb LINES records || ltb BYTES table_length) merged_too_large
    (cond (ltb table_room table_length) table_too_short
    (cond (ltb ledger_room ledger_length) ledger_too_short accepted))

-- that of an end
abbrev pub end_code : Result (Unit {0}) Shortage → ℕ
end_code (Ok _) = accepted
end_code (Err shortage) = shortage_code shortage

-- "Lengths are 0 on refusal, but 31 and 32 give both lengths needed."
abbrev pub room_told : ℕ → ℕ → ℕ → Merged
room_told code table_length ledger_length =
    cond (eqb code merged_too_large) (told code 0 0 0 0) (told code 0 0 table_length ledger_length)

-- ---- the call

-- memory holds a table of so many records, their lines in written order
pub record PackReady (texts : List (List ℕ)) (ls fs : List ℕ) (count : ℕ) : Type 0 where
  pub t : List Row
  pub stored : Stored texts ls fs t
  pub order : InWrittenOrder fs t
  pub counted : count ≡ length t
  pub few : count < ROOM

-- the answer and the two buffers tell this end
pub record Ends (o : Outcome) (table ledger : List ℕ) (answer : Merged) (table' ledger' : List ℕ) : Type 0 where
  pub answered : answer ≡ answer_of o
  pub tabled : table' ≡ table_after o table
  pub ledgered : ledger' ≡ ledger_after o ledger

-- whatever table memory holds in written order, the call ends as its tree and entries make it end
pub record Packs (texts : List (List ℕ)) (ls fs : List ℕ) (count : ℕ) (table ledger : List ℕ) (answer : Merged) (table' ledger' : List ℕ)
    : Type 0 where
  pub all : (t : List Row) → Stored texts ls fs t → InWrittenOrder fs t → count ≡ length t
      → Ends (packed (tree_of t) (entries_in ls fs t) (length table) (length ledger)) table ledger answer table' ledger'
