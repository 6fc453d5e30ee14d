-- What merging the tables in memory asks, answers and leaves in the two lent buffers. texts, lines and facts are those of the tables that
-- are merged, old and branches their rows, `counts` how many they have; a name with a prime is a buffer afterwards. Assumes nothing.
use Rattle.std.specs.Prelude.{List, ℕ, length}
use Rattle.rules.specs.Line.{Row}
use Rattle.rules.specs.Calls.{merge_tables}
use Rattle.rules.specs.declared.answers.Merged.{Merged}
use Rattle.judge.specs.Judged.{InMemory}
use Rattle.pack.specs.Packed.{Ends}

-- some tables were read
pub record Ready (texts lines facts : List (List ℕ)) (counts : List ℕ) : Type 0 where
  pub old : List Row
  pub branches : List (List Row)
  pub tables : InMemory texts lines facts counts old branches

pub record MergesTables
    (texts lines facts : List (List ℕ)) (counts table ledger : List ℕ) (answer : Merged) (table' ledger' : List ℕ)
    : Type 0 where
  pub all : (old : List Row) (branches : List (List Row)) → InMemory texts lines facts counts old branches
      → Ends (merge_tables old branches (length table) (length ledger)) table ledger answer table' ledger'
