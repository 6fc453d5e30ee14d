-- What the judgement of 21 to 25 answers, and what it leaves in memory. texts, lines and facts are those of the tables that are merged, old
-- and branches their rows, `counts` how many they have; ls and fs are the arrays of the merged table afterwards. Assumes nothing.
use Rattle.std.specs.Prelude.{◌≡◌, List, [], ◌∷◌, map, ℕ, ◌<◌, ◌≤◌, length, get_or, Option, None, Some, Result, Ok, Err}
use Rattle.rules.specs.Kinds.{clash_code}
use Rattle.rules.specs.Limits.{LINES}
use Rattle.rules.specs.Line.{Row}
use Rattle.rules.specs.Tree.{tree_of}
use Rattle.rules.specs.Facts.{facts_of}
use Rattle.rules.specs.Merge.{refused, merged, merge}
use Rattle.rules.specs.Ledger.{entries_of}
use Rattle.rules.specs.declared.kinds.Clash.{Clash}
use Rattle.rules.specs.declared.record.Record.{Record}
use Rattle.facts.specs.Memory.{TABLES}
use Rattle.facts.specs.Order.{InWrittenOrder}
use Rattle.write.specs.Stored.{Stored}
use Rattle.ledger.specs.Entries.{entries_in}
use Rattle.contents.specs.Tables.{SideBySide}
use Rattle.judge.specs.declared.Refusal.{Refusal}

-- a clash of this kind, if there is a place for it
abbrev pub clash_at : Clash → Option Record → Result Unit Refusal
clash_at clash None = Ok tt
clash_at clash (Some place) = Err (record { clash = clash; place = place })

-- the merged tree lies in memory as a table of so many records, their lines in written order, with the contents and origins that the rules
-- give them
pub record MergedIn (texts : List (List ℕ)) (ls fs : List ℕ) (old : List Row) (branches : List (List Row)) (count : ℕ) : Type 0 where
  pub t : List Row
  pub is : merge (facts_of old) (map facts_of branches) ≡ merged (tree_of t)
  pub stored : Stored texts ls fs t
  pub order : InWrittenOrder fs t
  pub counted : count ≡ length t
  pub entries : entries_in ls fs t ≡ entries_of old branches (tree_of t)

-- the tables that are judged lie in memory, each within the limit of lines
pub record InMemory (texts lines facts : List (List ℕ)) (counts : List ℕ) (old : List Row) (branches : List (List Row)) : Type 0 where
  pub side : SideBySide texts lines facts old branches
  pub counted : (k : ℕ) → k < TABLES → get_or counts k 0 ≡ length (get_or (old ∷ branches) k [])
  pub few : (k : ℕ) → k < TABLES → length (get_or (old ∷ branches) k []) ≤ LINES

-- what the answer says of these rows
abbrev pub verdict : List (List ℕ) → List ℕ → List ℕ → Result ℕ Refusal → List Row → List (List Row) → Type 0
verdict texts ls fs (Ok count) old branches = MergedIn texts ls fs old branches count
verdict texts ls fs (Err z) old branches = merge (facts_of old) (map facts_of branches) ≡ refused (clash_code z.clash) z.place.number

pub record Judges (texts lines facts : List (List ℕ)) (counts ls fs : List ℕ) (answer : Result ℕ Refusal) : Type 0 where
  pub says : (old : List Row) (branches : List (List Row)) → InMemory texts lines facts counts old branches
      → verdict texts ls fs answer old branches
