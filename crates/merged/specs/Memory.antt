-- The followers and the places that the tables in memory give the merged table. texts, lines and facts are those of all tables, n is a
-- record. Assumes nothing.
use Rattle.std.specs.Prelude.{List, ℕ}
use Rattle.rules.specs.declared.answers.Part.{Part}
use Rattle.edits.specs.Memory.{ask}
use Rattle.edits.specs.Positions.{kept_after}
use Rattle.contents.specs.Memory.{kept_place, kept_length}

-- who follows whom by the kept facts
abbrev pub kept_next : List (List ℕ) → List (List ℕ) → ℕ → ℕ → ℕ
kept_next lines facts = kept_after (ask lines facts)

-- where the kept content of n lies
abbrev pub kept_part : List (List ℕ) → List (List ℕ) → List (List ℕ) → ℕ → Part
kept_part texts lines facts n = record { start = kept_place texts lines facts n; length = kept_length texts lines facts n }
