-- 21, 22 and 23: the least place of each, over all lines of all branches. q k and w k are asked of table k, table 0 being old; `counts` has
-- how many records each table has, n is a record, i a line. Assumes nothing.
use Rattle.std.specs.Prelude.{List, ℕ, get_or, Option, None}
use Rattle.facts.specs.Asked.{Asked}
use Rattle.edits.specs.Least.{numbered, lesser, best_of}
use Rattle.edits.specs.Memory.{ask, number_on}
use Rattle.edits.specs.Positions.{parent_place, neighbour_place}
use Rattle.contents.specs.Contents.{Told, content_place}
use Rattle.contents.specs.Memory.{tell}
use Rattle.clashes.specs.declared.Clashes.{Clashes}

-- a place of each kind, if there is one
pub record Places : Type 0 where
  pub content : Option ℕ
  pub parent : Option ℕ
  pub neighbour : Option ℕ

abbrev pub places : Clashes → Places
places c = record { content = numbered c.content; parent = numbered c.parent; neighbour = numbered c.neighbour }

abbrev pub no_clash : Places
no_clash = record { content = None; parent = None; neighbour = None }

-- the lesser of each kind
abbrev pub lesser_places : Places → Places → Places
lesser_places a b =
    record {
      content = lesser a.content b.content;
      parent = lesser a.parent b.parent;
      neighbour = lesser a.neighbour b.neighbour;
    }

-- what shows at record n of branch k
abbrev pub clashes_at : (ℕ → Asked) → (ℕ → Told) → ℕ → ℕ → Places
clashes_at q w k n = record { content = content_place w k n; parent = parent_place q k n; neighbour = neighbour_place q k n }

-- ---- in memory

module _ (texts lines facts : List (List ℕ)) where
  -- on line i of branch k
  abbrev pub clashes_on : ℕ → ℕ → Places
  clashes_on k i = clashes_at (ask lines facts) (tell texts lines facts) k (number_on facts k i)

  -- the least of each kind, on all lines of all branches
  abbrev pub all_clashes : List ℕ → Places
  all_clashes counts =
      record {
        content = best_of (λ k i. (clashes_on k i).content) (λ k. get_or counts k 0);
        parent = best_of (λ k i. (clashes_on k i).parent) (λ k. get_or counts k 0);
        neighbour = best_of (λ k i. (clashes_on k i).neighbour) (λ k. get_or counts k 0);
      }
