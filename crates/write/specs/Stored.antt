-- A table in memory whose contents lie in some texts: each where the record's place says, in the text that it names. A table just read
-- has them all in its own text. ls and fs are the two arrays, n is a record, t is a table's rows. Assumes nothing.
use Rattle.std.specs.Prelude.{◌≡◌, List, [], ℕ, ◌+◌, ◌<◌, ◌≤◌, length, get_or, take, drop}
use Rattle.rules.specs.Lists.{◌∈◌}
use Rattle.rules.specs.Line.{Content, Row}
use Rattle.rules.specs.Demands.{Readable}
use Rattle.facts.specs.Memory.{PLACE, LENGTH, start_of, text_of, field}
use Rattle.facts.specs.Holds.{Holds}

-- the text that a place is in
abbrev pub text_at : List (List ℕ) → ℕ → List ℕ
text_at texts place = get_or texts (text_of place) []

-- so many bytes from a place on
abbrev pub part_in : List (List ℕ) → ℕ → ℕ → Content
part_in texts place long = take long (drop (start_of place) (text_at texts place))

-- the place is in one of the texts, and so many bytes lie there
pub record Lies (texts : List (List ℕ)) (place long : ℕ) : Type 0 where
  pub text : text_of place < length texts
  pub within : start_of place + long ≤ length (text_at texts place)

abbrev pub content_at : List (List ℕ) → List ℕ → List ℕ → ℕ → Content
content_at texts ls fs n = part_in texts (field ls fs n PLACE) (field ls fs n LENGTH)

abbrev pub HasContent : List (List ℕ) → List ℕ → List ℕ → ℕ → Type 0
HasContent texts ls fs n = Lies texts (field ls fs n PLACE) (field ls fs n LENGTH)

-- memory holds the table's positions, and the texts its contents
pub record Stored (texts : List (List ℕ)) (ls fs : List ℕ) (t : List Row) : Type 0 where
  pub readable : Readable t
  pub holds : Holds ls fs t
  pub lies : (x : Row) → x ∈ t → HasContent texts ls fs x.number
  pub contents : (x : Row) → x ∈ t → x.content ≡ content_at texts ls fs x.number
