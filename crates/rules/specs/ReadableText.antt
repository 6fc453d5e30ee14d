-- "The table as text" in document 01's own words and numbers: what a text must be so that it is a table, and nothing on how it is read. x
-- is a row, c a content, t are a table's rows. Assumes nothing.
use Rattle.std.specs.Prelude.{◌≡◌, ◌⊎◌, List, ◌∷◌, ◌++◌, ℕ, ◌≤◌, length}
use Rattle.rules.specs.Lists.{◌∈◌, flat}
use Rattle.rules.specs.Line.{Row}
use Rattle.rules.specs.Table.{numbers}
use Rattle.rules.specs.Written.{written}

-- "no field is empty"; its bytes are 32 to 126
pub record IsField (s : List ℕ) : Type 0 where
  pub filled : 1 ≤ length s
  pub bytes : (x : ℕ) → x ∈ s → (32 ≤ x) × (x ≤ 126)

-- "Content: 1 to 120 bytes. It is one or more fields parted by tabs. The first field is the kind."
pub record IsContent (c : List ℕ) : Type 0 where
  pub kind : List ℕ
  pub others : List (List ℕ)
  pub parted : c ≡ kind ++ flat (λ (field : List ℕ). 9 ∷ field) others
  pub fields : (s : List ℕ) → s ∈ kind ∷ others → IsField s
  pub some : 1 ≤ length c
  pub few : length c ≤ 120

-- a row behind the rows of the lines before it: "Number: 1 to 65,535, once in a table. Parent 0 is the top. Any other parent must stand on
-- an earlier line."
pub record IsRow (before : List Row) (x : Row) : Type 0 where
  pub number : (1 ≤ x.number) × (x.number ≤ 65535)
  pub once : x.number ∈ numbers before → ⊥
  pub parent : (x.parent ≡ 0) ⊎ (x.parent ∈ numbers before)
  pub content : IsContent x.content

-- the text is a table with these rows: "zero or more lines, each ended by LF: `number␉parent␉content`", "at most 512 lines and 32,768
-- bytes"
pub record IsTable (text : List ℕ) (t : List Row) : Type 0 where
  pub lines : text ≡ written t
  pub rows : (before : List Row) (x : Row) (after : List Row) → t ≡ before ++ (x ∷ after) → IsRow before x
  pub few : length t ≤ 512
  pub short : length text ≤ 32768
