-- Codes 1 to 10 in document 01's own words and numbers: when a text is no table, with which code and on which line, and nothing on how it
-- is read. l is a line without its LF, `before` are the rows of the lines before it; n, p and c are its number, parent and content as
-- bytes, k is a number that they write. A tab is 9, LF is 10. Assumes nothing.
use Rattle.std.specs.Prelude.{◌≡◌, ◌⊎◌, List, [], ◌∷◌, ◌++◌, ℕ, ◌+◌, ◌<◌, ◌≤◌, length}
use Rattle.rules.specs.Lists.{◌∈◌, flat}
use Rattle.rules.specs.Text.{count}
use Rattle.rules.specs.Line.{Row}
use Rattle.rules.specs.Table.{numbers}
use Rattle.rules.specs.Written.{digits, written}
use Rattle.rules.specs.ReadableText.{IsTable}

-- ---- one line

-- `number␉parent␉content`: what stands before the first tab, up to the second one, and behind it
pub record Parts (l n p c : List ℕ) : Type 0 where
  pub joined : l ≡ n ++ (9 ∷ (p ++ (9 ∷ c)))
  pub number_plain : 9 ∈ n → ⊥
  pub parent_plain : 9 ∈ p → ⊥

-- one of the fields parted by tabs is empty
pub record EmptyField (c : List ℕ) : Type 0 where
  pub kind : List ℕ
  pub others : List (List ℕ)
  pub parted : c ≡ kind ++ flat (λ (field : List ℕ). 9 ∷ field) others
  pub plain : (s : List ℕ) → s ∈ kind ∷ others → 9 ∈ s → ⊥
  pub empty : [] ∈ kind ∷ others

-- the line has the fault of this code
pub data Fault (before : List Row) (l : List ℕ) : ℕ → Type 0 where
  -- "the line is the 513th"
  line513 : 512 ≤ length before → Fault before l 3
  -- "a byte before its LF is neither 9 nor 32 to 126"
  bad_byte : (x : ℕ) → x ∈ l → (x ≡ 9 → ⊥) → ((32 ≤ x) × (x ≤ 126) → ⊥) → Fault before l 4
  -- "fewer than two tabs"
  few_tabs : count 9 l < 2 → Fault before l 5
  -- "number malformed or outside 1 to 65,535"
  bad_number : (n p c : List ℕ) → Parts l n p c → ((k : ℕ) → 1 ≤ k → k ≤ 65535 → n ≡ digits k → ⊥) → Fault before l 6
  -- "parent malformed or above 65,535"
  bad_parent : (n p c : List ℕ) → Parts l n p c → ((k : ℕ) → k ≤ 65535 → p ≡ digits k → ⊥) → Fault before l 7
  -- "content empty, over 120 bytes or with an empty field"
  bad_content : (n p c : List ℕ) → Parts l n p c → (length c ≡ 0) ⊎ ((120 < length c) ⊎ EmptyField c) → Fault before l 8
  -- "number stands on an earlier line"
  number_twice : (n p c : List ℕ) → Parts l n p c → (k : ℕ) → k ≤ 65535 → n ≡ digits k → k ∈ numbers before → Fault before l 9
  -- "parent neither 0 nor on an earlier line"
  parent_missing : (n p c : List ℕ) → Parts l n p c → (k : ℕ) → k ≤ 65535 → p ≡ digits k → (k ≡ 0 → ⊥) → (k ∈ numbers before → ⊥)
      → Fault before l 10

-- "the first faulty line, where the lowest code of 3 to 10 wins": the lines before it are a table
pub record FirstFault (text : List ℕ) (code line : ℕ) : Type 0 where
  pub before : List Row
  pub faulty : List ℕ
  pub rest : List ℕ
  pub text_is : text ≡ written before ++ (faulty ++ (10 ∷ rest))
  pub whole : 10 ∈ faulty → ⊥
  pub fine : IsTable (written before) before
  pub fault : Fault before faulty code
  pub lowest : (other : ℕ) → other < code → Fault before faulty other → ⊥
  pub place : line ≡ length before + 1

-- ---- the text

-- its last byte, where it has one
pub record EndsIn (text : List ℕ) (x : ℕ) : Type 0 where
  pub start : List ℕ
  pub text_is : text ≡ start ++ (x ∷ [])

-- "codes 1 and 2 for the whole text; then the first faulty line"
pub data Refused (text : List ℕ) : ℕ → ℕ → Type 0 where
  -- "text over 32,768 bytes"
  too_long : 32768 < length text → Refused text 1 0
  -- "text not empty, last byte not LF", on "the unended line"
  unended : length text ≤ 32768 → (x : ℕ) → EndsIn text x → (x ≡ 10 → ⊥) → Refused text 2 (count 10 text + 1)
  on_line : (code line : ℕ) → length text ≤ 32768 → EndsIn text 10 → FirstFault text code line → Refused text code line
