-- Texts in, the numbers out, with document 01's numbers written out: the answers of check, tidy and content, the five numbers of merge and
-- what is printed. Among them a content of 120 and of 121 bytes, and buffers exactly long enough and one byte short. Assumes nothing.
use mathlib.Core.Path.{◌≡◌, refl}
use mathlib.Core.List.{List, [], ◌∷◌, map}
use Prim.Native.Nat.{ℕ}
use Prim.Native.String.{String, ◌++◌}
use Rattle.rules.specs.Quoted.{bytes}
use Rattle.rules.specs.Tree.{tree_of, hang}
use Rattle.rules.specs.Facts.{facts_of}
use Rattle.rules.specs.Merge.{merge, content_clashes, parent_clashes, neighbour_clashes, broken_lists, lost_edits, merged_tree}
use Rattle.rules.specs.Merge.{kept_positions, kept_contents, position_edits, content_edits, walk, follower, content_in}
use Rattle.rules.specs.Written.{digits}
use Rattle.rules.specs.Calls.{Outcome, too_large, merge_texts, merge_tables, told, answer_of, shown, check_answer, tidy_answer}
use Rattle.rules.specs.Calls.{content_answer}
use Rattle.rules.specs.declared.answers.Checked.{Checked}
use Rattle.rules.specs.declared.answers.Tidied.{Tidied}
use Rattle.rules.specs.declared.answers.Part.{Part}
use Rattle.rules.specs.declared.answers.Merged.{Merged}

-- ---- check

-- a text, and its code, line, count and depth
pub record Table : Type 0 where
  pub text : String
  pub answer : Checked

abbrev table : String → ℕ → ℕ → ℕ → ℕ → Table
table text code line count depth = record { text = text; answer = record { code = code; line = line; count = count; depth = depth } }

-- forty bytes of a content
abbrev forty : String
forty = "0123456789012345678901234567890123456789"

abbrev pub tables : List Table
tables =
    table "" 0 0 0 0
    ∷ table "1\t0\ta\n2\t1\tb\n3\t0\tc\n" 0 0 3 2
    -- the second line: unended, a byte that is not allowed, one tab, a number and a parent that is none
    ∷ table "1\t0\ta\n2\t0\tb" 2 2 0 0
    ∷ table "1\t0\ta\n2\t0\t\rb\n" 4 2 0 0
    ∷ table "1\t0\ta\n2\t0\n" 5 2 0 0
    ∷ table "1\t0\ta\n02\t0\tb\n" 6 2 0 0
    ∷ table "1\t0\ta\n65536\t0\tb\n" 6 2 0 0
    ∷ table "1\t0\ta\n65535\t0\tb\n" 0 0 2 1
    ∷ table "1\t0\ta\n2\t00\tb\n" 7 2 0 0
    -- "no leading, trailing or doubled tab"
    ∷ table "1\t0\ta\n2\t0\t\tb\n" 8 2 0 0
    ∷ table "1\t0\ta\n2\t0\tb\t\n" 8 2 0 0
    ∷ table "1\t0\ta\n2\t0\tb\t\tc\n" 8 2 0 0
    ∷ table "1\t0\ta\n2\t0\tb\tc\n" 0 0 2 1
    -- "content of 120 and 121 bytes"
    ∷ table ("1\t0\t" ++ (forty ++ (forty ++ (forty ++ "\n")))) 0 0 1 1
    ∷ table ("1\t0\t" ++ (forty ++ (forty ++ (forty ++ "0\n")))) 8 1 0 0
    -- a number twice, a parent on no earlier line
    ∷ table "1\t0\ta\n1\t0\tb\n" 9 2 0 0
    ∷ table "1\t0\ta\n2\t3\tb\n3\t0\tc\n" 10 2 0 0
    ∷ []

pub checks : map (λ (k : Table). check_answer (bytes k.text)) tables ≡ map (λ (k : Table). k.answer) tables
checks = refl

-- ---- tidy

-- a text, the room of the buffer, and the code, line and length
pub record Room : Type 0 where
  pub text : String
  pub room : ℕ
  pub answer : Tidied

abbrev room : String → ℕ → ℕ → ℕ → ℕ → Room
room text bytes code line long = record { text = text; room = bytes; answer = record { code = code; line = line; length = long } }

-- a table, with room enough and one byte short; a refused text
abbrev pub rooms : List Room
rooms =
    room "1\t0\ta\n3\t0\tc\n2\t1\tb\n" 18 0 0 18
    ∷ room "1\t0\ta\n3\t0\tc\n2\t1\tb\n" 17 31 0 18
    ∷ room "1\t0\ta\n3\t0\tc\n2\t4\tb\n" 18 10 3 0
    ∷ []

pub tidies : map (λ (k : Room). tidy_answer (bytes k.text) k.room) rooms ≡ map (λ (k : Room). k.answer) rooms
unfolding tree_of hang digits
tidies = refl

-- ---- content

-- a text, a number, and where its content starts and how long it is
pub record Asked : Type 0 where
  pub text : String
  pub number : ℕ
  pub answer : Part

abbrev asked : String → ℕ → ℕ → ℕ → Asked
asked text number start long = record { text = text; number = number; answer = record { start = start; length = long } }

-- two records with one content, each has its own; an absent number; a refused text
abbrev pub asks : List Asked
asks =
    asked "1\t0\ta\tb\n22\t1\ta\tb\n" 1 4 3
    ∷ asked "1\t0\ta\tb\n22\t1\ta\tb\n" 22 13 3
    ∷ asked "1\t0\ta\tb\n22\t1\ta\tb\n" 2 0 0
    ∷ asked "1\t0\ta\tb\n22\t2\ta\tb\n" 1 0 0
    ∷ []

pub contents : map (λ (k : Asked). content_answer (bytes k.text) k.number) asks ≡ map (λ (k : Asked). k.answer) asks
contents = refl

-- ---- merge

-- three texts, the room of both buffers, the five numbers, and what is printed
pub record Merge : Type 0 where
  pub old : String
  pub first : String
  pub second : String
  pub table_room : ℕ
  pub ledger_room : ℕ
  pub answer : Merged
  pub output : String

abbrev five : ℕ → ℕ → ℕ → ℕ → ℕ → Merged
five code table place table_length ledger_length =
    record { code = code; table = table; place = place; table_length = table_length; ledger_length = ledger_length }

-- two records, the second with this content
abbrev two : String → String
two content = "1\t0\tairport\n2\t1\t" ++ (content ++ "\n")

abbrev texts : String → String → ℕ → ℕ → Merged → String → Merge
texts first second table_room ledger_room answer output =
    record {
      old = two "hold";
      first = first;
      second = second;
      table_room = table_room;
      ledger_room = ledger_room;
      answer = answer;
      output = output;
    }

abbrev pub merges : List Merge
merges =
    -- a clash at record 2
    texts (two "turn") (two "note") 100 100 (five 21 0 2 0 0) "21\t0\t2\t0\t0\n"
    -- first unreadable on line 3, second on line 2
    ∷ texts (two "hold\n3\t4\tnote") (two "") 100 100 (five 10 2 3 0 0) "10\t2\t3\t0\t0\n"
    ∷ texts (two "hold") (two "") 100 100 (five 8 3 2 0 0) "8\t3\t2\t0\t0\n"
    -- both buffers exactly long enough, the table's one byte short, the ledger's one byte short, both
    ∷ texts (two "turn") (two "hold") 21 23 (five 0 0 0 21 23) ("0\t0\t0\t21\t23\n" ++ (two "turn" ++ "1\t0\t7\n2\t1\t4\ntotal\t2\t11\n"))
    ∷ texts (two "turn") (two "hold") 20 23 (five 31 0 0 21 23) "31\t0\t0\t21\t23\n"
    ∷ texts (two "turn") (two "hold") 21 22 (five 32 0 0 21 23) "32\t0\t0\t21\t23\n"
    ∷ texts (two "turn") (two "hold") 20 22 (five 31 0 0 21 23) "31\t0\t0\t21\t23\n"
    -- a new record with the content that old has under another number is first's
    ∷ texts (two "hold\n3\t1\thold") (two "hold") 30 29 (five 0 0 0 30 29)
    ("0\t0\t0\t30\t29\n" ++ (two "hold\n3\t1\thold" ++ "1\t0\t7\n2\t0\t4\n3\t1\t4\ntotal\t3\t15\n"))
    ∷ []

abbrev pub outcome : Merge → Outcome
outcome k = merge_texts (bytes k.old) (bytes k.first ∷ bytes k.second ∷ []) k.table_room k.ledger_room

pub answers : map (λ (k : Merge). answer_of (outcome k)) merges ≡ map (λ (k : Merge). k.answer) merges
unfolding merge_texts merge_tables merge content_clashes parent_clashes neighbour_clashes broken_lists lost_edits merged_tree
    kept_positions kept_contents position_edits content_edits walk follower content_in facts_of digits
answers = refl

pub prints : map (λ (k : Merge). shown (outcome k)) merges ≡ map (λ (k : Merge). bytes k.output) merges
unfolding merge_texts merge_tables merge content_clashes parent_clashes neighbour_clashes broken_lists lost_edits merged_tree
    kept_positions kept_contents position_edits content_edits walk follower content_in facts_of digits
prints = refl

-- the five numbers stand where their names say
pub told_is : (code table place table_length ledger_length : ℕ)
    → told code table place table_length ledger_length ≡ five code table place table_length ledger_length
told_is code table place table_length ledger_length = refl

-- a table over the limits is too large to be computed with here
pub too_large_lem : answer_of too_large ≡ five 26 0 0 0 0
too_large_lem = refl
