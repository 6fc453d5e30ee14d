-- The calls: for each, the answer and every lent buffer afterwards, as functions of what was handed in. t is a table, f the merged tree,
-- es are the ledger's entries. Assumes nothing.
use Rattle.std.specs.Prelude.{Bool, cond, ◌||◌, List, [], ◌∷◌, ◌++◌, map, ℕ, suc, ◌+◌, ◌-◌, eqb, ltb, length}
use Rattle.rules.specs.Limits.{LINES, BYTES}
use Rattle.rules.specs.Codes.{accepted, merged_too_large, table_too_short, ledger_too_short}
use Rattle.rules.specs.Marks.{TOP}
use Rattle.rules.specs.Text.{TAB, LF, lines}
use Rattle.rules.specs.Line.{Row, row_of, content_part}
use Rattle.rules.specs.Table.{Verdict, readable, unreadable, verdict}
use Rattle.rules.specs.Tree.{Tree, rows, greatest_depth}
use Rattle.rules.specs.Facts.{facts_of}
use Rattle.rules.specs.Merge.{Result, refused, merged, merge}
use Rattle.rules.specs.Written.{digits, tidied, written_tree, over}
use Rattle.rules.specs.Ledger.{Entry, entries_of, ledger}
use Rattle.rules.specs.declared.answers.Checked.{Checked}
use Rattle.rules.specs.declared.answers.Tidied.{Tidied}
use Rattle.rules.specs.declared.answers.Part.{Part}
use Rattle.rules.specs.declared.answers.Merged.{Merged}

-- ---- check: "code, line, count of records, greatest depth"

-- "On refusal count and depth are 0. Accepted: line 0."
abbrev pub checked : Verdict → Checked
checked (readable t) = record { code = accepted; line = 0; count = length t; depth = greatest_depth t }
checked (unreadable code line) = record { code = code; line = line; count = 0; depth = 0 }

abbrev pub check_answer : List ℕ → Checked
check_answer text = checked (verdict text)

-- ---- tidy: "the written form in a lent buffer; code, line, length"

abbrev pub tidy_told : ℕ → ℕ → ℕ → Tidied
tidy_told code line table_length = record { code = code; line = line; length = table_length }

-- "on 31 its length is the one needed"
abbrev pub tidy_of : Verdict → ℕ → Tidied
tidy_of (readable t) room =
    cond (ltb room (length (tidied t))) (tidy_told table_too_short 0 (length (tidied t))) (tidy_told accepted 0 (length (tidied t)))
tidy_of (unreadable code line) room = tidy_told code line 0

abbrev pub tidy_answer : List ℕ → ℕ → Tidied
tidy_answer text room = tidy_of (verdict text) room

abbrev pub tidy_into : Verdict → List ℕ → List ℕ
tidy_into (readable t) buffer = cond (ltb (length buffer) (length (tidied t))) buffer (over (tidied t) buffer)
tidy_into (unreadable code line) buffer = buffer

abbrev pub tidy_buffer : List ℕ → List ℕ → List ℕ
tidy_buffer text buffer = tidy_into (verdict text) buffer

-- ---- content: "the very part of the lent text that holds the content"

-- "the empty part at the start of the text"
abbrev pub no_part : Part
no_part = record { start = 0; length = 0 }

-- the content of the line of record n, the first of the lines starting at a place of the text
abbrev pub part_from : ℕ → ℕ → List (List ℕ) → Part
part_from n place [] = no_part
part_from n place (l ∷ ls) =
    cond (eqb (row_of l).number n)
    (record { start = place + (length l - length (content_part l)); length = length (content_part l) })
    (part_from n (place + (length l + 1)) ls)

-- "For a refused table or an absent number it is the empty part"
abbrev pub part_of : Verdict → List ℕ → ℕ → Part
part_of (readable t) text n = part_from n 0 (lines text)
part_of (unreadable code line) text n = no_part

abbrev pub content_answer : List ℕ → ℕ → Part
content_answer text n = part_of (verdict text) text n

-- ---- merge: "code, table, place, table length, ledger length"

-- how a merge can end
pub data Outcome : Type 0 where
  -- table, code, line
  not_read : ℕ → ℕ → ℕ → Outcome
  -- code, place
  clash : ℕ → ℕ → Outcome
  too_large : Outcome
  -- code, and both lengths needed
  no_room : ℕ → ℕ → ℕ → Outcome
  -- the table's bytes and the ledger's lines
  done : List ℕ → List Entry → Outcome

-- "Merge reads old, first, second, and stops at the first refused table": table number k is read, or told
abbrev pub once_read : ℕ → Verdict → (List Row → Outcome) → Outcome
once_read k (readable t) next = next t
once_read k (unreadable code line) next = not_read k code line

abbrev pub once_all_read : ℕ → List (List ℕ) → (List (List Row) → Outcome) → Outcome
once_all_read k [] next = next []
once_all_read k (text ∷ texts) next =
    once_read k (verdict text) (λ t. once_all_read (suc k) texts (λ ts. next (t ∷ ts)))

-- "merged table over 512 records or 32,768 bytes"
abbrev pub over_limits : Tree → Bool
over_limits f = ltb LINES (length (rows TOP f)) || ltb BYTES (length (written_tree f))

-- 26, 31 and 32, for the merged tree and its ledger, in the room of the two buffers
abbrev pub packed : Tree → List Entry → ℕ → ℕ → Outcome
packed f es table_room ledger_room =
    cond (over_limits f) too_large
    (cond (ltb table_room (length (written_tree f))) (no_room table_too_short (length (written_tree f)) (length (ledger es)))
    (cond (ltb ledger_room (length (ledger es))) (no_room ledger_too_short (length (written_tree f)) (length (ledger es)))
    (done (written_tree f) es)))

abbrev pub judged : Result → (Tree → Outcome) → Outcome
judged (refused code place) next = clash code place
judged (merged f) next = next f

unfoldable pub merge_tables : List Row → List (List Row) → ℕ → ℕ → Outcome
merge_tables old branches table_room ledger_room =
    judged (merge (facts_of old) (map facts_of branches))
    (λ f. packed f (entries_of old branches f) table_room ledger_room)

unfoldable pub merge_texts : List ℕ → List (List ℕ) → ℕ → ℕ → Outcome
merge_texts old branches table_room ledger_room =
    once_read 1 (verdict old) (λ o. once_all_read 2 branches (λ bs. merge_tables o bs table_room ledger_room))

-- the five numbers of each outcome: "Lengths are 0 on refusal, but 31 and 32 give both lengths needed."
abbrev pub told : ℕ → ℕ → ℕ → ℕ → ℕ → Merged
told code table place table_length ledger_length =
    record { code = code; table = table; place = place; table_length = table_length; ledger_length = ledger_length }

abbrev pub answer_of : Outcome → Merged
answer_of (not_read table code line) = told code table line 0 0
answer_of (clash code place) = told code 0 place 0 0
answer_of too_large = told merged_too_large 0 0 0 0
answer_of (no_room code table_length ledger_length) = told code 0 0 table_length ledger_length
answer_of (done table es) = told accepted 0 0 (length table) (length (ledger es))

-- "Refused calls change neither buffer."
abbrev pub table_after : Outcome → List ℕ → List ℕ
table_after (not_read table code line) buffer = buffer
table_after (clash code place) buffer = buffer
table_after too_large buffer = buffer
table_after (no_room code table_length ledger_length) buffer = buffer
table_after (done table es) buffer = over table buffer

abbrev pub ledger_after : Outcome → List ℕ → List ℕ
ledger_after (not_read table code line) buffer = buffer
ledger_after (clash code place) buffer = buffer
ledger_after too_large buffer = buffer
ledger_after (no_room code table_length ledger_length) buffer = buffer
ledger_after (done table es) buffer = over (ledger es) buffer

-- the call: old, first, second and the two lent buffers
abbrev pub merge_outcome : List ℕ → List ℕ → List ℕ → List ℕ → List ℕ → Outcome
merge_outcome old first second table ledger = merge_texts old (first ∷ second ∷ []) (length table) (length ledger)

-- ---- the demonstration: "one line of the five answer numbers parted by tabs, then the table, then the ledger; on refusal that
-- line alone"

abbrev pub five_numbers : Merged → List ℕ
five_numbers m =
    digits m.code ++ (TAB ∷ (digits m.table ++ (TAB ∷ (digits m.place
    ++ (TAB ∷ (digits m.table_length ++ (TAB ∷ (digits m.ledger_length ++ (LF ∷ [])))))))))

abbrev pub shown : Outcome → List ℕ
shown (not_read table code line) = five_numbers (answer_of (not_read table code line))
shown (clash code place) = five_numbers (answer_of (clash code place))
shown too_large = five_numbers (answer_of too_large)
shown (no_room code table_length ledger_length) = five_numbers (answer_of (no_room code table_length ledger_length))
shown (done table es) = five_numbers (answer_of (done table es)) ++ (table ++ ledger es)
