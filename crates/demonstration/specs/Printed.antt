-- What the demonstration prints of three texts. Assumes nothing.
use Rattle.std.specs.Prelude.{List, [], ◌∷◌, ◌≡◌, ℕ, ◌+◌, ◌≤◌, length, take}
use Rattle.rules.specs.Written.{width}
use Rattle.rules.specs.Calls.{merge_texts, shown}
use Rattle.rules.specs.declared.answers.Merged.{Merged}

-- "Its buffers hold 32,768 bytes for the table and 8,192 for the ledger."

abbrev pub table_room : ℕ
table_room = 32768

abbrev pub ledger_room : ℕ
ledger_room = 8192

-- five numbers of at most six digits and a byte behind each, the table and the ledger
abbrev pub printed_room : ℕ
printed_room = 35 + (table_room + ledger_room)

-- how long the line of the five numbers is
abbrev pub numbers_length : Merged → ℕ
numbers_length m = 5 + width m.code + width m.table + width m.place + width m.table_length + width m.ledger_length

abbrev pub printed : List ℕ → List ℕ → List ℕ → List ℕ
printed old first second = shown (merge_texts old (first ∷ second ∷ []) table_room ledger_room)

-- the first n bytes of a buffer are what is printed
pub record Shows (old first second : List ℕ) (n : ℕ) (buffer : List ℕ) : Type 0 where
  pub within : n ≤ length buffer
  pub counts : n ≡ length (take n buffer)
  pub bytes : take n buffer ≡ printed old first second
