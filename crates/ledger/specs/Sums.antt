-- The lengths of a table's written form and of its ledger, summed over the lines of memory. fs is the array of facts, l a line. Assumes
-- nothing.
use Rattle.std.specs.Prelude.{List, ℕ, zero, suc, ◌+◌}
use Rattle.rules.specs.Written.{width}
use Rattle.facts.specs.Memory.{NUMBER, PARENT, PLACE, LENGTH, origin_of, field_on}
use Rattle.ledger.specs.declared.Sums.{Sums}

-- "for each record, three and the digits of its number and parent"
abbrev pub frame_line : List ℕ → ℕ → ℕ
frame_line fs l = 3 + width (field_on fs l NUMBER) + width (field_on fs l PARENT)

-- `number␉origin␉bytes` and LF
abbrev pub ledger_line : List ℕ → ℕ → ℕ
ledger_line fs l = 3 + width (field_on fs l NUMBER) + width (origin_of (field_on fs l PLACE)) + width (field_on fs l LENGTH)

-- the bytes of the content
abbrev pub line_bytes : List ℕ → ℕ → ℕ
line_bytes fs l = field_on fs l LENGTH

-- the sum of what each line counts, from the first to that of the last record
abbrev pub sum_to : (ℕ → ℕ) → ℕ → ℕ
sum_to count zero = 0
sum_to count (suc l) = sum_to count l + count (suc l)

-- `total␉records␉bytes` and LF
abbrev pub total_length : ℕ → ℕ → ℕ
total_length records bytes = 8 + width records + width bytes

abbrev pub sums_of : List ℕ → ℕ → Sums
sums_of fs records = record {
  table = sum_to (line_bytes fs) records + sum_to (frame_line fs) records;
  ledger = sum_to (ledger_line fs) records + total_length records (sum_to (line_bytes fs) records);
  bytes = sum_to (line_bytes fs) records;
}
