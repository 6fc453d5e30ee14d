-- The limits of document 01, each named once. Assumes nothing.
use Rattle.std.specs.Prelude.{ℕ}

-- at most so many lines in a table, and records in a merged one
abbrev pub LINES : ℕ
LINES = 512

-- at most so many bytes in a table
abbrev pub BYTES : ℕ
BYTES = 32768

-- at most so many bytes in a content
abbrev pub CONTENT : ℕ
CONTENT = 120

-- the greatest number of a record
abbrev pub GREATEST : ℕ
GREATEST = 65535
