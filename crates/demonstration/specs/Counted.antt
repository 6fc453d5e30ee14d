-- How many bytes of a file were read into its buffer. It stands apart from Files, which speaks of the type that says this of itself.
-- Assumes nothing.
use Rattle.std.specs.Prelude.{ℕ, Option, None, Some}

-- none, unless the file was read
abbrev pub bytes_read : Option ℕ → ℕ
bytes_read None = 0
bytes_read (Some n) = n
