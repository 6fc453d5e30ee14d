-- The numbers of records, and the three marks that are none: the top, START and END. Assumes nothing.
use Rattle.std.specs.Prelude.{Bool, ◌&&◌, ℕ, leb}
use Rattle.rules.specs.Limits.{GREATEST}

-- "Parent 0 is the top."
abbrev pub TOP : ℕ
TOP = 0

-- "START comes before the first child"
abbrev pub START : ℕ
START = 65536

-- "and END after the last."
abbrev pub END : ℕ
END = 65537

-- "Number: decimal 1 to 65,535." The top, START and END are never records.
abbrev pub is_record : ℕ → Bool
is_record n = leb 1 n && leb n GREATEST
