-- What the test for a record's number says: above the top, below START. n is a number. Assumes nothing.
use Prim.Native.Nat.{ℕ, ◌<◌}
use native.Mathlib.Omega.{arith}
use lib.Dec.{T, leb, leb→le}
use mir.Facts.{and_yes}
use Rattle.rules.specs.Limits.{GREATEST}
use Rattle.rules.specs.Marks.{TOP, START, is_record}

pub record_low : (n : ℕ) → T (is_record n) → TOP < n
record_low n t = omega (arith, leb→le 1 n (and_yes (leb 1 n) (leb n GREATEST) t).0)

pub record_high : (n : ℕ) → T (is_record n) → n < START
record_high n t = omega (arith, leb→le n GREATEST (and_yes (leb 1 n) (leb n GREATEST) t).1)
