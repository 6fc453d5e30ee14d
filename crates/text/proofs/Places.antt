-- What is left of a text from a place on, as a loop reads it. s is a part of a text, i a place in it. Assumes nothing.
use mathlib.Core.Path.{◌≡◌}
use mathlib.Core.List.{List, [], ◌∷◌}
use Prim.Native.Nat.{ℕ, ◌+◌, ◌<◌, ◌≤◌}
use native.Mathlib.Numerals.{add-one}
use lib.ListN.{length, get_or, drop, drop_of_length-le}
use lib.Seq.{drop-cons}

-- the byte there, and what is left behind it
pub left-next : (s : List ℕ) (i : ℕ) → i < length s → drop i s ≡ get_or s i 0 ∷ drop (i + 1) s
left-next s i h = rw (add-one, drop-cons s i 0)

pub left_none : (s : List ℕ) (i : ℕ) → length s ≤ i → drop i s ≡ []
left_none s i h = drop_of_length-le s h
