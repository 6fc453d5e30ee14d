-- What the leaf calls of reading answer, beside the words of document 01 that `rules` has. s is a part of a text, x a byte.
-- Assumes nothing.
use Rattle.std.specs.Prelude.{Bool, cond, ◌&&◌, List, [], ◌∷◌, ℕ, suc, ◌+◌, ◌-◌, ◌*◌, leb, Option, Some, None, get_or, take, drop}
use Rattle.rules.specs.Limits.{GREATEST}
use Rattle.rules.specs.Text.{LF, digit, decimal, value}
use Rattle.text.specs.declared.Digits.{Digits}
use Rattle.text.specs.declared.Number.{Number}

-- the byte at a place; the end of the text ends a line as an LF does
abbrev pub byte_at : List ℕ → ℕ → ℕ
byte_at s place = get_or s place LF

-- "32 to 126": what a line may hold besides tabs
abbrev pub plain : ℕ → Bool
plain x = leb 32 x && leb x 126

-- how many bytes from the first on are plain
abbrev pub plain_run : List ℕ → ℕ
plain_run [] = 0
plain_run (x ∷ s) = cond (plain x) (suc (plain_run s)) 0

-- the number that s writes, if it is a decimal up to the greatest number
abbrev pub number_in : List ℕ → Option ℕ
number_in s = cond (decimal s && leb (value s) GREATEST) (Some (value s)) None

-- the plain bytes from a place on: where they end, and the number that they write
abbrev pub number_at : List ℕ → ℕ → Number
number_at s from =
    record { end = from + plain_run (drop from s); value = number_in (take (plain_run (drop from s)) (drop from s)) }

-- ---- the digits that it starts with

-- how many bytes from the first on are digits, behind those that write v, up to where that is above the greatest number
abbrev pub digit_run : ℕ → List ℕ → ℕ
digit_run v [] = 0
digit_run v (x ∷ s) = cond (leb v GREATEST && digit x) (suc (digit_run (v * 10 + (x - 48)) s)) 0

-- how many they are, and what they write
abbrev pub digits_of : List ℕ → Digits
digits_of s = record { count = digit_run 0 s; value = value (take (digit_run 0 s) s) }
