-- The table as text: bytes, lines, decimals, content. s is a part of a text, x a byte. Assumes nothing.
use Rattle.std.specs.Prelude.{Bool, true, false, cond, not, ◌&&◌, ◌||◌, List, [], ◌∷◌, ℕ, suc, ◌+◌, ◌-◌, ◌*◌, eqb, leb, length}
use Rattle.rules.specs.Limits.{CONTENT}
use Rattle.rules.specs.Lists.{every}

-- ---- bytes

abbrev pub TAB : ℕ
TAB = 9

abbrev pub LF : ℕ
LF = 10

-- "each 9 or 32 to 126"
abbrev pub allowed : ℕ → Bool
allowed x = eqb x TAB || (leb 32 x && leb x 126)

-- how often x stands in s
abbrev pub count : ℕ → List ℕ → ℕ
count x [] = 0
count x (y ∷ s) = cond (eqb y x) (suc (count x s)) (count x s)

-- what stands before the first x: all, if there is none
abbrev pub before : ℕ → List ℕ → List ℕ
before x [] = []
before x (y ∷ s) = cond (eqb y x) [] (y ∷ before x s)

-- what stands after the first x: nothing, if there is none
abbrev pub after : ℕ → List ℕ → List ℕ
after x [] = []
after x (y ∷ s) = cond (eqb y x) s (after x s)

-- ---- lines

-- x put before the first of some parts
abbrev pub onto : ℕ → List (List ℕ) → List (List ℕ)
onto x [] = (x ∷ []) ∷ []
onto x (part ∷ parts) = (x ∷ part) ∷ parts

-- "zero or more lines, each ended by LF"; bytes after the last LF are a line too, the unended one
abbrev pub lines : List ℕ → List (List ℕ)
lines [] = []
lines (x ∷ s) = cond (eqb x LF) ([] ∷ lines s) (onto x (lines s))

-- the last byte of s, or x
abbrev pub last : ℕ → List ℕ → ℕ
last x [] = x
last x (y ∷ s) = last y s

-- empty, or the last byte is LF
abbrev pub ended : List ℕ → Bool
ended s = eqb (last LF s) LF

-- ---- decimals

abbrev pub digit : ℕ → Bool
digit x = leb 48 x && leb x 57

-- "no leading zero (0 is written `0`)"; nothing is no decimal
abbrev pub no_leading_zero : List ℕ → Bool
no_leading_zero [] = false
no_leading_zero (x ∷ []) = true
no_leading_zero (x ∷ y ∷ s) = not (eqb x 48)

abbrev pub decimal : List ℕ → Bool
decimal s = every digit s && no_leading_zero s

-- the number that the digits s write behind those of v
abbrev pub value_from : ℕ → List ℕ → ℕ
value_from v [] = v
value_from v (x ∷ s) = value_from (v * 10 + (x - 48)) s

-- the number that a decimal writes
abbrev pub value : List ℕ → ℕ
value s = value_from 0 s

-- ---- content

-- "one or more fields parted by tabs"
abbrev pub fields : List ℕ → List (List ℕ)
fields [] = [] ∷ []
fields (x ∷ s) = cond (eqb x TAB) ([] ∷ fields s) (onto x (fields s))

abbrev pub filled : List ℕ → Bool
filled [] = false
filled (x ∷ s) = true

-- "1 to 120 bytes", "no field is empty, so there is no leading, trailing or doubled tab"
abbrev pub content_ok : List ℕ → Bool
content_ok c = leb 1 (length c) && (leb (length c) CONTENT && every filled (fields c))
