-- The parts that standard input has one after another. s are bytes, x is a byte. Assumes nothing.
use Rattle.std.specs.Prelude.{cond, List, [], ◌∷◌, ℕ, eqb}

-- "each ended by byte 255"
abbrev pub end_of_part : ℕ
end_of_part = 255

-- x put before the first of some parts
abbrev pub onto : ℕ → List (List ℕ) → List (List ℕ)
onto x [] = (x ∷ []) ∷ []
onto x (part ∷ parts) = (x ∷ part) ∷ parts

-- the parts, without their ends; bytes after the last end are a part too
abbrev pub parts_of : List ℕ → List (List ℕ)
parts_of [] = []
parts_of (x ∷ s) = cond (eqb x end_of_part) ([] ∷ parts_of s) (onto x (parts_of s))
