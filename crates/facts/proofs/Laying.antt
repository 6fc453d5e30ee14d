-- The new line alone: its eight fields are what was laid there, and the lines before it are as they were. fs is the array of facts, l
-- the line, n the record, r its parent, p the one before; start and long are the place and the length of its content; k is a field, j
-- any place in the array. Assumes nothing.
use mathlib.Core.Path.{◌≡◌, sym, ap, ◌∙◌}
use mathlib.Core.List.{List, [], ◌∷◌, ◌++◌, append_assoc}
use Prim.Native.Nat.{ℕ, ◌<◌, ◌≤◌, ◌+◌, ◌*◌}
use native.Mathlib.Omega.{arith}
use native.Mathlib.Numerals.{unary_clauses}
use lib.ListN.{get_or, length, take, drop, get_or-append}
use lib.Seq.{sets, sets-eq, length-sets, length-take-le, get_or-append-add, get_or-take}
use Rattle.rules.specs.Marks.{START, END}
use Rattle.facts.specs.Memory.{WIDTH, laid}

-- ---- a run of stores

module _ (fs vs : List ℕ) (i : ℕ) (room : i + length vs ≤ length fs) where
  abbrev rest : List ℕ
  rest = drop (i + length vs) fs

  front : length (take i fs) ≡ i
  front = length-take-le i fs (omega arith)

  split : sets fs i vs ≡ take i fs ++ (vs ++ rest)
  split = sets-eq vs fs i room ∙ append_assoc (take i fs) vs rest

  sets_in : (k : ℕ) → k < length vs → get_or (sets fs i vs) (i + k) 0 ≡ get_or vs k 0
  sets_in k h =
      ap (λ (z : List ℕ). get_or z (i + k) 0) split
      ∙ ap (λ (j : ℕ). get_or (take i fs ++ (vs ++ rest)) (j + k) 0) (sym front)
      ∙ get_or-append-add (take i fs) (vs ++ rest) k 0
      ∙ get_or-append vs rest 0 k h

  sets-before : (j : ℕ) → j < i → get_or (sets fs i vs) j 0 ≡ get_or fs j 0
  sets-before j h =
      ap (λ (z : List ℕ). get_or z j 0) split
      ∙ get_or-append (take i fs) (vs ++ rest) 0 j (omega (arith, front))
      ∙ get_or-take i fs j 0 h

-- ---- the stores of a new line

module _ (fs : List ℕ) (l n r p start long : ℕ) where
  -- its eight fields, in order
  abbrev pub fresh : List ℕ
  fresh = n ∷ r ∷ p ∷ END ∷ END ∷ START ∷ start ∷ long ∷ []

  pub laid-sets : laid fs l n r p start long ≡ sets fs (l * WIDTH) fresh
  laid-sets = simp unary_clauses

  pub laid-length : length (laid fs l n r p start long) ≡ length fs
  laid-length = ap length laid-sets ∙ length-sets fs (l * WIDTH) fresh

  module _ (room : l * WIDTH + WIDTH ≤ length fs) where
    pub laid_in : (k : ℕ) → k < WIDTH → get_or (laid fs l n r p start long) (l * WIDTH + k) 0 ≡ get_or fresh k 0
    laid_in k h = ap (λ (z : List ℕ). get_or z (l * WIDTH + k) 0) laid-sets ∙ sets_in fs fresh (l * WIDTH) room k h

    pub laid-before : (j : ℕ) → j < l * WIDTH → get_or (laid fs l n r p start long) j 0 ≡ get_or fs j 0
    laid-before j h = ap (λ (z : List ℕ). get_or z j 0) laid-sets ∙ sets-before fs fresh (l * WIDTH) room j h
