-- What a lent buffer holds after bytes were put into it. Assumes nothing.
use Rattle.std.specs.Prelude.{◌≡◌, List, [], ◌∷◌, ◌++◌, ℕ, ◌+◌, length}
use Rattle.std.proofs.lemmas.List.Edits.{sets}
use Rattle.rules.specs.Text.{TAB}
use Rattle.rules.specs.Written.{digits}

-- The bytes lie from `at` on, every other byte of the buffer is as it was, and `next` is the place after them. A name with a prime is
-- the buffer afterwards.
pub record Put (buffer buffer' : List ℕ) (at next : ℕ) (bytes : List ℕ) : Type 0 where
  pub wrote : buffer' ≡ sets buffer at bytes
  pub place : next ≡ at + length bytes
  pub long : length buffer' ≡ length buffer

-- a number and its tab
abbrev pub number_field : ℕ → List ℕ
number_field n = digits n ++ (TAB ∷ [])
