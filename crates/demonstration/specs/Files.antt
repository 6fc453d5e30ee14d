-- The three files of the demonstration: old, first and second, each with a buffer of its own and the count of bytes that were read into
-- it. t is a file. Assumes nothing.
use Rattle.std.specs.Prelude.{◌≡◌, Bool, true, false, List, [], ℕ, ◌<◌, Result, Ok, Err, ⊤, map, get_or, set, take}
use Rattle.std.specs.Option.{is_some}
use Rattle.std.specs.Counts.{IsPrefixLen}
use Rattle.demonstration.specs.Counted.{bytes_read}
use Rattle.demonstration.specs.Printed.{printed}
use Rattle.demonstration.specs.declared.file.File.{File}

-- "`old.txt`, `first.txt`, `second.txt`"
abbrev pub files : ℕ
files = 3

-- "at most 32,769 bytes of each"
abbrev pub most_read : ℕ
most_read = 32769

-- the buffers of the files, and the counts of bytes read into them

abbrev pub buffers : List File → List (List ℕ)
buffers fs = map (λ f. f.bytes) fs

abbrev pub lengths : List File → List ℕ
lengths fs = map (λ f. bytes_read f.length) fs

-- which of them were read
abbrev pub which_read : List File → List Bool
which_read fs = map (λ f. is_some f.length) fs

-- how many files were read: all, or those before the one that is told
abbrev pub count_read : Result ⊤ ℕ → ℕ
count_read (Ok _) = files
count_read (Err t) = t

-- the text of a file: so many bytes of its buffer as were read
abbrev pub text_in : List (List ℕ) → List ℕ → ℕ → List ℕ
text_in buffers lengths t = take (get_or lengths t 0) (get_or buffers t [])

-- what is printed of the three texts, in their order
abbrev pub printed_of : List (List ℕ) → List ℕ → List ℕ
printed_of buffers lengths = printed (text_in buffers lengths 0) (text_in buffers lengths 1) (text_in buffers lengths 2)

-- file t was read into its own buffer, and the others stay
pub record Filled (buffers : List (List ℕ)) (t n : ℕ) (buffers' : List (List ℕ)) : Type 0 where
  pub counts : IsPrefixLen n (get_or buffers' t [])
  pub others : buffers' ≡ set buffers t (get_or buffers' t [])

-- of the files before number k the bytes counted lie in their buffers
pub record ReadTo (buffers : List (List ℕ)) (lengths : List ℕ) (k : ℕ) : Type 0 where
  pub counted : (t : ℕ) → t < k → IsPrefixLen (get_or lengths t 0) (get_or buffers t [])

-- each file before number k was read
pub record WereRead (read : List Bool) (k : ℕ) : Type 0 where
  pub each : (t : ℕ) → t < k → get_or read t false ≡ true
