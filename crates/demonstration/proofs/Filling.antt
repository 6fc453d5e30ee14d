-- The three buffers are filled one after another. fs are the files, b their buffers, n the counts of bytes read, t is a file; a name with
-- a prime is what it is after a file was read. Assumes nothing.
use mathlib.Core.Path.{◌≡◌, refl, sym, ap, ◌∙◌, subst}
use mathlib.Core.Bool.{Bool, true, false}
use mathlib.Core.List.{List, [], ◌∷◌}
use Prim.Native.Nat.{ℕ, zero, suc, ◌+◌, ◌<◌, ◌≤◌}
use native.Mathlib.Omega.{arith}
use lib.ListN.{length, get_or, set, take, length-set}
use lib.Seq.{get_or-set_same, get_or-set_other}
use borrow.Author.Count.{below_none, below_more}
use Rattle.std.specs.Prelude.{map}
use Rattle.std.specs.Option.{is_some}
use Rattle.std.specs.Counts.{IsPrefixLen}
use Rattle.demonstration.specs.declared.file.File.{File}
use Rattle.demonstration.specs.Counted.{bytes_read}
use Rattle.demonstration.specs.Printed.{Shows, printed}
use Rattle.demonstration.specs.Files.{files, buffers, lengths, which_read, text_in, printed_of, Filled, ReadTo, WereRead}

-- ---- the files as they lie in memory

-- of every file the bytes counted lie in its buffer: its type says so
file_counted : (fs : List File) (t : ℕ) → IsPrefixLen (get_or (lengths fs) t 0) (get_or (buffers fs) t [])
file_counted [] t = (omega arith, refl)
file_counted (f ∷ fs) zero = f.counted
file_counted (f ∷ fs) (suc t) = file_counted fs t

-- so of as many as are told
pub all_counted : (fs : List File) (k : ℕ) → ReadTo (buffers fs) (lengths fs) k
all_counted fs k = record { counted = λ t h. file_counted fs t }

module _ {B : Type 0} (view : File → B) (d : B) where
  map-set : (fs : List File) (t : ℕ) (f : File) → t < length fs
      → map view (set fs t f) ≡ set (map view fs) t (get_or (map view (set fs t f)) t d)
  map-set [] t f h = refl
  map-set (g ∷ fs) zero f h = refl
  map-set (g ∷ fs) (suc t) f h = ap (λ xs. view g ∷ xs) (map-set fs t f (omega (arith, h)))

-- one file of them is lent, and comes back with the bytes counted
pub filled : (fs : List File) (t : ℕ) (f : File) → t < length fs
    → Filled (buffers fs) t (get_or (lengths (set fs t f)) t 0) (buffers (set fs t f))
filled fs t f h = record { counts = file_counted (set fs t f) t; others = map-set (λ f. f.bytes) [] fs t f h }

pub counted_there : (fs : List File) (t : ℕ) (f : File) → t < length fs
    → lengths (set fs t f) ≡ set (lengths fs) t (get_or (lengths (set fs t f)) t 0)
counted_there fs t f h = map-set (λ f. bytes_read f.length) 0 fs t f h

pub read_there : (fs : List File) (t : ℕ) (f : File) → t < length fs
    → which_read (set fs t f) ≡ set (which_read fs) t (get_or (which_read (set fs t f)) t false)
read_there fs t f h = map-set (λ f. is_some f.length) false fs t f h

-- ---- one file after another

-- files up to t are read, of three
pub record Going (b : List (List ℕ)) (n : List ℕ) (t : ℕ) : Type 0 where
  pub buffers : length b ≡ files
  pub counts : length n ≡ files
  pub read : ReadTo b n t
  pub bound : t ≤ files

-- and each of them was read: r are the tests
pub record Known (r : List Bool) (t : ℕ) : Type 0 where
  pub tests : length r ≡ files
  pub read : WereRead r t

pub known_start : (r : List Bool) → length r ≡ files → Known r 0
known_start r p = record { tests = p; read = record { each = below_none _ } }

module _ (r : List Bool) (t : ℕ) (r' : List Bool) (w : r' ≡ set r t (get_or r' t false)) (k : Known r t) where
  known_before : (u : ℕ) → u < t → get_or r' u false ≡ true
  known_before u h =
      ap (λ (x : List Bool). get_or x u false) w ∙ get_or-set_other r t u (get_or r' t false) false (λ e. omega (arith, e, h))
      ∙ k.read.each u h

  pub known_stop : WereRead r' t
  known_stop = record { each = known_before }

  pub known_on : t < files → get_or r' t false ≡ true → Known r' (t + 1)
  known_on h e =
      record {
        tests = ap length w ∙ length-set r t (get_or r' t false) ∙ k.tests;
        read = record { each = below_more _ t known_before e };
      }

pub going_start : (b : List (List ℕ)) (n : List ℕ) → length b ≡ files → length n ≡ files → Going b n 0
going_start b n p q = record { buffers = p; counts = q; read = record { counted = below_none _ }; bound = omega arith }

module _ (b : List (List ℕ)) (n : List ℕ) (t k : ℕ) (b' : List (List ℕ)) (w : Filled b t k b') (g : Going b n t) where
  -- the files before it are as they were
  before : (u : ℕ) → u < t → IsPrefixLen (get_or n u 0) (get_or b' u [])
  before u h =
      subst (IsPrefixLen (get_or n u 0))
      (sym (ap (λ (x : List (List ℕ)). get_or x u []) w.others ∙ get_or-set_other b t u (get_or b' t []) [] (λ e. omega (arith, e, h))))
      (g.read.counted u h)

  pub going_stop : ReadTo b' n t
  going_stop = record { counted = before }

  pub going_on : t < files → Going b' (set n t k) (t + 1)
  going_on h =
      record {
        buffers = ap length w.others ∙ length-set b t (get_or b' t []) ∙ g.buffers;
        counts = length-set n t k ∙ g.counts;
        read = record { counted = below_more _ t others here };
        bound = omega (arith, h);
      }
    where
      others : (u : ℕ) → u < t → IsPrefixLen (get_or (set n t k) u 0) (get_or b' u [])
      others u l =
          subst (λ (m : ℕ). IsPrefixLen m (get_or b' u [])) (sym (get_or-set_other n t u k 0 (λ e. omega (arith, e, l)))) (before u l)

      here : IsPrefixLen (get_or (set n t k) t 0) (get_or b' t [])
      here = subst (λ (m : ℕ). IsPrefixLen m (get_or b' t [])) (sym (get_or-set_same n t k 0 (omega (arith, g.counts, h)))) w.counts

-- what is shown of the three texts is what is to be printed
pub shown-printed : (b : List (List ℕ)) (n old first second : List ℕ) (k : ℕ) (out : List ℕ) → old ≡ text_in b n 0 → first ≡ text_in b n 1
    → second ≡ text_in b n 2 → Shows old first second k out → take k out ≡ printed_of b n
shown-printed b n old first second k out p q r w = w.bytes ∙ λ i. printed (p i) (q i) (r i)

-- every file was read
pub all_read : (b : List (List ℕ)) (n : List ℕ) (t : ℕ) → ReadTo b n t → t ≤ files → (t < files → ⊥) → ReadTo b n files
all_read b n t w h end = record { counted = λ u l. w.counted u (omega (arith, h, l, end)) }

pub ruleset fillings = (all_counted, going_start, going_stop, going_on, known_start, known_stop, known_on, all_read)
