-- Rows that may stand on one line after another: they are exactly the readable tables with writable contents, within the limit of
-- lines. t is a table, `seen` are the rows of the lines before, x is a row, n a number. Assumes nothing.
use mathlib.Core.Path.{◌≡◌, refl, sym, subst}
use mathlib.Core.Logic.{◌⊎◌, inl, inr}
use mathlib.Core.List.Memᴰ
use mathlib.Core.List.Memᴰ.{head as here}
use mathlib.Core.List.Memᴰ.{tail as there}
use mathlib.Core.List.{List, [], ◌∷◌, ◌++◌, append-nil, map-append}
use Prim.Native.Nat.{ℕ, ◌+◌, ◌<◌, ◌≤◌}
use native.Mathlib.Omega.{arith}
use lib.ListN.{length, length-append}
use lib.Seq.{append_snoc}
use lib.Dec.{T}
use Rattle.rules.specs.Limits.{LINES, GREATEST}
use Rattle.rules.specs.Lists.{◌∈◌, NoneTwice}
use Rattle.rules.specs.Marks.{TOP, is_record}
use Rattle.rules.specs.Line.{Row}
use Rattle.rules.specs.Table.{numbers}
use Rattle.rules.specs.Demands.{Rooted, Readable, Writable}
use Rattle.trees.proofs.Marks.{record_high}

-- a row that may stand on the line after those of `seen`
pub record Follows (seen : List Row) (x : Row) : Type 0 where
  pub room : length seen < LINES
  pub number : T (is_record x.number)
  pub parent : x.parent ≤ GREATEST
  pub new : x.number ∈ numbers seen → ⊥
  pub under : x.parent ∈ TOP ∷ numbers seen
  pub content : Writable x.content

-- each row of t may follow those before it
abbrev pub Good : List Row → List Row → Type 0
Good seen [] = Unit {0}
Good seen (x ∷ t) = Follows seen x × Good (seen ++ (x ∷ [])) t

-- ---- one more line

module _ (seen : List Row) (x : Row) where
  numbers_snoc : numbers (seen ++ (x ∷ [])) ≡ numbers seen ++ (x.number ∷ [])
  numbers_snoc = map-append (λ (y : Row). y.number) seen (x ∷ [])

  pub seen_before : (n : ℕ) → n ∈ numbers seen → n ∈ numbers (seen ++ (x ∷ []))
  seen_before n m = subst (λ (l : List ℕ). n ∈ l) (sym numbers_snoc) (Memᴰ.append_left (x.number ∷ []) m)

  pub seen_last : (n : ℕ) → n ≡ x.number → n ∈ numbers (seen ++ (x ∷ []))
  seen_last n e = subst (λ (l : List ℕ). n ∈ l) (sym numbers_snoc) (Memᴰ.append_right (numbers seen) (here e))

  pub seen_cases : (n : ℕ) → n ∈ numbers (seen ++ (x ∷ [])) → (n ∈ numbers seen) ⊎ (n ≡ x.number)
  seen_cases n m = go (Memᴰ.append_cases (numbers seen) (subst (λ (l : List ℕ). n ∈ l) numbers_snoc m))
    where
      go : (n ∈ numbers seen) ⊎ (n ∈ x.number ∷ []) → (n ∈ numbers seen) ⊎ (n ≡ x.number)
      go (inl k) = inl k
      go (inr (here e)) = inr e
      go (inr (there k)) = absurd (Memᴰ.not-nil k)

-- a row that may follow all of them comes last
pub good_more : (above t : List Row) (x : Row) → Good above t → Follows (above ++ t) x → Good above (t ++ (x ∷ []))
good_more above [] x g f = (subst (λ (s : List Row). Follows s x) (append-nil above) f, tt)
good_more above (y ∷ t) x g f =
    (g.0, good_more (above ++ (y ∷ [])) t x g.1 (subst (λ (s : List Row). Follows s x) (sym (append_snoc above y t)) f))

-- ---- what such rows are

apart : (seen t : List Row) → Good seen t → (n : ℕ) → n ∈ numbers t → n ∈ numbers seen → ⊥
apart seen [] g n m k = Memᴰ.not-nil m
apart seen (x ∷ t) g n (here e) k = g.0.new (Memᴰ.cast (sym e) k)
apart seen (x ∷ t) g n (there m) k = apart (seen ++ (x ∷ [])) t g.1 n m (seen_before seen x n k)

once : (seen t : List Row) → Good seen t → NoneTwice (numbers t)
once seen [] g = tt
once seen (x ∷ t) g =
    (λ m. apart (seen ++ (x ∷ [])) t g.1 x.number m (seen_last seen x x.number refl), once (seen ++ (x ∷ [])) t g.1)

valid : (seen t : List Row) → Good seen t → (x : Row) → x ∈ t → T (is_record x.number)
valid seen [] g x m = absurd (Memᴰ.not-nil m)
valid seen (y ∷ t) g x (here e) = subst (λ (z : Row). T (is_record z.number)) (sym e) g.0.number
valid seen (y ∷ t) g x (there m) = valid (seen ++ (y ∷ [])) t g.1 x m

rooted : (seen t : List Row) (above : List ℕ) → ((n : ℕ) → n ∈ numbers seen → n ∈ above) → Good seen t → Rooted above t
rooted seen [] above h g = tt
rooted seen (x ∷ t) above h g = (up g.0.under, rooted (seen ++ (x ∷ [])) t (x.number ∷ above) more g.1)
  where
    up : x.parent ∈ TOP ∷ numbers seen → x.parent ∈ TOP ∷ above
    up (here e) = here e
    up (there m) = there (h x.parent m)

    more : (n : ℕ) → n ∈ numbers (seen ++ (x ∷ [])) → n ∈ x.number ∷ above
    more n m = elim (seen_cases seen x n m) [ inl k ↦ there (h n k) | inr e ↦ here e ]

-- rows that may follow one another are a readable table
pub good_readable : (t : List Row) → Good [] t → Readable t
good_readable t g = record {
  distinct = record { once = once [] t g; valid = valid [] t g };
  rooted = rooted [] t [] (λ n m. m) g;
}

writable : (seen t : List Row) → Good seen t → (x : Row) → x ∈ t → Writable x.content
writable seen [] g x m = absurd (Memᴰ.not-nil m)
writable seen (y ∷ t) g x (here e) = subst (λ (z : Row). Writable z.content) (sym e) g.0.content
writable seen (y ∷ t) g x (there m) = writable (seen ++ (y ∷ [])) t g.1 x m

-- whose contents are writable
pub good_writable : (t : List Row) → Good [] t → (x : Row) → x ∈ t → Writable x.content
good_writable t g x m = writable [] t g x m

few : (seen t : List Row) → Good seen t → length seen ≤ LINES → length seen + length t ≤ LINES
few seen [] g h = omega arith
few seen (x ∷ t) g h =
    let long : length (seen ++ (x ∷ [])) ≡ length seen + 1 = length-append seen (x ∷ []) in
    omega (arith, few (seen ++ (x ∷ [])) t g.1 (omega (arith, long, g.0.room)), long)

-- and which is within the limit of lines
pub good_few : (t : List Row) → Good [] t → length t ≤ LINES
good_few t g = omega (arith, few [] t g (omega arith))

-- ---- the other way

-- what is known of the lines before and of those to come, `above` being the numbers before as `Rooted` has them
record Coming (seen t : List Row) (above : List ℕ) : Type 0 where
  known : (n : ℕ) → n ∈ above → n ∈ numbers seen
  records : (n : ℕ) → n ∈ numbers seen → T (is_record n)
  rooted : Rooted above t
  once : NoneTwice (numbers t)
  apart : (n : ℕ) → n ∈ numbers t → n ∈ numbers seen → ⊥
  valid : (x : Row) → x ∈ t → T (is_record x.number)
  writable : (x : Row) → x ∈ t → Writable x.content
  few : length seen + length t ≤ LINES

coming_first : (seen t : List Row) (x : Row) (above : List ℕ) → Coming seen (x ∷ t) above → Follows seen x
coming_first seen t x above c = record {
  room = omega (arith, c.few);
  number = c.valid x (here refl);
  parent = high c.rooted.0;
  new = c.apart x.number (here refl);
  under = up c.rooted.0;
  content = c.writable x (here refl);
}
  where
    high : x.parent ∈ TOP ∷ above → x.parent ≤ GREATEST
    high (here e) = omega arith
    high (there m) = omega (arith, record_high x.parent (c.records x.parent (c.known x.parent m)))

    up : x.parent ∈ TOP ∷ above → x.parent ∈ TOP ∷ numbers seen
    up (here e) = here e
    up (there m) = there (c.known x.parent m)

coming_rest : (seen t : List Row) (x : Row) (above : List ℕ) → Coming seen (x ∷ t) above
    → Coming (seen ++ (x ∷ [])) t (x.number ∷ above)
coming_rest seen t x above c = record {
  known = known;
  records = records;
  rooted = c.rooted.1;
  once = c.once.1;
  apart = later;
  valid = λ y m. c.valid y (there m);
  writable = λ y m. c.writable y (there m);
  few = omega (arith, c.few, length-append seen (x ∷ []));
}
  where
    known : (n : ℕ) → n ∈ x.number ∷ above → n ∈ numbers (seen ++ (x ∷ []))
    known n (here e) = seen_last seen x n e
    known n (there m) = seen_before seen x n (c.known n m)

    records : (n : ℕ) → n ∈ numbers (seen ++ (x ∷ [])) → T (is_record n)
    records n m = elim (seen_cases seen x n m)
        [ inl k ↦ c.records n k | inr e ↦ subst (λ (k : ℕ). T (is_record k)) (sym e) (c.valid x (here refl)) ]

    later : (n : ℕ) → n ∈ numbers t → n ∈ numbers (seen ++ (x ∷ [])) → ⊥
    later n m k = elim (seen_cases seen x n k) [ inl j ↦ c.apart n (there m) j | inr e ↦ c.once.0 (Memᴰ.cast (sym e) m) ]

coming_good : (seen t : List Row) (above : List ℕ) → Coming seen t above → Good seen t
coming_good seen [] above c = tt
coming_good seen (x ∷ t) above c =
    (coming_first seen t x above c, coming_good (seen ++ (x ∷ [])) t (x.number ∷ above) (coming_rest seen t x above c))

-- a readable table's rows may follow one another, if its contents are writable and it is within the limit of lines
pub rows-good : (t : List Row) → Readable t → ((x : Row) → x ∈ t → Writable x.content) → length t ≤ LINES → Good [] t
rows-good t r w h = coming_good [] t [] (record {
  known = λ n m. m;
  records = λ n m. absurd (Memᴰ.not-nil m);
  rooted = r.rooted;
  once = r.distinct.once;
  apart = λ n m k. Memᴰ.not-nil k;
  valid = r.distinct.valid;
  writable = w;
  few = omega arith;
})
