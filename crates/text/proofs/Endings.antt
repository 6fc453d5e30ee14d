-- The ends of a text's lines: whether the text is ended, and how many ends it has. s is the text. Assumes nothing.
use mathlib.Core.Path.{◌≡◌, refl, sym, ap, ◌∙◌}
use mathlib.Core.Bool.{cond}
use mathlib.Core.List.{List, [], ◌∷◌, ◌++◌}
use Prim.Native.Nat.{ℕ, suc, ◌+◌, ◌-◌, ◌≤◌}
use native.Mathlib.Omega.{arith}
use lib.Dec.{eqb}
use lib.ListN.{length, get_or}
use Rattle.std.specs.List.{count_by}
use Rattle.std.proofs.lemmas.List.Recursion.{is_count_by}
use Rattle.std.proofs.lemmas.List.Sums.{count_by-le-length, sum_by-append}
use Rattle.rules.specs.Text.{LF, count, last, ended}

-- the last byte
last_is : (x : ℕ) (s : List ℕ) → last x s ≡ get_or (x ∷ s) (length s) 0
last_is x [] = refl
last_is x (y ∷ s) = last_is y s

pub ended-last : (s : List ℕ) → 1 ≤ length s → eqb (get_or s (length s - 1) 0) LF ≡ ended s
ended-last [] h = absurd (omega arith)
ended-last (x ∷ s) h = let e : length (x ∷ s) - 1 ≡ length s = omega arith in rw (e, last_is x s)

pub ruleset endings = (ended-last)

pub counted : (s : List ℕ) → count_by (λ x. eqb x LF) s ≡ count LF s
counted s = sym (is_count_by (count LF) (λ x. eqb x LF) refl step s)
  where
    step : (x : ℕ) (s : List ℕ) → count LF (x ∷ s) ≡ cond (eqb x LF) (1 + count LF s) (count LF s)
    step x s = let e : suc (count LF s) ≡ 1 + count LF s = omega arith in ap (λ (n : ℕ). cond (eqb x LF) n (count LF s)) e

pub count_le : (s : List ℕ) → count LF s ≤ length s
count_le s = omega (arith, counted s, count_by-le-length (λ x. eqb x LF) s)

-- a part, and what is left behind it
pub count-append : (part rest : List ℕ) → count LF (part ++ rest) ≡ count LF part + count LF rest
count-append part rest =
    sym (counted (part ++ rest)) ∙ sum_by-append (λ x. cond (eqb x LF) 1 0) part rest ∙ λ i. counted part i + counted rest i
