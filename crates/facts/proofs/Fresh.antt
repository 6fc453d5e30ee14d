-- Before the first line: memory as it is made, with the top's empty list, holds the empty table. ls and fs are the two arrays, n is a
-- number, r a parent, k a field. Assumes nothing.
use mathlib.Core.Path.{◌≡◌, sym, ap, ◌∙◌, subst}
use mathlib.Core.List.Memᴰ
use mathlib.Core.List.Memᴰ.{head as here}
use mathlib.Core.List.Memᴰ.{tail as there}
use mathlib.Core.List.{List, [], ◌∷◌}
use Prim.Native.Nat.{ℕ, ◌<◌, ◌≤◌, ◌+◌, ◌*◌}
use native.Mathlib.Omega.{arith}
use native.Mathlib.Decide.{dec_le}
use lib.ListN.{get_or, set, length, replicate, length-replicate, get_or-replicate, length-set, get_or-eq_default}
use lib.Seq.{get_or-set_same, get_or-set_other}
use Rattle.rules.specs.Lists.{◌∈◌}
use Rattle.rules.specs.Marks.{TOP, START, END}
use Rattle.facts.specs.Memory.{NUMBERS, ROOM, WIDTH, NUMBER, FIRST, LAST, line_at, field, opened, no_lines, no_facts}
use Rattle.facts.specs.Holds.{Holds}

zeros : (count k : ℕ) → get_or (replicate {A = ℕ} count 0) k 0 ≡ 0
zeros count k =
    elim (dec_le count k) [
      | yes low ↦ get_or-eq_default (replicate {A = ℕ} count 0) 0
          (subst (λ (m : ℕ). m ≤ k) (sym (length-replicate {A = ℕ} count 0)) low)
      | no low ↦ get_or-replicate {A = ℕ} count k 0 0 (omega arith)
    ]

-- two arrays of zeros
module _ (ls fs : List ℕ) (no_line : (n : ℕ) → get_or ls n 0 ≡ 0) (no_fact : (k : ℕ) → get_or fs k 0 ≡ 0) (room : LAST < length fs) where
  line : (n : ℕ) → line_at ls n ≡ 0
  line n = rw (no_line n)

  -- every number is read on the top's line
  read : (n k v : ℕ) → get_or (opened fs) (0 * WIDTH + k) 0 ≡ v → field ls (opened fs) n k ≡ v
  read n k v e = ap (λ (i : ℕ). get_or (opened fs) (i * WIDTH + k) 0) (line n) ∙ e

  first : get_or (opened fs) FIRST 0 ≡ END
  first = get_or-set_other (set fs FIRST END) LAST FIRST START 0 (λ e. omega arith) ∙ get_or-set_same fs FIRST END 0 (omega arith)

  last : get_or (opened fs) LAST 0 ≡ START
  last = get_or-set_same (set fs FIRST END) LAST START 0 (omega (arith, length-set fs FIRST END))

  number : get_or (opened fs) NUMBER 0 ≡ TOP
  number =
      get_or-set_other (set fs FIRST END) LAST NUMBER START 0 (λ e. omega arith)
      ∙ get_or-set_other fs FIRST NUMBER END 0 (λ e. omega arith) ∙ no_fact NUMBER

  named : (n : ℕ) → n ∈ TOP ∷ [] → field ls (opened fs) n NUMBER ≡ n
  named n (here e) = read n NUMBER TOP number ∙ sym e
  named n (there m) = absurd (Memᴰ.not-nil m)

  zeros_hold : Holds ls (opened fs) []
  zeros_hold =
      record {
        strung = λ r m. (read r FIRST END first, read r LAST START last);
        named = named;
        known = λ n m. absurd (Memᴰ.not-nil m);
        only = λ n low. absurd (omega (arith, line n));
        few = λ n. omega (arith, line n);
        lined = λ i low. omega (arith, line (get_or (opened fs) (i * WIDTH + NUMBER) 0));
        earlier = λ n m. absurd (Memᴰ.not-nil m);
      }

pub fresh_holds : Holds no_lines (opened no_facts) []
fresh_holds =
    zeros_hold no_lines no_facts (zeros NUMBERS) (zeros (ROOM * WIDTH)) (omega (arith, length-replicate {A = ℕ} (ROOM * WIDTH) 0))
