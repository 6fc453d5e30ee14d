-- The facts of the lines as one list of numbers: what is read there, and what stores on one line do. fs are the facts of the lines, f and
-- g those of one, l is a line, k one of its eight places, vs is what is stored from there on. Assumes nothing.
use Rattle.std.proofs.Common.{◌≡◌, refl, sym, ap, ◌∙◌, List, [], ◌∷◌, ◌++◌, ℕ}
use Rattle.std.proofs.Common.{zero, suc, ◌+◌, ◌*◌, ◌-◌, ◌<◌, ◌≤◌, length, arith, get_or, set}
use Rattle.std.proofs.Common.{true, false}
use Rattle.std.proofs.lemmas.List.{set-append_left, set-append_right, get_or-append-add, length-set}
use Rattle.std.proofs.lemmas.List.Edits.{sets}
use lib.Dec.{eqb}
use Rattle.std.proofs.Math.ListN.{get_or-append}
use Rattle.facts.specs.Memory.{WIDTH, NUMBER, PARENT, FORERUNNER, FOLLOWER, FIRST, LAST, PLACE, LENGTH, line_at, who, way, laid, put_field}
use Rattle.facts.specs.Table.{cells, flat, FactsAt}
use Rattle.facts.specs.declared.Facts.{Facts}
use Rattle.facts.proofs.Laying.{laid-sets}
use Rattle.rules.specs.Marks.{START, END}

pub flat_length : (fs : List Facts) → length (flat fs) ≡ length fs * WIDTH
flat_length [] = refl
flat_length (f ∷ fs) = omega (arith, flat_length fs)

-- ---- read

pub flat_cell : (fs : List Facts) (l k : ℕ) (d : Facts) → l < length fs → k < WIDTH
    → get_or (flat fs) (l * WIDTH + k) 0 ≡ get_or (cells (get_or fs l d)) k 0
flat_cell [] l k d h low = absurd (omega (arith, h))
flat_cell (f ∷ fs) zero k d h low =
    let e : 0 * WIDTH + k ≡ k = omega arith in rw e (get_or-append (cells f) (flat fs) 0 k low)
flat_cell (f ∷ fs) (suc l) k d h low =
    let e : suc l * WIDTH + k ≡ WIDTH + (l * WIDTH + k) = omega arith in
    rw e (get_or-append-add (cells f) (flat fs) (l * WIDTH + k) 0 ∙ flat_cell fs l k d (omega (arith, h)) low)

pub facts_at : (fs : List Facts) (l : ℕ) (d : Facts) → l < length fs → FactsAt (flat fs) l (get_or fs l d)
facts_at fs l d h =
    record {
      number = sym (flat_cell fs l NUMBER d h (omega arith));
      parent = sym (flat_cell fs l PARENT d h (omega arith));
      forerunner = sym (flat_cell fs l FORERUNNER d h (omega arith));
      follower = sym (flat_cell fs l FOLLOWER d h (omega arith));
      first = sym (flat_cell fs l FIRST d h (omega arith));
      last = sym (flat_cell fs l LAST d h (omega arith));
      place = sym (flat_cell fs l PLACE d h (omega arith));
      length = sym (flat_cell fs l LENGTH d h (omega arith));
    }

-- ---- stores

sets_front : (xs ys : List ℕ) (i : ℕ) (vs : List ℕ) → i + length vs ≤ length xs → sets (xs ++ ys) i vs ≡ sets xs i vs ++ ys
sets_front xs ys i [] room = refl
sets_front xs ys i (v ∷ vs) room =
    ap (λ (z : List ℕ). sets z (suc i) vs) (set-append_left xs ys i v (omega (arith, room)))
    ∙ sets_front (set xs i v) ys (suc i) vs (omega (arith, room, length-set xs i v))

sets_behind : (xs ys : List ℕ) (n i : ℕ) (vs : List ℕ) → length xs ≡ n → sets (xs ++ ys) (n + i) vs ≡ xs ++ sets ys i vs
sets_behind xs ys n i [] e = refl
sets_behind xs ys n i (v ∷ vs) e =
    let at : n + i - n ≡ i = omega arith in
    let next : suc (n + i) ≡ n + suc i = omega arith in
    ap (λ (z : List ℕ). sets z (suc (n + i)) vs)
    (set-append_right xs ys n (n + i) v e (omega arith) ∙ ap (λ (j : ℕ). xs ++ set ys j v) at)
    ∙ ap (λ (j : ℕ). sets (xs ++ set ys i v) j vs) next
    ∙ sets_behind xs (set ys i v) n (suc i) vs e

pub flat_sets : (fs : List Facts) (l k : ℕ) (d g : Facts) (vs : List ℕ) → l < length fs → k + length vs ≤ WIDTH
    → cells g ≡ sets (cells (get_or fs l d)) k vs → flat (set fs l g) ≡ sets (flat fs) (l * WIDTH + k) vs
flat_sets [] l k d g vs h room e = absurd (omega (arith, h))
flat_sets (f ∷ fs) zero k d g vs h room e =
    let at : 0 * WIDTH + k ≡ k = omega arith in
    rw at (ap (λ (z : List ℕ). z ++ flat fs) e ∙ sym (sets_front (cells f) (flat fs) k vs room))
flat_sets (f ∷ fs) (suc l) k d g vs h room e =
    let at : suc l * WIDTH + k ≡ WIDTH + (l * WIDTH + k) = omega arith in
    rw at (ap (λ (z : List ℕ). cells f ++ z) (flat_sets fs l k d g vs (omega (arith, h)) room e)
    ∙ sym (sets_behind (cells f) (flat fs) WIDTH (l * WIDTH + k) vs refl))

pub flat_put : (fs : List Facts) (l k : ℕ) (d g : Facts) (v : ℕ) → l < length fs → k < WIDTH
    → cells g ≡ set (cells (get_or fs l d)) k v → flat (set fs l g) ≡ set (flat fs) (l * WIDTH + k) v
flat_put fs l k d g v h low e = flat_sets fs l k d g (v ∷ []) h (omega (arith, low)) e

pub flat_laid : (fs : List Facts) (l n r p start long : ℕ) (g : Facts) → l < length fs
    → cells g ≡ n ∷ r ∷ p ∷ END ∷ END ∷ START ∷ start ∷ long ∷ [] → flat (set fs l g) ≡ laid (flat fs) l n r p start long
flat_laid fs l n r p start long g h e =
    let at : l * WIDTH + 0 ≡ l * WIDTH = omega arith in
    flat_sets fs l 0 g g (n ∷ r ∷ p ∷ END ∷ END ∷ START ∷ start ∷ long ∷ []) h (omega arith) e
    ∙ ap (λ (i : ℕ). sets (flat fs) i (n ∷ r ∷ p ∷ END ∷ END ∷ START ∷ start ∷ long ∷ [])) at
    ∙ sym (laid-sets (flat fs) l n r p start long)

-- ---- the stores of the code: on the line of n, or, for who follows p, of p or r

pub put_on : (ls : List ℕ) (fs : List Facts) (n l k : ℕ) (d g : Facts) (v : ℕ) → l ≡ line_at ls n → l < length fs → k < WIDTH
    → cells g ≡ set (cells (get_or fs l d)) k v → flat (set fs l g) ≡ put_field ls (flat fs) n k v
put_on ls fs n l k d g v is h low e = flat_put fs l k d g v h low e ∙ ap (λ (i : ℕ). set (flat fs) (i * WIDTH + k) v) is

pub put_first : (ls : List ℕ) (fs : List Facts) (n r p l : ℕ) (d g : Facts) → eqb p START ≡ true → l ≡ line_at ls r → l < length fs
    → cells g ≡ set (cells (get_or fs l d)) FIRST n → flat (set fs l g) ≡ put_field ls (flat fs) (who r p) (way p) n
put_first ls fs n r p l d g t is h e = rw t (put_on ls fs r l FIRST d g n is h (omega arith) e)

pub put_follower : (ls : List ℕ) (fs : List Facts) (n r p l : ℕ) (d g : Facts) → eqb p START ≡ false → l ≡ line_at ls p → l < length fs
    → cells g ≡ set (cells (get_or fs l d)) FOLLOWER n → flat (set fs l g) ≡ put_field ls (flat fs) (who r p) (way p) n
put_follower ls fs n r p l d g t is h e = rw t (put_on ls fs p l FOLLOWER d g n is h (omega arith) e)
