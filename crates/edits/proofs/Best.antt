-- The least place, found by asking one line after the other of one branch after the other. f has the place of a line, P are the places that
-- the rules give, k is a branch, i a line. Assumes nothing.
use mathlib.Core.Path.{◌≡◌, refl, ap, subst}
use mathlib.Core.Bool.{Bool, true, false}
use mathlib.Core.List.Memᴰ
use mathlib.Core.List.{List, [], ◌∷◌}
use Prim.Native.Nat.{ℕ, zero, suc, ◌<◌, ◌≤◌, min}
use native.Mathlib.Omega.{arith}
use native.Mathlib.Decide.{dec_le}
use lib.Dec.{T}
use Rattle.std.specs.Prelude.{Option, None, Some}
use Rattle.rules.specs.Lists.{◌∈◌}
use Rattle.rules.specs.Merge.{Result, refused, refuse, least}
use Rattle.trees.proofs.Order.{least_in, least-le}
use Rattle.facts.specs.Memory.{BRANCHES}
use Rattle.edits.specs.Least.{least_or_none, place, lesser, best, best_of}
use Rattle.edits.proofs.Branches.{IsBranch}

-- one of the places, or none
abbrev pub PlaceIn : List ℕ → Option ℕ → Type 0
PlaceIn P None = Unit {0}
PlaceIn P (Some n) = n ∈ P

-- a place, and no greater than x
abbrev pub AtMost : Option ℕ → ℕ → Type 0
AtMost None x = ⊥
AtMost (Some n) x = n ≤ x

pub place_in : (P : List ℕ) (t : Bool) (n : ℕ) → (T t → n ∈ P) → PlaceIn P (place t n)
place_in P true n h = h tt
place_in P false n h = tt

pub place-le : (t : Bool) (n : ℕ) → T t → AtMost (place t n) n
place-le true n t = omega arith
place-le false n t = absurd t

pub lesser_in : (P : List ℕ) (x y : Option ℕ) → PlaceIn P x → PlaceIn P y → PlaceIn P (lesser x y)
lesser_in P None y f g = g
lesser_in P (Some x) None f g = f
lesser_in P (Some x) (Some y) f g =
    elim (dec_le x y) [
      | yes h ↦ let e : min x y ≡ x = omega arith in Memᴰ.cast e f
      | no h ↦ let e : min x y ≡ y = omega arith in Memᴰ.cast e g
    ]

pub lesser_left : (x y : Option ℕ) (n : ℕ) → AtMost x n → AtMost (lesser x y) n
lesser_left None y n h = absurd h
lesser_left (Some x) None n h = h
lesser_left (Some x) (Some y) n h = omega (arith, h)

pub lesser_right : (x y : Option ℕ) (n : ℕ) → AtMost y n → AtMost (lesser x y) n
lesser_right None y n h = h
lesser_right (Some x) None n h = absurd h
lesser_right (Some x) (Some y) n h = omega (arith, h)

pub lesser_none : (x : Option ℕ) → lesser x None ≡ x
lesser_none None = refl
lesser_none (Some x) = refl

best-le : (f : ℕ → Option ℕ) (m i n : ℕ) → i < m → AtMost (f i) n → AtMost (best f m) n
best-le f zero i n h a = absurd (omega (arith, h))
best-le f (suc m) i n h a =
    elim (dec_le m i) [
      | yes j ↦ let e : i ≡ m = omega (arith, h, j) in
          lesser_right (best f m) (f m) n (let P : ℕ → Type 0 = λ k. AtMost (f k) n in subst P e a)
      | no j ↦ lesser_left (best f m) (f m) n (best-le f m i n (omega (arith, j)) a)
    ]

best_in : (P : List ℕ) (f : ℕ → Option ℕ) (m : ℕ) → ((i : ℕ) → i < m → PlaceIn P (f i)) → PlaceIn P (best f m)
best_in P f zero h = tt
best_in P f (suc m) h = lesser_in P (best f m) (f m) (best_in P f m (λ i j. h i (omega (arith, j)))) (h m (omega arith))

-- what is one of the places or none, and no greater than any of them, is the least
pub least_is : (P : List ℕ) (v : Option ℕ) → PlaceIn P v → ((x : ℕ) → x ∈ P → AtMost v x) → v ≡ least_or_none P
least_is [] None m h = refl
least_is [] (Some n) m h = absurd (Memᴰ.not-nil m)
least_is (x ∷ xs) None m h = absurd (h (least x xs) (least_in x xs))
least_is (x ∷ xs) (Some n) m h =
    let e : n ≡ least x xs = omega (arith, h (least x xs) (least_in x xs), least-le x xs n m) in ap Some e

pub no_place : (P : List ℕ) → least_or_none P ≡ None → P ≡ []
no_place [] e = refl
no_place (x ∷ xs) e = absurd (cc e)

-- the refusal by the least place
pub refuse-least : (code n : ℕ) (P : List ℕ) (r : Result) → least_or_none P ≡ Some n → refuse code P r ≡ refused code n
refuse-least code n [] r e = absurd (cc e)
refuse-least code n (x ∷ xs) r e = ap (refused code) (some_is e)
  where
    some_is : {a b : ℕ} → Some a ≡ Some b → a ≡ b
    some_is e = cc e

pub refuse_none : (code : ℕ) (P : List ℕ) (r : Result) → P ≡ [] → refuse code P r ≡ r
refuse_none code P r e = ap (λ (l : List ℕ). refuse code l r) e

-- every place asked for is one or none, and each place is met or bettered on a line of a branch
pub best_of_is : (P : List ℕ) (f : ℕ → ℕ → Option ℕ) (counts : ℕ → ℕ)
    → ((k i : ℕ) → IsBranch k → PlaceIn P (f k i))
    → ((x : ℕ) → x ∈ P → (k : ℕ) × IsBranch k × ((i : ℕ) × (i < suc (counts k)) × AtMost (f k i) x)) → best_of f counts ≡ least_or_none P
best_of_is P f counts some met =
    least_is P (best_of f counts)
    (best_in P line BRANCHES (λ j h. best_in P (f (suc j)) (suc (counts (suc j))) (λ i g. some (suc j) i (omega arith, omega (arith, h)))))
    below
  where
    line : ℕ → Option ℕ
    line j = best (f (suc j)) (suc (counts (suc j)))

    on : (k : ℕ) → IsBranch k → (i n : ℕ) → i < suc (counts k) → AtMost (f k i) n → AtMost (best_of f counts) n
    on zero b i n h a = absurd (omega (arith, b.0))
    on (suc j) b i n h a =
        best-le (λ l. best (f (suc l)) (suc (counts (suc l)))) BRANCHES j n (omega (arith, b.1))
        (best-le (f (suc j)) (suc (counts (suc j))) i n h a)

    below : (x : ℕ) → x ∈ P → AtMost (best_of f counts) x
    below x m = let w = met x m in on w.0 w.1 w.2.0 x w.2.1 w.2.2
