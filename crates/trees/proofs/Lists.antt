-- What the words on lists mean: what stands in a list that is kept, joined or asked for. x and y are elements, xs and ys lists of
-- them, `test` a test; n is a number, ns are numbers, p what stands before them. Assumes nothing.
use mathlib.Core.Path.{◌≡◌, refl, sym, ap, subst}
use mathlib.Core.Logic.{◌⊎◌, inl, inr}
use mathlib.Core.Bool.{Bool, true, false, not, ◌&&◌, ◌||◌}
use mathlib.Core.List.Memᴰ
use mathlib.Core.List.Memᴰ.{head as here}
use mathlib.Core.List.Memᴰ.{tail as there}
use mathlib.Core.List.{List, [], ◌∷◌, ◌++◌}
use Prim.Native.Nat.{ℕ}
use lib.Dec.{T}
use mir.Facts.{or_yes}
use Rattle.rules.specs.Lists.{◌∈◌, any, flat, keep, put}
use Rattle.rules.specs.Text.{last}

-- ---- tests

pub or_left : (a b : Bool) → T a → T (a || b)
or_left true b t = tt
or_left false b t = absurd t

pub or_right : (a b : Bool) → T b → T (a || b)
or_right true b t = tt
or_right false b t = t

-- a test passes or fails
pub either : (b : Bool) → T b ⊎ T (not b)
either true = inl tt
either false = inr tt

pub is_true : (b : Bool) → T b → b ≡ true
is_true true t = refl
is_true false t = absurd t

pub is_false : (b : Bool) → (T b → ⊥) → b ≡ false
is_false true f = absurd (f tt)
is_false false f = refl

-- two tests that pass together are one
pub same_test : (a b : Bool) → (T a → T b) → (T b → T a) → a ≡ b
same_test true true f g = refl
same_test true false f g = absurd (f tt)
same_test false true f g = absurd (g tt)
same_test false false f g = refl

pub not-or : (a b : Bool) → not (a || b) ≡ (not a && not b)
not-or true b = refl
not-or false b = refl

-- what cannot fail passes
pub cannot_fail : (b : Bool) → (T (not b) → ⊥) → T b
cannot_fail true f = tt
cannot_fail false f = f tt

-- ---- put

module _ {A : Type 0} where
  pub put_out : {y : A} (x : A) (xs : List A) (b : Bool) → y ∈ put b x xs → ((y ≡ x) × T b) ⊎ (y ∈ xs)
  put_out x xs true (here e) = inl (e, tt)
  put_out x xs true (there m) = inr m
  put_out x xs false m = inr m

  pub put_here : {x y : A} (xs : List A) (b : Bool) → y ≡ x → T b → y ∈ put b x xs
  put_here xs true e t = here e
  put_here xs false e t = absurd t

  pub put_there : {y : A} {xs : List A} (x : A) (b : Bool) → y ∈ xs → y ∈ put b x xs
  put_there x true m = there m
  put_there x false m = m

  pub put_yes : (b : Bool) (x : A) (xs : List A) → T b → put b x xs ≡ x ∷ xs
  put_yes true x xs t = refl
  put_yes false x xs t = absurd t

  pub put_no : (b : Bool) (x : A) (xs : List A) → T (not b) → put b x xs ≡ xs
  put_no true x xs t = absurd t
  put_no false x xs t = refl

-- ---- keep

module _ {A : Type 0} (test : A → Bool) where
  pub keep_in : {x : A} {xs : List A} → x ∈ xs → T (test x) → x ∈ keep test xs
  keep_in {x} (here {x = y} {xs = xs} e) t = put_here (keep test xs) (test y) e (subst (λ (z : A). T (test z)) e t)
  keep_in {x} (there {x = y} m) t = put_there y (test y) (keep_in m t)

  pub keep_out : {x : A} (xs : List A) → x ∈ keep test xs → (x ∈ xs) × T (test x)
  keep_out [] m = absurd (Memᴰ.not-nil m)
  keep_out {x} (y ∷ xs) m = step (λ (k : x ∈ keep test xs). keep_out xs k) (put_out y (keep test xs) (test y) m)
    where
      step : (x ∈ keep test xs → (x ∈ xs) × T (test x)) → ((x ≡ y) × T (test y)) ⊎ (x ∈ keep test xs) → (x ∈ y ∷ xs) × T (test x)
      step f (inl h) = (here h.0, subst (λ (z : A). T (test z)) (sym h.0) h.1)
      step f (inr k) = (there (f k).0, (f k).1)

  pub keep_none : (xs : List A) → ((x : A) → x ∈ xs → T (test x) → ⊥) → keep test xs ≡ []
  keep_none [] h = refl
  keep_none (y ∷ xs) h = step (test y) (h y (here refl)) (keep_none xs (λ x m. h x (there m)))
    where
      step : (b : Bool) → (T b → ⊥) → keep test xs ≡ [] → put b y (keep test xs) ≡ []
      step true f e = absurd (f tt)
      step false f e = e

  pub none_kept : {x : A} (xs : List A) → keep test xs ≡ [] → x ∈ xs → T (test x) → ⊥
  none_kept {x} xs e m t = Memᴰ.not-nil (subst (λ (ys : List A). x ∈ ys) e (keep_in m t))

  pub keep_all : (xs : List A) → ((x : A) → x ∈ xs → T (test x)) → keep test xs ≡ xs
  keep_all [] h = refl
  keep_all (y ∷ xs) h = step (test y) (h y (here refl)) (keep_all xs (λ x m. h x (there m)))
    where
      step : (b : Bool) → T b → keep test xs ≡ xs → put b y (keep test xs) ≡ y ∷ xs
      step true t e = ap (λ (ys : List A). y ∷ ys) e
      step false t e = absurd t

  pub keep_append : (xs ys : List A) → keep test (xs ++ ys) ≡ keep test xs ++ keep test ys
  keep_append [] ys = refl
  keep_append (x ∷ xs) ys = step (test x) (keep_append xs ys)
    where
      step : (b : Bool) → keep test (xs ++ ys) ≡ keep test xs ++ keep test ys
          → put b x (keep test (xs ++ ys)) ≡ put b x (keep test xs) ++ keep test ys
      step true e = ap (λ (l : List A). x ∷ l) e
      step false e = e

  -- ---- any

  pub any_in : {x : A} {xs : List A} → x ∈ xs → T (test x) → T (any test xs)
  any_in (here {x = y} e) t = or_left (test y) _ (subst (λ (z : A). T (test z)) e t)
  any_in (there {x = y} m) t = or_right (test y) _ (any_in m t)

  pub any_out : (xs : List A) → T (any test xs) → (x : A) × (x ∈ xs) × T (test x)
  any_out [] t = absurd t
  any_out (y ∷ xs) t = step (any_out xs) (or_yes (test y) (any test xs) t)
    where
      step : (T (any test xs) → (x : A) × (x ∈ xs) × T (test x)) → T (test y) ⊎ T (any test xs) → (x : A) × (x ∈ y ∷ xs) × T (test x)
      step f (inl h) = (y, here refl, h)
      step f (inr h) = let w = f h in (w.0, there w.1, w.2)

-- ---- flat

module _ {A B : Type 0} (f : A → List B) where
  pub flat_in : {x : A} {y : B} {xs : List A} → x ∈ xs → y ∈ f x → y ∈ flat f xs
  flat_in {y = y} (here {x = z} {xs = xs} e) k = Memᴰ.append_left (flat f xs) (subst (λ (w : A). y ∈ f w) e k)
  flat_in (there {x = z} m) k = Memᴰ.append_right (f z) (flat_in m k)

  pub flat_out : {y : B} (xs : List A) → y ∈ flat f xs → (x : A) × (x ∈ xs) × (y ∈ f x)
  flat_out [] m = absurd (Memᴰ.not-nil m)
  flat_out {y} (z ∷ xs) m = step (λ (k : y ∈ flat f xs). flat_out xs k) (Memᴰ.append_cases (f z) m)
    where
      step : (y ∈ flat f xs → (x : A) × (x ∈ xs) × (y ∈ f x)) → (y ∈ f z) ⊎ (y ∈ flat f xs) → (x : A) × (x ∈ z ∷ xs) × (y ∈ f x)
      step g (inl k) = (z, here refl, k)
      step g (inr k) = let w = g k in (w.0, there w.1, w.2)

-- ---- last

-- the last of them is one of them, or what stood before
pub last_among : (P : ℕ → Type 0) (p : ℕ) (ns : List ℕ) → ((n : ℕ) → n ∈ ns → P n) → P p → P (last p ns)
last_among P p [] h w = w
last_among P p (n ∷ ns) h w = last_among P n ns (λ m k. h m (there k)) (h n (here refl))
