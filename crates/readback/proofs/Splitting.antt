-- A text is split again where it was joined, and joined again where it was split. s and t are parts of a text, b is the byte that
-- parts them, x and y are bytes, l is a line. Assumes nothing.
use mathlib.Core.Path.{◌≡◌, refl, sym, ap, ◌∙◌}
use mathlib.Core.Bool.{Bool, true, false, cond, true≢false}
use mathlib.Core.List.Memᴰ
use mathlib.Core.List.Memᴰ.{head as here}
use mathlib.Core.List.Memᴰ.{tail as there}
use mathlib.Core.List.{List, [], ◌∷◌, ◌++◌}
use Prim.Native.Nat.{ℕ, suc, ◌-◌, ◌<◌, ◌≤◌}
use native.Mathlib.Omega.{arith}
use lib.ListN.{length, drop}
use lib.Seq.{append_snoc}
use lib.Dec.{T, eqb}
use mir.Facts.{and_yes, yes_and}
use borrow.Author.Tests.{eqb-true, eq-eqb, ne_eqb}
use Rattle.rules.specs.Lists.{◌∈◌, every, flat}
use Rattle.rules.specs.Text.{LF, count, before, after, onto, lines, last, ended}

-- ---- a test that all bytes pass

module _ (test : ℕ → Bool) where
  pub every_in : {x : ℕ} (s : List ℕ) → T (every test s) → x ∈ s → T (test x)
  every_in [] h m = absurd (Memᴰ.not-nil m)
  every_in (y ∷ s) h (here e) = rw e (and_yes (test y) (every test s) h).0
  every_in (y ∷ s) h (there m) = every_in s (and_yes (test y) (every test s) h).1 m

  pub every_append : (s t : List ℕ) → T (every test s) → T (every test t) → T (every test (s ++ t))
  every_append [] t h k = k
  every_append (x ∷ s) t h k =
      let a = and_yes (test x) (every test s) h in
      yes_and (test x) (every test (s ++ t)) a.0 (every_append s t a.1 k)

  pub every-left : (s t : List ℕ) → T (every test (s ++ t)) → T (every test s)
  every-left [] t h = tt
  every-left (x ∷ s) t h =
      let a = and_yes (test x) (every test (s ++ t)) h in
      yes_and (test x) (every test s) a.0 (every-left s t a.1)

  pub every_right : (s t : List ℕ) → T (every test (s ++ t)) → T (every test t)
  every_right [] t h = h
  every_right (x ∷ s) t h = every_right s t (and_yes (test x) (every test (s ++ t)) h).1

  pub every-after : (b : ℕ) (s : List ℕ) → T (every test s) → T (every test (after b s))
  every-after b [] h = h
  every-after b (x ∷ s) h = go (eqb x b) (and_yes (test x) (every test s) h).1 (every-after b s)
    where
      go : (u : Bool) → T (every test s) → (T (every test s) → T (every test (after b s))) → T (every test (cond u s (after b s)))
      go true k ih = k
      go false k ih = ih k

-- ---- parted at a byte

-- what was joined by a byte that does not stand in the first part is parted there
pub before_at : (b : ℕ) (s t : List ℕ) → (b ∈ s → ⊥) → before b (s ++ (b ∷ t)) ≡ s
before_at b [] t f = rw (eq-eqb b b refl)
before_at b (x ∷ s) t f = rw (ne_eqb x b (λ e. f (here (sym e)))) (ap (λ (r : List ℕ). x ∷ r) (before_at b s t (λ m. f (there m))))

pub after-at : (b : ℕ) (s t : List ℕ) → (b ∈ s → ⊥) → after b (s ++ (b ∷ t)) ≡ t
after-at b [] t f = rw (eq-eqb b b refl)
after-at b (x ∷ s) t f = rw (ne_eqb x b (λ e. f (here (sym e)))) (after-at b s t (λ m. f (there m)))

pub count_at : (b : ℕ) (s t : List ℕ) → count b t < count b (s ++ (b ∷ t))
count_at b [] t = rw (eq-eqb b b refl) (omega arith)
count_at b (x ∷ s) t = go (eqb x b) (count_at b s t)
  where
    go : (u : Bool) → count b t < count b (s ++ (b ∷ t)) → count b t < cond u (suc (count b (s ++ (b ∷ t)))) (count b (s ++ (b ∷ t)))
    go true h = omega arith
    go false h = h

-- what is parted at a byte is joined by it
pub rejoin : (b : ℕ) (s : List ℕ) → 0 < count b s → s ≡ before b s ++ (b ∷ after b s)
rejoin b [] h = absurd (omega arith)
rejoin b (x ∷ s) h = go (eqb x b) refl (rejoin b s) h
  where
    go : (u : Bool) → eqb x b ≡ u → (0 < count b s → s ≡ before b s ++ (b ∷ after b s)) → 0 < cond u (suc (count b s)) (count b s)
        → x ∷ s ≡ cond u [] (x ∷ before b s) ++ (b ∷ cond u s (after b s))
    go true q ih h = ap (λ (y : ℕ). y ∷ s) (eqb-true x b q)
    go false q ih h = ap (λ (r : List ℕ). x ∷ r) (ih h)

pub count-after : (b : ℕ) (s : List ℕ) → count b s ≤ suc (count b (after b s))
count-after b [] = omega arith
count-after b (x ∷ s) =
    let ih : count b s ≤ suc (count b (after b s)) = count-after b s in
    elim (eqb x b) as (λ u. cond u (suc (count b s)) (count b s) ≤ suc (count b (cond u s (after b s)))) [ true ↦ omega arith | false ↦ ih ]

pub count-le : (x : ℕ) (s : List ℕ) → count x s ≤ length s
count-le x [] = omega arith
count-le x (y ∷ s) =
    let ih : count x s ≤ length s = count-le x s in
    elim (eqb y x) as (λ t. cond t (suc (count x s)) (count x s) ≤ suc (length s)) [ true ↦ omega arith | false ↦ omega arith ]

-- ---- where the parts lie

pub after-le : (b : ℕ) (s : List ℕ) → length (after b s) ≤ length s
after-le b [] = omega arith
after-le b (x ∷ s) =
    let ih : length (after b s) ≤ length s = after-le b s in
    elim (eqb x b) as (λ u. length (cond u s (after b s)) ≤ suc (length s)) [ true ↦ omega arith | false ↦ omega arith ]

-- what stands after the byte is what is left from some place on
pub after-left : (b : ℕ) (s : List ℕ) → after b s ≡ drop (length s - length (after b s)) s
after-left b [] = refl
after-left b (x ∷ s) = go (eqb x b) (after-left b s)
  where
    go : (u : Bool) → after b s ≡ drop (length s - length (after b s)) s
        → cond u s (after b s) ≡ drop (suc (length s) - length (cond u s (after b s))) (x ∷ s)
    go true ih = let e : suc (length s) - length s ≡ 1 = omega arith in rw e
    go false ih =
        let e : suc (length s) - length (after b s) ≡ suc (length s - length (after b s)) = omega (arith, after-le b s) in
        rw e ih

-- what stands after the byte is what is left behind it
pub after-drop : (b : ℕ) (s : List ℕ) → after b s ≡ drop (suc (length (before b s))) s
after-drop b [] = refl
after-drop b (x ∷ s) =
    let ih : after b s ≡ drop (suc (length (before b s))) s = after-drop b s in
    elim (eqb x b) as (λ u. cond u s (after b s) ≡ drop (suc (length (cond u [] (x ∷ before b s)))) (x ∷ s)) [ true ↦ refl | false ↦ ih ]

-- a text is what stands before the byte, and what is left
pub before-left : (b : ℕ) (s : List ℕ) → s ≡ before b s ++ drop (length (before b s)) s
before-left b [] = refl
before-left b (x ∷ s) =
    let ih : s ≡ before b s ++ drop (length (before b s)) s = before-left b s in
    elim (eqb x b) as (λ u. x ∷ s ≡ cond u [] (x ∷ before b s) ++ drop (length (cond u [] (x ∷ before b s))) (x ∷ s))
    [ true ↦ refl | false ↦ ap (λ (r : List ℕ). x ∷ r) ih ]

-- ---- the first line

-- an ended text whose first byte is no LF goes on
goes_on_lem : (x : ℕ) (s : List ℕ) → eqb x LF ≡ false → ended (x ∷ s) ≡ true → (0 < length s) × (ended s ≡ true)
goes_on_lem x [] f e = absurd (true≢false (sym e ∙ f))
goes_on_lem x (y ∷ s) f e = (omega arith, e)

-- what follows an LF that opens an ended text is ended
ends_on : (x : ℕ) (s : List ℕ) → eqb x LF ≡ true → ended (x ∷ s) ≡ true → ended s ≡ true
ends_on x s q e = let z : ended (LF ∷ s) ≡ true = rw (eqb-true x LF q) at e in z

-- the lines of an ended text: the first one, and the lines after it
pub lines_step : (s : List ℕ) → 0 < length s → ended s ≡ true → lines s ≡ before LF s ∷ lines (after LF s)
lines_step [] h e = absurd (omega arith)
lines_step (x ∷ s) h e = go (eqb x LF) refl (lines_step s)
  where
    go : (u : Bool) → eqb x LF ≡ u → (0 < length s → ended s ≡ true → lines s ≡ before LF s ∷ lines (after LF s))
        → cond u ([] ∷ lines s) (onto x (lines s)) ≡ cond u [] (x ∷ before LF s) ∷ lines (cond u s (after LF s))
    go true q ih = refl
    go false q ih = let g = goes_on_lem x s q e in ap (onto x) (ih g.0 g.1)

pub before-lt : (s : List ℕ) → 0 < length s → ended s ≡ true → length (before LF s) < length s
before-lt [] h e = absurd (omega arith)
before-lt (x ∷ s) h e = go (eqb x LF) refl (before-lt s)
  where
    go : (u : Bool) → eqb x LF ≡ u → (0 < length s → ended s ≡ true → length (before LF s) < length s)
        → length (cond u [] (x ∷ before LF s)) < suc (length s)
    go true q ih = omega arith
    go false q ih = let g = goes_on_lem x s q e in omega (arith, ih g.0 g.1)

pub ended-after : (s : List ℕ) → ended s ≡ true → ended (after LF s) ≡ true
ended-after [] e = e
ended-after (x ∷ s) e = go (eqb x LF) refl (ended-after s)
  where
    go : (u : Bool) → eqb x LF ≡ u → (ended s ≡ true → ended (after LF s) ≡ true) → ended (cond u s (after LF s)) ≡ true
    go true q ih = ends_on x s q e
    go false q ih = ih (goes_on_lem x s q e).1

-- ---- lines, each ended by LF, one after another

abbrev pub ended_line : List ℕ → List ℕ
ended_line l = l ++ (LF ∷ [])

abbrev pub joined : List (List ℕ) → List ℕ
joined ls = flat ended_line ls

pub last-append : (x : ℕ) (s t : List ℕ) → last x (s ++ t) ≡ last (last x s) t
last-append x [] t = refl
last-append x (y ∷ s) t = last-append y s t

last-joined : (ls : List (List ℕ)) → last LF (joined ls) ≡ LF
last-joined [] = refl
last-joined (l ∷ ls) =
    last-append LF (ended_line l) (joined ls) ∙ ap (λ (x : ℕ). last x (joined ls)) (last-append LF l (LF ∷ [])) ∙ last-joined ls

pub joined-ended : (ls : List (List ℕ)) → ended (joined ls) ≡ true
joined-ended ls = rw (last-joined ls)

pub lines_at : (s t : List ℕ) → (LF ∈ s → ⊥) → lines (s ++ (LF ∷ t)) ≡ s ∷ lines t
lines_at [] t f = refl
lines_at (x ∷ s) t f = rw (ne_eqb x LF (λ e. f (here (sym e)))) (ap (onto x) (lines_at s t (λ m. f (there m))))

-- the lines of joined lines are these lines
pub joined-lines : (ls : List (List ℕ)) → ((l : List ℕ) → l ∈ ls → LF ∈ l → ⊥) → lines (joined ls) ≡ ls
joined-lines [] f = refl
joined-lines (l ∷ ls) f =
    ap lines (append_snoc l LF (joined ls)) ∙ lines_at l (joined ls) (f l (here refl))
    ∙ ap (λ (r : List (List ℕ)). l ∷ r) (joined-lines ls (λ k m. f k (there m)))

-- the lines of an ended text, joined, are the text
pub lines-joined : (s : List ℕ) → ended s ≡ true → joined (lines s) ≡ s
lines-joined [] e = refl
lines-joined (x ∷ s) e = go (eqb x LF) refl (lines-joined s)
  where
    go : (u : Bool) → eqb x LF ≡ u → (ended s ≡ true → joined (lines s) ≡ s) → joined (cond u ([] ∷ lines s) (onto x (lines s))) ≡ x ∷ s
    go true q ih = ap (λ (r : List ℕ). LF ∷ r) (ih (ends_on x s q e)) ∙ ap (λ (y : ℕ). y ∷ s) (sym (eqb-true x LF q))
    go false q ih =
        let g = goes_on_lem x s q e in
        let step : lines s ≡ before LF s ∷ lines (after LF s) = lines_step s g.0 g.1 in
        ap (λ (ls : List (List ℕ)). joined (onto x ls)) step ∙ ap (λ (r : List ℕ). x ∷ r) (sym (ap joined step) ∙ ih g.1)
