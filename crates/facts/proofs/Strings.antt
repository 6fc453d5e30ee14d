-- Lists that hang together: what they tell, and what one line more does to them. Over any way to read a field. n is the new record, r
-- its parent, p its forerunner, the last child so far; q is another parent; b is the one before the rest ks of a list, m a record, k a
-- child or a field, a a fact. Assumes nothing.
use mathlib.Core.Path.{◌≡◌, refl, sym, ap, ◌∙◌, subst}
use mathlib.Core.Logic.{◌⊎◌, inl, inr}
use mathlib.Core.List.Memᴰ
use mathlib.Core.List.Memᴰ.{head as here}
use mathlib.Core.List.Memᴰ.{tail as there}
use mathlib.Core.List.{List, [], ◌∷◌, ◌++◌}
use Prim.Native.Nat.{ℕ, ◌<◌, ◌≤◌}
use native.Mathlib.Omega.{arith}
use native.Mathlib.Decide.{ℕ_discrete}
use lib.Dec.{T}
use borrow.Author.Tests.{eq-eqb, ne_eqb}
use Rattle.rules.specs.Lists.{◌∈◌}
use Rattle.rules.specs.Marks.{START, END, is_record}
use Rattle.rules.specs.Text.{last}
use Rattle.rules.specs.Facts.{PositionFact, list_facts}
use Rattle.trees.proofs.Marks.{record_high}
use Rattle.facts.specs.Memory.{WIDTH, PARENT, FORERUNNER, FOLLOWER, FIRST, LAST, who, way}
use Rattle.facts.specs.Holds.{Strung}

-- ---- where a follower lies

-- either START's follower or a record's
abbrev pub Ways : ℕ → Type 0
Ways b = ((b ≡ START) × (way b ≡ FIRST)) ⊎ ((b ≡ START → ⊥) × (way b ≡ FOLLOWER))

pub ways : (b : ℕ) → Ways b
ways b = elim (ℕ_discrete b START) [ yes e ↦ inl (e, rw (eq-eqb b START e)) | no e ↦ inr (e, rw (ne_eqb b START e)) ]

pub who_parent : (r b : ℕ) → b ≡ START → who r b ≡ r
who_parent r b e = rw (eq-eqb b START e)

pub who_itself : (r b : ℕ) → (b ≡ START → ⊥) → who r b ≡ b
who_itself r b e = rw (ne_eqb b START e)

pub way_is : (b : ℕ) → (FOLLOWER ≤ way b) × (way b ≤ FIRST)
way_is b = elim (ways b) [ inl w ↦ (omega (arith, w.1), omega (arith, w.1)) | inr w ↦ (omega (arith, w.1), omega (arith, w.1)) ]

-- the record or parent on whose line the follower of b lies is known
pub known_who : (Known : ℕ → Type 0) (q b : ℕ) → Known q → (b ≡ START) ⊎ Known b → Known (who q b)
known_who Known q b kq kb = go (ways b) kb
  where
    go : Ways b → (b ≡ START) ⊎ Known b → Known (who q b)
    go (inl w) s = subst Known (sym (who_parent q b w.0)) kq
    go (inr w) (inl e) = absurd (w.0 e)
    go (inr w) (inr k) = subst Known (sym (who_itself q b w.0)) k

-- ---- what a list tells

module _ (get : ℕ → ℕ → ℕ) (r : ℕ) where
  -- nothing comes after the last child, and the parent knows it
  pub strung_end : (b : ℕ) (ks : List ℕ) → Strung get r b ks
      → (get (who r (last b ks)) (way (last b ks)) ≡ END) × (get r LAST ≡ last b ks)
  strung_end b [] s = s
  strung_end b (k ∷ ks) s = strung_end k ks s.3

  -- b stands in the list of r
  abbrev pub Hung : ℕ → Type 0
  Hung b = (b ≡ START) ⊎ (get b PARENT ≡ r)

  pub strung_last : (b : ℕ) (ks : List ℕ) → Strung get r b ks → Hung b → Hung (last b ks)
  strung_last b [] s h = h
  strung_last b (k ∷ ks) s h = strung_last k ks s.3 (inr s.2)

  pub strung_parent : (b : ℕ) (ks : List ℕ) → Strung get r b ks → (m : ℕ) → m ∈ ks → get m PARENT ≡ r
  strung_parent b [] s m i = absurd (Memᴰ.not-nil i)
  strung_parent b (k ∷ ks) s m (here e) = ap (λ (j : ℕ). get j PARENT) e ∙ s.2
  strung_parent b (k ∷ ks) s m (there i) = strung_parent k ks s.3 m i

  -- its facts, forwards
  pub strung_after : (b : ℕ) (ks : List ℕ) → Strung get r b ks → (a : PositionFact) → a ∈ list_facts r b ks
      → get (who r a.before) (way a.before) ≡ a.after
  strung_after b [] s a (here e) = (λ i. get (who r (e i).before) (way (e i).before)) ∙ s.0 ∙ (λ i. (sym e i).after)
  strung_after b [] s a (there m) = absurd (Memᴰ.not-nil m)
  strung_after b (k ∷ ks) s a (here e) = (λ i. get (who r (e i).before) (way (e i).before)) ∙ s.0 ∙ (λ i. (sym e i).after)
  strung_after b (k ∷ ks) s a (there m) = strung_after k ks s.3 a m

  -- and backwards
  pub strung_before : (b : ℕ) (ks : List ℕ) → Strung get r b ks → (a : PositionFact) → a ∈ list_facts r b ks
      → ((a.after ≡ END) × (get r LAST ≡ a.before)) ⊎ ((a.after ∈ ks) × (get a.after FORERUNNER ≡ a.before))
  strung_before b [] s a (here e) = inl ((λ i. (e i).after), s.1 ∙ (λ i. (sym e i).before))
  strung_before b [] s a (there m) = absurd (Memᴰ.not-nil m)
  strung_before b (k ∷ ks) s a (here e) =
      inr (here (λ i. (e i).after), (λ i. get (e i).after FORERUNNER) ∙ s.1 ∙ (λ i. (sym e i).before))
  strung_before b (k ∷ ks) s a (there m) =
      elim (strung_before k ks s.3 a m) [ inl w ↦ inl w | inr w ↦ inr (there w.0, w.1) ]

-- ---- one line more

-- a field that no later line writes: neither a follower nor a first or last child
abbrev pub Aside : ℕ → Type 0
Aside k = (k < FOLLOWER) ⊎ (LAST < k)

module _ (get get' : ℕ → ℕ → ℕ) (Known : ℕ → Type 0) (n r p : ℕ) where
  -- which fields changed: n follows p under r now, on a line of its own
  pub record Grown : Type 0 where
    pub same : (m k : ℕ) → Known m → k < WIDTH → ((m ≡ r) × (k ≡ LAST) → ⊥) → ((m ≡ who r p) × (k ≡ way p) → ⊥) → get' m k ≡ get m k
    pub turned : get' (who r p) (way p) ≡ n
    pub ended : get' r LAST ≡ n
    pub parent : get' n PARENT ≡ r
    pub forerunner : get' n FORERUNNER ≡ p
    pub follower : get' n FOLLOWER ≡ END
    pub first : get' n FIRST ≡ END
    pub last_child : get' n LAST ≡ START

  pub aside_same : Grown → (m k : ℕ) → Known m → k < WIDTH → Aside k → get' m k ≡ get m k
  aside_same g m k km low s = g.same m k km low (λ w. off_last s w.1) (λ w. off_way s w.1)
    where
      off_last : Aside k → k ≡ LAST → ⊥
      off_last (inl a) e = omega arith
      off_last (inr a) e = omega arith

      off_way : Aside k → k ≡ way p → ⊥
      off_way (inl a) e = omega (arith, (way_is p).0)
      off_way (inr a) e = omega (arith, (way_is p).1)

  module _ (g : Grown) (under : Known r) (record_n : T (is_record n)) where
    not_start : n ≡ START → ⊥
    not_start e = omega (arith, record_high n record_n)

    -- a follower that is not written stays
    follower-same : (q b : ℕ) → Known q → (b ≡ START) ⊎ Known b → ((who q b ≡ who r p) × (way b ≡ way p) → ⊥)
        → get' (who q b) (way b) ≡ get (who q b) (way b)
    follower-same q b kq kb other =
        g.same (who q b) (way b) (known_who Known q b kq kb) (omega (arith, (way_is b).1)) (λ w. omega (arith, (way_is b).1, w.1)) other

    forerunner_same : (m : ℕ) → Known m → get' m FORERUNNER ≡ get m FORERUNNER
    forerunner_same m km = aside_same g m FORERUNNER km (omega arith) (inl (omega arith))

    parent_same : (m : ℕ) → Known m → get' m PARENT ≡ get m PARENT
    parent_same m km = aside_same g m PARENT km (omega arith) (inl (omega arith))

    -- the list that grows: the field that is written held END, and no inner one does
    pub grown : (b : ℕ) (ks : List ℕ) → Strung get r b ks → get (who r p) (way p) ≡ END → last b ks ≡ p → (b ≡ START) ⊎ Known b
        → ((k : ℕ) → k ∈ ks → Known k × T (is_record k)) → Strung get' r b (ks ++ (n ∷ []))
    grown b [] s shut e kb kk = (
      subst (λ (z : ℕ). get' (who r z) (way z) ≡ n) (sym e) g.turned,
      g.forerunner ∙ sym e,
      g.parent,
      ((λ i. get' (who_itself r n not_start i) (way-n i)) ∙ g.follower, g.ended),
    )
      where
        way-n : way n ≡ FOLLOWER
        way-n = rw (ne_eqb n START not_start)
    grown b (k ∷ ks) s shut e kb kk = (
      follower-same r b under kb inner ∙ s.0,
      forerunner_same k (kk k (here refl)).0 ∙ s.1,
      parent_same k (kk k (here refl)).0 ∙ s.2,
      grown k ks s.3 shut e (inr (kk k (here refl)).0) (λ j m. kk j (there m)),
    )
      where
        inner : (who r b ≡ who r p) × (way b ≡ way p) → ⊥
        inner w =
            let z : k ≡ END = sym s.0 ∙ (λ i. get (w.0 i) (w.1 i)) ∙ shut in
            omega (arith, record_high k (kk k (here refl)).1)

    -- another list: it shares no child with that of r, since a child has one parent
    apart : (q b : ℕ) → (q ≡ r → ⊥) → Hung get r p → Hung get q b → (who q b ≡ who r p) × (way b ≡ way p) → ⊥
    apart q b ne hp hb w = go (ways b) (ways p)
      where
        side : b ≡ p → (b ≡ START → ⊥) → (p ≡ START → ⊥) → Hung get q b → Hung get r p → ⊥
        side e x y (inl z) h = x z
        side e x y (inr z) (inl h) = y h
        side e x y (inr z) (inr h) = ne (sym z ∙ ap (λ (j : ℕ). get j PARENT) e ∙ h)

        go : Ways b → Ways p → ⊥
        go (inl x) (inl y) = ne (sym (who_parent q b x.0) ∙ w.0 ∙ who_parent r p y.0)
        go (inl x) (inr y) = omega (arith, w.1, x.1, y.1)
        go (inr x) (inl y) = omega (arith, w.1, x.1, y.1)
        go (inr x) (inr y) = side (sym (who_itself q b x.0) ∙ w.0 ∙ who_itself r p y.0) x.0 y.0 hb hp

    pub framed : (q : ℕ) → Known q → (q ≡ r → ⊥) → Hung get r p → (b : ℕ) (ks : List ℕ) → Strung get q b ks → (b ≡ START) ⊎ Known b
        → Hung get q b → ((k : ℕ) → k ∈ ks → Known k × T (is_record k)) → Strung get' q b ks
    framed q kq ne hp b [] s kb hb kk = (
      follower-same q b kq kb (apart q b ne hp hb) ∙ s.0,
      g.same q LAST kq (omega arith) (λ w. ne w.0) (λ w. omega (arith, (way_is p).1, w.1)) ∙ s.1,
    )
    framed q kq ne hp b (k ∷ ks) s kb hb kk = (
      follower-same q b kq kb (apart q b ne hp hb) ∙ s.0,
      forerunner_same k (kk k (here refl)).0 ∙ s.1,
      parent_same k (kk k (here refl)).0 ∙ s.2,
      framed q kq ne hp k ks s.3 (inr (kk k (here refl)).0) (inr s.2) (λ j m. kk j (there m)),
    )

    -- the new record's own list
    pub started : Strung get' n START []
    started = (g.first, g.last_child)
