-- Plain bytes passed over: a run of them, and what stands behind it. p are plain bytes, s, t and r parts of a text, b a byte that is not
-- plain, x a byte. Assumes nothing.
use mathlib.Core.Path.{◌≡◌, refl, ap}
use mathlib.Core.Bool.{Bool, true, false, cond, not}
use mathlib.Core.List.{List, [], ◌∷◌, ◌++◌}
use Prim.Native.Nat.{ℕ, suc}
use lib.Dec.{T, eqb}
use lib.ListN.{get_or, take, drop}
use mir.Facts.{T_not, and_yes}
use borrow.Author.Tests.{ne_eqb}
use Rattle.rules.specs.Lists.{every}
use Rattle.rules.specs.Text.{TAB, LF, allowed, count, before, after}
use Rattle.text.specs.Reads.{plain, plain_run}

is_true : (u : Bool) → T u → u ≡ true
is_true true h = refl
is_true false h = absurd h

-- ---- one byte

differs : (b x : ℕ) → T (not (plain b)) → T (plain x) → eqb x b ≡ false
differs b x n h = ne_eqb x b (λ e. let k : T (plain b) = rw e at h in T_not (plain b) k n)

plain-allowed : (x : ℕ) → T (plain x) → allowed x ≡ true
plain-allowed x h = rw (differs TAB x tt h) (is_true (plain x) h)

-- ---- plain bytes before others

module _ (b : ℕ) (n : T (not (plain b))) where
  pub before-plain : (p r : List ℕ) → T (every plain p) → before b (p ++ r) ≡ p ++ before b r
  before-plain [] r h = refl
  before-plain (x ∷ p) r h =
      let a = and_yes (plain x) (every plain p) h in
      rw (differs b x n a.0) (ap (λ (t : List ℕ). x ∷ t) (before-plain p r a.1))

  pub after-plain : (p r : List ℕ) → T (every plain p) → after b (p ++ r) ≡ after b r
  after-plain [] r h = refl
  after-plain (x ∷ p) r h =
      let a = and_yes (plain x) (every plain p) h in
      rw (differs b x n a.0) (after-plain p r a.1)

  pub count-plain : (p r : List ℕ) → T (every plain p) → count b (p ++ r) ≡ count b r
  count-plain [] r h = refl
  count-plain (x ∷ p) r h =
      let a = and_yes (plain x) (every plain p) h in
      rw (differs b x n a.0) (count-plain p r a.1)

pub allowed-plain : (p r : List ℕ) → T (every plain p) → every allowed (p ++ r) ≡ every allowed r
allowed-plain [] r h = refl
allowed-plain (x ∷ p) r h =
    let a = and_yes (plain x) (every plain p) h in
    rw (plain-allowed x a.0) (allowed-plain p r a.1)

-- ---- the run that a text starts with

pub run_plain : (s : List ℕ) → T (every plain (take (plain_run s) s))
run_plain [] = tt
run_plain (x ∷ s) = go (plain x) refl (run_plain s)
  where
    go : (u : Bool) → plain x ≡ u → T (every plain (take (plain_run s) s)) → T (every plain (take (cond u (suc (plain_run s)) 0) (x ∷ s)))
    go true q h = rw q h
    go false q h = tt

-- the byte behind the run is not plain
pub run_stops : (s : List ℕ) → plain (get_or s (plain_run s) LF) ≡ false
run_stops [] = refl
run_stops (x ∷ s) = go (plain x) refl (run_stops s)
  where
    go : (u : Bool) → plain x ≡ u → plain (get_or s (plain_run s) LF) ≡ false
        → plain (get_or (x ∷ s) (cond u (suc (plain_run s)) 0) LF) ≡ false
    go true q h = h
    go false q h = q

-- what is left behind the run starts with the byte there; nothing is left only where that byte is given as an LF
pub run_next : (s : List ℕ) → (get_or s (plain_run s) LF ≡ LF → ⊥)
    → drop (plain_run s) s ≡ get_or s (plain_run s) LF ∷ drop (suc (plain_run s)) s
run_next [] n = absurd (n refl)
run_next (x ∷ s) n = go (plain x) (run_next s) n
  where
    go : (u : Bool) → ((get_or s (plain_run s) LF ≡ LF → ⊥) → drop (plain_run s) s ≡ get_or s (plain_run s) LF ∷ drop (suc (plain_run s)) s)
        → (get_or (x ∷ s) (cond u (suc (plain_run s)) 0) LF ≡ LF → ⊥)
        → drop (cond u (suc (plain_run s)) 0) (x ∷ s)
        ≡ get_or (x ∷ s) (cond u (suc (plain_run s)) 0) LF ∷ drop (suc (cond u (suc (plain_run s)) 0)) (x ∷ s)
    go true ih m = ih m
    go false ih m = refl
