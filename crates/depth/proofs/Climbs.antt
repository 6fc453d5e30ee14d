-- Climbing, step by step: steps enough change nothing, and a noted depth stays right. ls and fs are a table's arrays, l is a line, ds
-- are the depths noted so far. Assumes nothing.
use mathlib.Core.Path.{◌≡◌, refl, sym, ap, ◌∙◌}
use mathlib.Core.List.{List}
use Prim.Native.Nat.{ℕ, zero, suc, ◌+◌, ◌<◌, ◌≤◌}
use native.Mathlib.Omega.{arith}
use native.Mathlib.Numerals.{add-one}
use native.Mathlib.Decide.{ℕ_discrete}
use lib.ListN.{get_or, set, length, replicate}
use lib.Seq.{get_or-set_same, get_or-set_other}
use borrow.Author.Tests.{eq-eqb, ne_eqb}
use Rattle.facts.specs.Memory.{ROOM, PARENT, line_at, field_on}
use Rattle.depth.specs.Climbing.{up_line, climb, depth_on, Climbs, Noted}

-- ---- steps

module _ (ls fs : List ℕ) where
  pub up_is : (l parent up : ℕ) → parent ≡ field_on fs l PARENT → up ≡ line_at ls parent → up ≡ up_line ls fs l
  up_is l parent up e f = f ∙ ap (line_at ls) e

  pub climb_top : (l : ℕ) → l ≡ 0 → 0 ≡ depth_on ls fs l
  unfolding climb
  climb_top l e = rw (eq-eqb l 0 e)

  more : (f l : ℕ) → (l ≡ 0 → ⊥) → climb (suc f) ls fs l ≡ suc (climb f ls fs (up_line ls fs l))
  unfolding climb
  more f l e = rw (ne_eqb l 0 e)

  none : (f g l : ℕ) → l ≡ 0 → climb (suc f) ls fs l ≡ climb (suc g) ls fs l
  unfolding climb
  none f g l e = rw (eq-eqb l 0 e)

  module _ (top : ℕ) (c : Climbs ls fs top) where
    enough : (f g l : ℕ) → l < f → l < g → l ≤ top → climb f ls fs l ≡ climb g ls fs l
    enough zero g l hf hg h = absurd (omega arith)
    enough (suc f) zero l hf hg h = absurd (omega arith)
    enough (suc f) (suc g) l hf hg h = go (enough f g) (ℕ_discrete l 0)
      where
        go : ((k : ℕ) → k < f → k < g → k ≤ top → climb f ls fs k ≡ climb g ls fs k) → Dec (l ≡ 0)
            → climb (suc f) ls fs l ≡ climb (suc g) ls fs l
        go ih (yes e) = none f g l e
        go ih (no e) =
            let u = c.up l (omega arith) h in
            more f l e ∙ ap suc (ih (up_line ls fs l) (omega arith) (omega arith) (omega arith)) ∙ sym (more g l e)

  -- one more than its parent's
  pub climb_more : (l : ℕ) → Climbs ls fs l → (l ≡ 0 → ⊥) → depth_on ls fs l ≡ suc (depth_on ls fs (up_line ls fs l))
  climb_more l c e =
      let u = c.up l (omega arith) (omega arith) in
      more l l e ∙ ap suc (enough l c l (suc (up_line ls fs l)) (up_line ls fs l) (omega arith) (omega arith) (omega arith))

  -- no deeper than its line
  pub climb-le : (l : ℕ) → Climbs ls fs l → depth_on ls fs l ≤ l
  unfolding climb
  climb-le l c = go (suc l) l (omega arith)
    where
      go : (f k : ℕ) → k ≤ l → climb f ls fs k ≤ k
      go zero k h = omega arith
      go (suc f) k h = step (go f) (ℕ_discrete k 0)
        where
          step : ((j : ℕ) → j ≤ l → climb f ls fs j ≤ j) → Dec (k ≡ 0) → climb (suc f) ls fs k ≤ k
          step ih (yes e) = rw (eq-eqb k 0 e) (omega arith)
          step ih (no e) = let u = c.up k (omega arith) h in omega (arith, more f k e, ih (up_line ls fs k) (omega arith))

  -- the parent's line can be climbed from as well
  pub climbs_up : (l u : ℕ) → Climbs ls fs l → (l ≡ 0 → ⊥) → u ≡ up_line ls fs l → Climbs ls fs u
  climbs_up l u c e q =
      let h = c.up l (omega arith) (omega arith) in
      record { room = omega (arith, c.room, q); up = λ k a b. c.up k a (omega (arith, q)) }

  pub up_lt : (l u : ℕ) → Climbs ls fs l → (l ≡ 0 → ⊥) → u ≡ up_line ls fs l → u < l
  up_lt l u c e q = let h = c.up l (omega arith) (omega arith) in omega (arith, q)

  pub one_more : (l u d : ℕ) → Climbs ls fs l → (l ≡ 0 → ⊥) → u ≡ up_line ls fs l → d ≡ depth_on ls fs u → d + 1 ≡ depth_on ls fs l
  one_more l u d c e q h = add-one d ∙ ap suc (h ∙ ap (depth_on ls fs) q) ∙ sym (climb_more l c e)

  -- ---- notes

  pub noted_here : (ds : List ℕ) (l v : ℕ) → Noted ls fs ds → v ≡ get_or ds l 0 → 0 < v → v ≡ depth_on ls fs l
  noted_here ds l v w e h = e ∙ w.right l (omega arith)

  pub noted_none : Noted ls fs (replicate ROOM 0)
  noted_none = record { right = λ l h. absurd (omega (arith, zeros ROOM l)) }
    where
      zeros : (n k : ℕ) → get_or (replicate {A = ℕ} n 0) k 0 ≡ 0
      zeros zero k = refl
      zeros (suc n) zero = refl
      zeros (suc n) (suc k) = zeros n k

  -- one more depth is noted
  pub noted_more : (ds : List ℕ) (l d : ℕ) → Noted ls fs ds → l < length ds → d ≡ depth_on ls fs l → Noted ls fs (set ds l d)
  noted_more ds l d w h e = record { right = λ k. go k (ℕ_discrete k l) }
    where
      go : (k : ℕ) → Dec (k ≡ l) → 0 < get_or (set ds l d) k 0 → get_or (set ds l d) k 0 ≡ depth_on ls fs k
      go k (yes q) i = ap (λ (j : ℕ). get_or (set ds l d) j 0) q ∙ get_or-set_same ds l d 0 h ∙ e ∙ ap (depth_on ls fs) (sym q)
      go k (no q) i = let s = get_or-set_other ds l k d 0 q in s ∙ w.right k (omega arith)

  -- ---- the first lines

  -- each of the first lines can be climbed from as well
  pub climbs_line : (count l : ℕ) → Climbs ls fs count → l < count → Climbs ls fs (l + 1)
  climbs_line count l c h = record { room = omega (arith, c.room); up = λ k a b. c.up k a (omega arith) }

pub ruleset climbing = (climb_top, climb-le, up_lt, one_more, noted_here, noted_more)
