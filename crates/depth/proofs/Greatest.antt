-- The greatest depth that climbing finds in memory is that of the table which memory holds. ls and fs are the arrays, t is the table, x
-- a row, n a record, l and k are lines. Assumes nothing.
use mathlib.Core.Path.{◌≡◌, refl, sym, ap, ◌∙◌}
use mathlib.Core.List.Memᴰ.{head as here}
use mathlib.Core.List.Memᴰ.{tail as there}
use mathlib.Core.List.{List, ◌∷◌}
use Prim.Native.Nat.{ℕ, zero, suc, max, ◌+◌, ◌*◌, ◌<◌, ◌≤◌}
use native.Mathlib.Omega.{arith}
use native.Mathlib.Decide.{ℕ_discrete}
use lib.ListN.{get_or, length}
use Rattle.rules.specs.Lists.{◌∈◌}
use Rattle.rules.specs.Marks.{TOP}
use Rattle.rules.specs.Line.{Row}
use Rattle.rules.specs.Table.{numbers}
use Rattle.rules.specs.Tree.{greatest_depth}
use Rattle.rules.specs.Demands.{Readable}
use Rattle.trees.proofs.Deepest.{depth_in, depth_top, depth_one, greatest_each, greatest_least}
use Rattle.trees.proofs.OneTable.{number_row, row_number}
use Rattle.facts.specs.Memory.{ROOM, WIDTH, NUMBER, PARENT, line_at, field}
use Rattle.facts.specs.Holds.{Holds}
use Rattle.facts.proofs.Shown.{row_parent, row_parent_field, top_line}
use Rattle.depth.specs.Climbing.{up_line, depth_on, greatest_on, Climbs}
use Rattle.depth.proofs.Climbs.{climb_top, climb_more}

module _ (ls fs : List ℕ) (t : List Row) (h : Holds ls fs t) (r : Readable t) (few : length t < ROOM) where
  -- the record on a line
  abbrev on : ℕ → ℕ
  on l = get_or fs (l * WIDTH + NUMBER) 0

  on_known : (l : ℕ) → 0 < l → l ≤ length t → on l ∈ numbers t
  on_known l a b = let e = h.lined l b in h.only (on l) (omega arith)

  up_is : (n l : ℕ) → line_at ls n ≡ l → up_line ls fs l ≡ line_at ls (field ls fs n PARENT)
  up_is n l e = ap (λ (k : ℕ). line_at ls (get_or fs (k * WIDTH + PARENT) 0)) (sym e)

  -- memory that holds a table can be climbed
  pub climbs : Climbs ls fs (length t)
  climbs = record { room = few; up = up }
    where
      up : (l : ℕ) → 0 < l → l ≤ length t → up_line ls fs l < l
      up l a b =
          let e = h.lined l b in
          omega (arith, up_is (on l) l e, h.earlier (on l) (on_known l a b), e)

  climbs_to : (l : ℕ) → l ≤ length t → Climbs ls fs l
  climbs_to l b = record { room = omega arith; up = λ k p q. climbs.up k p (omega arith) }

  -- a record's depth is that of its line
  line-depth : (b n : ℕ) → line_at ls n < b → n ∈ TOP ∷ numbers t → depth_on ls fs (line_at ls n) ≡ depth_in t r n
  line-depth zero n a m = absurd (omega arith)
  line-depth (suc b) n a (here e) =
      let z : line_at ls n ≡ 0 = ap (line_at ls) e ∙ top_line ls fs t h r in
      sym (climb_top ls fs (line_at ls n) z) ∙ sym (depth_top t r) ∙ ap (depth_in t r) (sym e)
  line-depth (suc b) n a (there m) = go (line-depth b) (number_row t n m)
    where
      l : ℕ
      l = line_at ls n

      go : ((k : ℕ) → line_at ls k < b → k ∈ TOP ∷ numbers t → depth_on ls fs (line_at ls k) ≡ depth_in t r k)
          → (x : Row) × (x ∈ t) × (x.number ≡ n) → depth_on ls fs l ≡ depth_in t r n
      go ih w =
          let x = w.0 in
          let parent : field ls fs n PARENT ≡ x.parent =
          ap (λ (k : ℕ). field ls fs k PARENT) (sym w.2) ∙ row_parent_field ls fs t h r x w.1 in
          let up : up_line ls fs l ≡ line_at ls x.parent = up_is n l refl ∙ ap (line_at ls) parent in
          let low = climbs.up l (h.known n m) (h.few n) in
          climb_more ls fs l (climbs_to l (h.few n)) (λ e. let k = h.known n m in omega arith)
          ∙ ap (λ (k : ℕ). suc (depth_on ls fs k)) up ∙ ap suc (ih x.parent (omega arith) (row_parent t r x w.1))
          ∙ sym (depth_one t r x w.1) ∙ ap (depth_in t r) w.2

  -- ---- the greatest

  line_in : (k l : ℕ) → 0 < k → k ≤ l → depth_on ls fs k ≤ greatest_on ls fs l
  line_in k zero a b = absurd (omega arith)
  line_in k (suc l) a b = go (ℕ_discrete k (suc l)) (line_in k l a)
    where
      go : Dec (k ≡ suc l) → (k ≤ l → depth_on ls fs k ≤ greatest_on ls fs l)
          → depth_on ls fs k ≤ max (greatest_on ls fs l) (depth_on ls fs (suc l))
      go (yes e) ih = let q : depth_on ls fs k ≡ depth_on ls fs (suc l) = ap (depth_on ls fs) e in omega arith
      go (no e) ih = omega (arith, ih (omega arith))

  none_deeper : (l : ℕ) → l ≤ length t → greatest_on ls fs l ≤ greatest_depth t
  none_deeper zero b = omega arith
  none_deeper (suc l) b =
      let m = on_known (suc l) (omega arith) b in
      let w = number_row t (on (suc l)) m in
      let e = h.lined (suc l) b in
      let d : depth_on ls fs (suc l) ≡ depth_in t r w.0.number =
      ap (depth_on ls fs) (sym e) ∙ line-depth (suc (line_at ls (on (suc l)))) (on (suc l)) (omega arith) (there m)
      ∙ ap (depth_in t r) (sym w.2) in
      omega (arith, none_deeper l (omega arith), greatest_each t r w.0 w.1, d)

  pub greatest : greatest_on ls fs (length t) ≡ greatest_depth t
  greatest =
      let p = none_deeper (length t) (omega arith) in
      let q = greatest_least t r (greatest_on ls fs (length t)) (λ x m.
      let k = row_number t x m in
      let d = line-depth (suc (line_at ls x.number)) x.number (omega arith) (there k) in
      omega (arith, d, line_in (line_at ls x.number) (length t) (h.known x.number k) (h.few x.number))) in
      omega arith
