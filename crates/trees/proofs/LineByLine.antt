-- The position facts of a table as a reader meets them, line by line: a line's record follows the last child so far of its parent. `seen`
-- are the rows of the lines so far, t is a table, x and y are rows, r is a parent, p the one before, n a record, ns the numbers of a list,
-- a a fact. Assumes nothing.
use mathlib.Core.Path.{◌≡◌, refl, sym, ap, ◌∙◌, subst}
use mathlib.Core.Logic.{◌⊎◌, inl, inr}
use mathlib.Core.Bool.{not}
use mathlib.Core.List.Memᴰ
use mathlib.Core.List.Memᴰ.{head as here}
use mathlib.Core.List.Memᴰ.{tail as there}
use mathlib.Core.List.{List, [], ◌∷◌, ◌++◌, append-nil}
use Prim.Native.Nat.{ℕ}
use lib.Dec.{T, eqb, eqb_refl, eqb→eq}
use Rattle.rules.specs.Lists.{◌∈◌}
use Rattle.rules.specs.Marks.{END, START, TOP}
use Rattle.rules.specs.Text.{last}
use Rattle.rules.specs.Line.{Row}
use Rattle.rules.specs.Table.{numbers}
use Rattle.rules.specs.Tree.{child_numbers}
use Rattle.rules.specs.Facts.{PositionFact, list_facts, position}
use Rattle.rules.specs.Demands.{Rooted}
use Rattle.trees.proofs.Lists.{either, put_no, put_yes}
use Rattle.trees.proofs.Trees.{children-append}

-- ---- as a reader meets them

-- the position fact of the line y, after the lines `seen`
unfoldable pub line_fact : List Row → Row → PositionFact
line_fact seen y = position y.parent (last START (child_numbers y.parent seen)) y.number

-- ---- a list's facts without the closing one

abbrev pub open_facts : ℕ → ℕ → List ℕ → List PositionFact
open_facts r p [] = []
open_facts r p (n ∷ ns) = position r p n ∷ open_facts r n ns

pub list_closed : (r p : ℕ) (ns : List ℕ) → list_facts r p ns ≡ open_facts r p ns ++ (position r (last p ns) END ∷ [])
list_closed r p [] = refl
list_closed r p (n ∷ ns) = ap (λ (l : List PositionFact). position r p n ∷ l) (list_closed r n ns)

open_more : (r p n : ℕ) (ns : List ℕ) → open_facts r p (ns ++ (n ∷ [])) ≡ open_facts r p ns ++ (position r (last p ns) n ∷ [])
open_more r p n [] = refl
open_more r p n (m ∷ ns) = ap (λ (l : List PositionFact). position r p m ∷ l) (open_more r m n ns)

-- every child follows something
pub open_before : (r p s : ℕ) (ns : List ℕ) → s ∈ ns → (b : ℕ) × (position r b s ∈ open_facts r p ns)
open_before r p s [] m = absurd (Memᴰ.not-nil m)
open_before r p s (n ∷ ns) (here e) = (p, here (ap (position r p) e))
open_before r p s (n ∷ ns) (there m) = let w = open_before r n s ns m in (w.0, there w.1)

-- open facts are facts of the list
pub open_list : (r p : ℕ) (ns : List ℕ) (a : PositionFact) → a ∈ open_facts r p ns → a ∈ list_facts r p ns
open_list r p ns a m =
    subst (λ (l : List PositionFact). a ∈ l) (sym (list_closed r p ns)) (Memᴰ.append_left (position r (last p ns) END ∷ []) m)

-- an open fact of the list of its parent
abbrev pub Open : List Row → PositionFact → Type 0
Open t a = a ∈ open_facts a.parent START (child_numbers a.parent t)

-- ---- one line more

pub children_more : (seen : List Row) (y : Row)
    → child_numbers y.parent (seen ++ (y ∷ [])) ≡ child_numbers y.parent seen ++ (y.number ∷ [])
children_more seen y =
    children-append y.parent seen (y ∷ [])
    ∙ ap (λ (l : List Row). child_numbers y.parent seen ++ numbers l) (put_yes (eqb y.parent y.parent) y [] (eqb_refl y.parent))

pub children-same : (seen : List Row) (y : Row) (r : ℕ) → T (not (eqb y.parent r))
    → child_numbers r (seen ++ (y ∷ [])) ≡ child_numbers r seen
children-same seen y r t =
    children-append r seen (y ∷ [])
    ∙ ap (λ (l : List Row). child_numbers r seen ++ numbers l) (put_no (eqb y.parent r) y [] t) ∙ append-nil (child_numbers r seen)

-- the facts of its parent's list: one more; of another list: the same
module _ (seen : List Row) (y : Row) where
  abbrev before : ℕ → List PositionFact
  before r = open_facts r START (child_numbers r seen)

  abbrev now : ℕ → List PositionFact
  now r = open_facts r START (child_numbers r (seen ++ (y ∷ [])))

  open_yes : (r : ℕ) → y.parent ≡ r → now r ≡ before r ++ (line_fact seen y ∷ [])
  unfolding line_fact
  open_yes r e =
      subst (λ (q : ℕ). now q ≡ before q ++ (line_fact seen y ∷ [])) e
      (ap (open_facts y.parent START) (children_more seen y) ∙ open_more y.parent START y.number (child_numbers y.parent seen))

  open_no : (r : ℕ) → T (not (eqb y.parent r)) → now r ≡ before r
  open_no r t = ap (open_facts r START) (children-same seen y r t)

module _ (seen : List Row) (y : Row) (a : PositionFact) where
  abbrev Mine : Type 0
  Mine = T (eqb y.parent a.parent) ⊎ T (not (eqb y.parent a.parent))

  pub line_out : Open (seen ++ (y ∷ [])) a → Open seen a ⊎ (a ≡ line_fact seen y)
  line_out m = go (either (eqb y.parent a.parent))
    where
      this_line : Open seen a ⊎ (a ∈ line_fact seen y ∷ []) → Open seen a ⊎ (a ≡ line_fact seen y)
      this_line (inl k) = inl k
      this_line (inr k) = inr (Memᴰ.eq_of_singleton k)

      go : Mine → Open seen a ⊎ (a ≡ line_fact seen y)
      go (inr t) = inl (subst (λ (l : List PositionFact). a ∈ l) (open_no seen y a.parent t) m)
      go (inl t) =
          let e = open_yes seen y a.parent (eqb→eq y.parent a.parent t) in
          this_line (Memᴰ.append_cases (before seen y a.parent) (subst (λ (l : List PositionFact). a ∈ l) e m))

-- a parent is the top or one of the numbers
pub rooted_parent : (all seen : List ℕ) (t : List Row) → ((n : ℕ) → n ∈ seen → n ∈ all) → ((y : Row) → y ∈ t → y.number ∈ all)
    → Rooted seen t → (y : Row) → y ∈ t → y.parent ∈ TOP ∷ all
rooted_parent all seen [] h g r y m = absurd (Memᴰ.not-nil m)
rooted_parent all seen (x ∷ t) h g r y (here e) = Memᴰ.cast (ap (λ (z : Row). z.parent) e) (wide r.0)
  where
    wide : x.parent ∈ TOP ∷ seen → x.parent ∈ TOP ∷ all
    wide (here d) = here d
    wide (there k) = there (h x.parent k)
rooted_parent all seen (x ∷ t) h g r y (there m) = rooted_parent all (x.number ∷ seen) t more (λ z k. g z (there k)) r.1 y m
  where
    more : (n : ℕ) → n ∈ x.number ∷ seen → n ∈ all
    more n (here e) = Memᴰ.cast e (g x (here refl))
    more n (there k) = h n k
