-- Answers that tell exactly some position facts, whatever they are answered from. q are the answers, fs the facts; a is a fact, r a
-- parent, p the one before, s the one after, n a record. Assumes nothing.
use mathlib.Core.Path.{◌≡◌, sym, ap, ◌∙◌, subst}
use mathlib.Core.Logic.{◌⊎◌, inl, inr}
use mathlib.Core.Bool.{Bool, ◌||◌}
use mathlib.Core.List.Memᴰ
use mathlib.Core.List.{List}
use Prim.Native.Nat.{ℕ, ◌<◌}
use native.Mathlib.Omega.{arith}
use lib.Dec.{T, eqb}
use Rattle.rules.specs.Lists.{◌∈◌}
use Rattle.rules.specs.Marks.{TOP, START, END, is_record}
use Rattle.rules.specs.Facts.{PositionFact, ParentGiven, position, parents_given, positions_disagree}
use Rattle.trees.proofs.Kept.{Coherent}
use Rattle.trees.proofs.Disagreeing.{positions_agree, given_out}
use Rattle.trees.proofs.Marks.{record_low}
use Rattle.facts.specs.Asked.{Asked}

-- a record has a list, and so has the top
abbrev pub lists : Asked → ℕ → Bool
lists q r = eqb r TOP || q.has r

pub record View (q : Asked) (fs : List PositionFact) : Type 0 where
  pub to_after_lem : (a : PositionFact) → a ∈ fs → q.after a.parent a.before ≡ a.after
  pub to_before_lem : (a : PositionFact) → a ∈ fs → q.before a.parent a.after ≡ a.before
  pub from-after : (r p : ℕ) → 0 < q.after r p → position r p (q.after r p) ∈ fs
  pub from-before : (r s : ℕ) → 0 < q.before r s → position r (q.before r s) s ∈ fs
  -- a fact gives its parent to each record that it names
  pub owner : (a : PositionFact) → a ∈ fs → (n : ℕ) → T (is_record n) → (n ≡ a.before) ⊎ (n ≡ a.after)
      → T (q.has n) × (q.up n ≡ a.parent)
  -- a record stands between two others
  pub placed : (n : ℕ) → T (q.has n) → T (is_record n) × (0 < q.after (q.up n) n) × (0 < q.before (q.up n) n)
  pub listed : (a : PositionFact) → a ∈ fs → T (lists q a.parent)
  -- a list has a first and a last fact
  pub ends : (r : ℕ) → T (lists q r) → (0 < q.after r START) × (0 < q.before r END)
  pub before_ok : (a : PositionFact) → a ∈ fs → T (is_record a.before) ⊎ (a.before ≡ START)
  pub after_ok : (a : PositionFact) → a ∈ fs → T (is_record a.after) ⊎ (a.after ≡ END)

module _ {q : Asked} {fs : List PositionFact} (v : View q fs) where
  -- nobody is followed by the top
  pub after_low : (a : PositionFact) → a ∈ fs → 0 < a.after
  after_low a m = elim (v.after_ok a m) [ inl t ↦ record_low a.after t | inr e ↦ omega arith ]

  -- a fact that the answers name is there
  pub has_after : (a : PositionFact) → 0 < a.after → q.after a.parent a.before ≡ a.after → a ∈ fs
  has_after a h e =
      Memᴰ.cast (λ i. position a.parent a.before (sym e i))
      (v.from-after a.parent a.before (subst (λ (n : ℕ). 0 < n) (sym e) h))

  -- nobody comes after the top
  pub before_low : (a : PositionFact) → a ∈ fs → 0 < a.before
  before_low a m = elim (v.before_ok a m) [ inl t ↦ record_low a.before t | inr e ↦ omega arith ]

  pub has_before : (a : PositionFact) → 0 < a.before → q.before a.parent a.after ≡ a.before → a ∈ fs
  has_before a h e =
      Memᴰ.cast (λ i. position a.parent (sym e i) a.after)
      (v.from-before a.parent a.after (subst (λ (n : ℕ). 0 < n) (sym e) h))

  pub given_up : (a : PositionFact) → a ∈ fs → (g : ParentGiven) → g ∈ parents_given a → T (q.has g.number) ×
      (q.up g.number ≡ g.parent)
  given_up a m g i = let w = given_out g a i in let u = v.owner a m g.number w.1 w.2 in (u.0, u.1 ∙ sym w.0)

  -- one table's facts do not disagree
  pub view_coherent : Coherent positions_disagree fs
  view_coherent a b m k =
      positions_agree a b
      (λ e d. sym (v.to_after_lem a m) ∙ (λ i. q.after (e i) (d i)) ∙ v.to_after_lem b k)
      (λ e d. sym (v.to_before_lem a m) ∙ (λ i. q.before (e i) (d i)) ∙ v.to_before_lem b k)
      (λ g h i j e. sym (given_up a m g i).1 ∙ ap q.up e ∙ (given_up b k h j).1)
