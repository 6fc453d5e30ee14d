-- No record follows: the list is done, broken or not, and the list that its parent stands in goes on behind the parent. nx says who
-- follows whom, `part` where the content of a record lies, ct what it is; ls and fs are the two arrays; a is the innermost level of the
-- path, r its parent, p its last child, s what follows; q is a parent. Assumes nothing.
use mathlib.Core.Path.{◌≡◌, refl, sym, ap, ◌∙◌, subst}
use mathlib.Core.Option.{none}
use mathlib.Core.Bool.{Bool, true, false, not}
use mathlib.Core.List.Memᴰ.{head as here}
use mathlib.Core.List.Memᴰ.{tail as there}
use mathlib.Core.List.{List, ◌∷◌, ◌++◌}
use Prim.Native.Nat.{ℕ, zero, suc, ◌<◌, min}
use native.Mathlib.Omega.{arith}
use native.Mathlib.Decide.{ℕ_discrete, dec_le}
use borrow.Author.Tests.{eq-eqb, ne_eqb}
use lib.Dec.{T, eqb}
use Rattle.std.specs.Prelude.{Option, None, Some}
use Rattle.rules.specs.Lists.{◌∈◌}
use Rattle.rules.specs.Marks.{TOP, START, END, is_record}
use Rattle.rules.specs.Text.{last}
use Rattle.rules.specs.Line.{Content, Row}
use Rattle.rules.specs.Table.{numbers}
use Rattle.rules.specs.Tree.{STEPS, Tree, child_numbers, empty, numbers_in}
use Rattle.rules.specs.Facts.{PositionFact}
use Rattle.rules.specs.Merge.{follower, walk}
use Rattle.rules.specs.Demands.{Readable}
use Rattle.rules.specs.declared.answers.Part.{Part}
use Rattle.trees.proofs.Marks.{record_high}
use Rattle.trees.proofs.OneTable.{number_record}
use Rattle.trees.proofs.Walk.{walk_none}
use Rattle.facts.specs.Order.{numbers_to}
use Rattle.edits.specs.Least.{place, lesser}
use Rattle.edits.proofs.Best.{AtMost, lesser_left, lesser_right}
use Rattle.merged.specs.Laying.{Steps}
use Rattle.merged.proofs.Path.{Broken, BrokenIn, Level, Spread, parents, step_off, to_come}
use Rattle.merged.proofs.Spreading.{known_parent, last_child}

-- who can have a list is none of the marks
pub known_low : (t : List Row) → Readable t → (q : ℕ) → q ∈ TOP ∷ numbers t → q < START
known_low t ok q (here e) = omega arith
known_low t ok q (there k) = record_high q (number_record t ok.distinct q k)

-- where nobody follows, nothing is to come
walk_ends : (kept : List PositionFact) (ct : ℕ → Content) (k r p : ℕ) → follower kept r p ≡ none → walk (follower kept) ct k r p ≡ empty
unfolding walk
walk_ends kept ct zero r p e = refl
walk_ends kept ct (suc k) r p e = walk_none (follower kept) ct k r p e

module _ {nx : ℕ → ℕ → ℕ} {part : ℕ → Part} {kept : List PositionFact} {known : List ℕ} {ct : ℕ → Content} {ls fs : List ℕ}
    {a : Level} {path : List Level} {p count : ℕ} {broken : Option ℕ} (st : Steps nx kept known)
    (g : Spread nx part kept known ct ls fs (a ∷ path) p count broken) where
  abbrev t : List Row
  t = g.rows

  abbrev r : ℕ
  r = a.parent

  abbrev s : ℕ
  s = nx r p

  -- the least broken list with this one
  abbrev broken' : Option ℕ
  broken' = lesser broken (place (not (eqb s END)) r)

  r_broken : (s ≡ END → ⊥) → Broken nx t r
  r_broken e d = e (ap (nx r) (last_child st g) ∙ d)

  -- who is neither r nor further up is not on the path
  off_path : (q : ℕ) → (q ≡ r → ⊥) → (q ∈ parents path → ⊥) → q ∈ parents (a ∷ path) → ⊥
  off_path q e h (here d) = e d
  off_path q e h (there m) = h m

  -- whoever is told now was told before, or is r
  was : (b : Option ℕ) → BrokenIn nx t (a ∷ path) b → BrokenIn nx t path b
  was None w = tt
  was (Some q) w = (w.0, (λ m. w.1 (there m)), w.2)

  this : (test : Bool) → test ≡ not (eqb s END) → BrokenIn nx t path (place test r)
  this false e = tt
  this true e = (known_parent st g, g.once.0, r_broken (λ d. cc (eq-eqb s END d)))

  either : (x y : Option ℕ) → BrokenIn nx t path x → BrokenIn nx t path y → BrokenIn nx t path (lesser x y)
  either None y f g = g
  either (Some x) None f g = f
  either (Some x) (Some y) f g =
      elim (dec_le x y) [
        | yes h ↦ let e : min x y ≡ x = omega arith in subst (λ (q : ℕ). BrokenIn nx t path (Some q)) (sym e) f
        | no h ↦ let e : min x y ≡ y = omega arith in subst (λ (q : ℕ). BrokenIn nx t path (Some q)) (sym e) g
      ]

  least : (q : ℕ) → q ∈ TOP ∷ numbers t → (q ∈ parents path → ⊥) → Dec (q ≡ r) → Broken nx t q → AtMost broken' q
  least q k h (no e) m = lesser_left broken (place (not (eqb s END)) r) q (g.least_broken q k (off_path q e h) m)
  least q k h (yes e) m =
      lesser_right broken (place (not (eqb s END)) r) q (rw (ne_eqb s END stop) (omega arith))
    where
      stop : s ≡ END → ⊥
      stop z = m (subst (λ (x : ℕ). nx x (last START (child_numbers x t)) ≡ END) (sym e) (ap (nx r) (sym (last_child st g)) ∙ z))

  pub spread_up : (T (is_record (nx a.parent p)) → ⊥)
      → Spread nx part kept known ct ls fs path a.parent count (lesser broken (place (not (eqb (nx a.parent p) END)) a.parent))
  spread_up stop =
      record {
        rows = t;
        holds = g.holds;
        readable = g.readable;
        size = g.size;
        steps = g.steps;
        begun = g.begun.2;
        once = g.once.1;
        on_path = λ q m. g.on_path q (there m);
        done = λ q k h. done q k h (ℕ_discrete q r);
        order = order;
        filled = g.filled;
        placed = g.placed;
        within = g.within;
        some_broken = either broken _ (was broken g.some_broken) (this (not (eqb s END)) refl);
        least_broken = λ q k h. least q k h (ℕ_discrete q r);
      }
    where
      done : (q : ℕ) → q ∈ TOP ∷ numbers t → (q ∈ parents path → ⊥) → Dec (q ≡ r)
          → T (is_record (nx q (last START (child_numbers q t)))) → ⊥
      done q k h (no e) m = g.done q k (off_path q e h) m
      done q k h (yes e) m =
          stop (subst (λ (z : ℕ). T (is_record (nx r z))) (sym (last_child st g))
          (subst (λ (z : ℕ). T (is_record (nx z (last START (child_numbers z t))))) e m))

      order : numbers_to fs count ++ to_come (walk (follower kept) ct) r path ≡ numbers_in (walk (follower kept) ct STEPS TOP START)
      order =
          ap (λ (f : Tree). numbers_to fs count ++ (numbers_in f ++ to_come (walk (follower kept) ct) r path))
          (sym (walk_ends kept ct a.left r p (step_off st r p stop))) ∙ g.order
