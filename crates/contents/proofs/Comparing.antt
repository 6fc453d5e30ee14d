-- Two contents are equal exactly if their bytes are. Eight bytes at a time say the same; the last eight are looked at even where some of
-- them were before. a and b are the contents, i is the count of bytes that are equal so far, k the place of the last eight. Assumes
-- nothing.
use mathlib.Core.Path.{◌≡◌, refl, sym, ap, ◌∙◌, subst}
use mathlib.Core.Bool.{Bool, true, false, not, ◌&&◌, and-true}
use mathlib.Core.List.{◌++◌}
use Prim.Native.Nat.{ℕ, suc, ◌+◌, ◌-◌, ◌<◌, ◌≤◌}
use native.Mathlib.Omega.{arith}
use lib.Dec.{T, eqb}
use lib.ListN.{length, get_or, take, drop, length-drop, take-append-drop}
use lib.Seq.{take-add, take_all, take-take}
use borrow.Author.Tests.{not-true, not-false}
use Rattle.rules.specs.Line.{Content}
use Rattle.rules.specs.Facts.{same_content}
use Rattle.text.proofs.Places.{left-next}
use Rattle.trees.proofs.Lists.{is_false, same_test}
use Rattle.trees.proofs.Disagreeing.{content_equal, content_itself}

-- ---- equal contents pass the test

pub equal_same : (a b : Content) → a ≡ b → T (same_content a b)
equal_same a b e = subst (λ (c : Content). T (same_content a c)) e (content_itself a)

same_equal : (a b : Content) (z : Bool) → z ≡ same_content a b → z ≡ true → a ≡ b
same_equal a b z e y = content_equal a b (subst T (sym y ∙ e) tt)

-- ---- eight bytes

module _ (a b : Content) where
  -- the bytes at a place, and those behind it
  next : (m p q : ℕ) → q ≡ p + 1 → p < length a → p < length b → same_content (take (suc m) (drop p a)) (take (suc m) (drop p b))
      ≡ (eqb (get_or a p 0) (get_or b p 0) && same_content (take m (drop q a)) (take m (drop q b)))
  next m p q e h g =
      (λ j. same_content (take (suc m) (left-next a p h j)) (take (suc m) (left-next b p g j)))
      ∙ ap (λ (r : ℕ). eqb (get_or a p 0) (get_or b p 0) && same_content (take m (drop r a)) (take m (drop r b))) (sym e)

  abbrev at : ℕ → Bool
  at p = eqb (get_or a p 0) (get_or b p 0)

  pub eight : (i : ℕ) → i + 8 ≤ length a → i + 8 ≤ length b
      → (at i && (at (i + 1) && (at (i + 2) && (at (i + 3) && (at (i + 4) && (at (i + 5) && (at (i + 6) && at (i + 7))))))))
      ≡ same_content (take 8 (drop i a)) (take 8 (drop i b))
  eight i h g =
      sym
      (next 7 i (i + 1) refl (omega arith) (omega arith) ∙ ap (λ (z : Bool). at i && z)
      (next 6 (i + 1) (i + 2) (omega arith) (omega arith) (omega arith) ∙ ap (λ (z : Bool). at (i + 1) && z)
      (next 5 (i + 2) (i + 3) (omega arith) (omega arith) (omega arith) ∙ ap (λ (z : Bool). at (i + 2) && z)
      (next 4 (i + 3) (i + 4) (omega arith) (omega arith) (omega arith) ∙ ap (λ (z : Bool). at (i + 3) && z)
      (next 3 (i + 4) (i + 5) (omega arith) (omega arith) (omega arith) ∙ ap (λ (z : Bool). at (i + 4) && z)
      (next 2 (i + 5) (i + 6) (omega arith) (omega arith) (omega arith) ∙ ap (λ (z : Bool). at (i + 5) && z)
      (next 1 (i + 6) (i + 7) (omega arith) (omega arith) (omega arith) ∙ ap (λ (z : Bool). at (i + 6) && z)
      (next 0 (i + 7) (i + 8) (omega arith) (omega arith) (omega arith) ∙ and-true (at (i + 7))))))))))

-- ---- the whole

module _ (a b : Content) where
  -- the first i bytes are equal
  pub record Agree (i : ℕ) : Type 0 where
    pub long : length a ≡ length b
    pub low : i ≤ length a
    pub first : take i a ≡ take i b

  pub agree_start : length a ≡ length b → Agree 0
  agree_start e = record { long = e; low = omega arith; first = refl }

  -- eight bytes differ
  pub eight_stop : (i : ℕ) (z : Bool) → z ≡ same_content (take 8 (drop i a)) (take 8 (drop i b)) → not z ≡ true → false ≡ same_content a b
  eight_stop i z e y =
      sym (is_false (same_content a b) (λ t.
      subst T (sym e ∙ not-true z y)
      (equal_same (take 8 (drop i a)) (take 8 (drop i b)) (ap (λ (s : Content). take 8 (drop i s)) (content_equal a b t)))))

  module _ (i : ℕ) (w : Agree i) where
    more : (m : ℕ) → i + m ≤ length a → take m (drop i a) ≡ take m (drop i b) → Agree (i + m)
    more m h e = record {
      long = w.long;
      low = h;
      first = take-add i m a ∙ (λ j. w.first j ++ e j) ∙ sym (take-add i m b);
    }

    module _ (z : Bool) (k : ℕ) (q : k ≡ length a - 8) where
      -- eight more are equal
      pub eight-on : i < k → z ≡ same_content (take 8 (drop i a)) (take 8 (drop i b)) → not z ≡ false → Agree (i + 8)
      eight-on h e y = more 8 (omega arith) (same_equal (take 8 (drop i a)) (take 8 (drop i b)) z e (not-false z y))

      -- the bytes before the last eight are equal
      pub eight-end : 8 ≤ length a → k ≤ i → z ≡ same_content (take 8 (drop k a)) (take 8 (drop k b)) → z ≡ same_content a b
      eight-end h g e =
          e ∙ (λ j. same_content (all a (omega arith) j) (all b (omega (arith, w.long)) j)) ∙ same_test _ _ to from
        where
          all : (s : Content) → length s ≡ length a → take 8 (drop k s) ≡ drop k s
          all s e = take_all 8 (drop k s) (omega (arith, length-drop k s))

          start : take k a ≡ take k b
          start = sym (take-take k i a g) ∙ ap (take k) w.first ∙ take-take k i b g

          to : T (same_content (drop k a) (drop k b)) → T (same_content a b)
          to t =
              equal_same a b (sym (take-append-drop k a) ∙ (λ j. start j ++ content_equal (drop k a) (drop k b) t j)
              ∙ take-append-drop k b)

          from : T (same_content a b) → T (same_content (drop k a) (drop k b))
          from t = equal_same (drop k a) (drop k b) (ap (drop k) (content_equal a b t))
