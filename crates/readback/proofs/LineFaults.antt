-- The code of a line's fault is the lowest of those that document 01 gives it. l is a line, `seen` are the rows of the lines before, x is a
-- byte, s a part of a text, c a content, k a number. Assumes nothing.
use mathlib.Core.Path.{◌≡◌, refl, sym, ap, ◌∙◌, subst}
use mathlib.Core.Logic.{◌⊎◌, inl, inr}
use mathlib.Core.Bool.{Bool, true, false, cond, not, ◌&&◌}
use mathlib.Core.List.Memᴰ
use mathlib.Core.List.Memᴰ.{head as here}
use mathlib.Core.List.Memᴰ.{tail as there}
use mathlib.Core.List.{List, [], ◌∷◌, ◌++◌}
use Prim.Native.Nat.{ℕ, ◌<◌, ◌≤◌}
use native.Mathlib.Omega.{arith}
use lib.ListN.{length}
use lib.Dec.{T, T_not, eqb, leb, ltb}
use mir.Facts.{T_not-not, and_yes, yes_and, and_no, eqb_yes, yes_eqb, leb_yes, leb_no, yes_leb, ltb_no}
use borrow.Author.Tests.{eqb-false, ltb-true, lt-ltb}
use Rattle.rules.specs.Limits.{LINES, CONTENT, GREATEST}
use Rattle.rules.specs.Lists.{◌∈◌, every}
use Rattle.rules.specs.Marks.{TOP, is_record}
use Rattle.rules.specs.Text.{TAB, allowed, count, before, after, decimal, value, fields, filled, content_ok}
use Rattle.rules.specs.Line.{Row, number_part, parent_part, content_part, row_of, number_ok, parent_ok}
use Rattle.rules.specs.Table.{numbers, stands, fault}
use Rattle.rules.specs.Written.{digits}
use Rattle.rules.specs.UnreadableText.{Parts, EmptyField, Fault, line513, bad_byte, few_tabs, bad_number, bad_parent, bad_content}
use Rattle.rules.specs.UnreadableText.{number_twice}
use Rattle.rules.specs.UnreadableText.{parent_missing}
use Rattle.trees.proofs.Marks.{record_low, record_high}
use Rattle.readback.proofs.Splitting.{every_in, before_at, after-at, rejoin, count-after}
use Rattle.readback.proofs.Decimals.{digits_decimal, digits_value, decimal-digits}
use Rattle.readback.proofs.Contents.{plain_byte, byte_allowed, all-filled, parted, field_inside, fields_parted}
use Rattle.readback.proofs.Faults.{stands_in, in_stands}

-- ---- a test that not all pass

one_fails : {A : Type 0} (test : A → Bool) (s : List A) → T (not (every test s)) → (x : A) × (x ∈ s) × T (not (test x))
one_fails test [] f = absurd f
one_fails test (x ∷ s) f =
    elim (and_no (test x) (every test s) f) [
      | inl a ↦ (x, here refl, a)
      | inr b ↦ let w = one_fails test s b in (w.0, there w.1, w.2)
    ]

-- ---- the parts of a line

before-plain : (b : ℕ) (s : List ℕ) → b ∈ before b s → ⊥
before-plain b [] m = Memᴰ.not-nil m
before-plain b (x ∷ s) m = go (eqb x b) refl m (before-plain b s)
  where
    go : (u : Bool) → eqb x b ≡ u → b ∈ cond u [] (x ∷ before b s) → (b ∈ before b s → ⊥) → ⊥
    go true q k ih = Memᴰ.not-nil k
    go false q (here e) ih = eqb-false x b q (sym e)
    go false q (there k) ih = ih k

module _ (l : List ℕ) where
  -- a line with two tabs has its three parts
  parts : 2 ≤ count TAB l → Parts l (number_part l) (parent_part l) (content_part l)
  parts h =
      let first : l ≡ number_part l ++ (TAB ∷ after TAB l) = rejoin TAB l (omega arith) in
      let second : after TAB l ≡ parent_part l ++ (TAB ∷ content_part l) = rejoin TAB (after TAB l) (omega (arith, count-after TAB l)) in
      record {
        joined = first ∙ ap (λ (s : List ℕ). number_part l ++ (TAB ∷ s)) second;
        number_plain = before-plain TAB l;
        parent_plain = before-plain TAB (after TAB l);
      }

  -- and no others
  module _ (n p c : List ℕ) (w : Parts l n p c) where
    number_is : number_part l ≡ n
    number_is = ap (before TAB) w.joined ∙ before_at TAB n (p ++ (TAB ∷ c)) w.number_plain

    rest_is : after TAB l ≡ p ++ (TAB ∷ c)
    rest_is = ap (after TAB) w.joined ∙ after-at TAB n (p ++ (TAB ∷ c)) w.number_plain

    parent_is : parent_part l ≡ p
    parent_is = ap (before TAB) rest_is ∙ before_at TAB p c w.parent_plain

    content_is : content_part l ≡ c
    content_is = ap (after TAB) rest_is ∙ after-at TAB p c w.parent_plain

-- ---- each test and its fault

holds : {b : Bool} → b ≡ true → T b
holds e = rw e tt

fails : {b : Bool} → b ≡ false → T (not b)
fails e = rw e tt

module _ (seen : List Row) (l : List ℕ) where
  abbrev test3 : Bool
  test3 = leb LINES (length seen)

  abbrev test4 : Bool
  test4 = not (every allowed l)

  abbrev test5 : Bool
  test5 = ltb (count TAB l) 2

  abbrev test6 : Bool
  test6 = not (number_ok (number_part l))

  abbrev test7 : Bool
  test7 = not (parent_ok (parent_part l))

  abbrev test8 : Bool
  test8 = not (content_ok (content_part l))

  abbrev test9 : Bool
  test9 = stands (row_of l).number seen

  abbrev test10 : Bool
  test10 = not (eqb (row_of l).parent TOP) && not (stands (row_of l).parent seen)

  -- a fault's test does not fail
  byte_test : (x : ℕ) → x ∈ l → (x ≡ 9 → ⊥) → ((32 ≤ x) × (x ≤ 126) → ⊥) → T (not test4) → ⊥
  byte_test x m f g t = g (plain_byte x (every_in allowed l (T_not-not (every allowed l) t) m) f)

  module _ (n p c : List ℕ) (w : Parts l n p c) where
    number_test : ((k : ℕ) → 1 ≤ k → k ≤ 65535 → n ≡ digits k → ⊥) → T (not test6) → ⊥
    number_test f t =
        let v : ℕ = value (number_part l) in
        let a = and_yes (decimal (number_part l)) (is_record v) (T_not-not (number_ok (number_part l)) t) in
        let low = record_low v a.1 in
        let high = record_high v a.1 in
        f v (omega arith) (omega arith) (sym (number_is l n p c w) ∙ sym (decimal-digits (number_part l) a.0 (omega arith)))

    parent_test : ((k : ℕ) → k ≤ 65535 → p ≡ digits k → ⊥) → T (not test7) → ⊥
    parent_test f t =
        let v : ℕ = value (parent_part l) in
        let a = and_yes (decimal (parent_part l)) (leb v GREATEST) (T_not-not (parent_ok (parent_part l)) t) in
        let high : v ≤ GREATEST = leb_yes a.1 in
        f v high (sym (parent_is l n p c w) ∙ sym (decimal-digits (parent_part l) a.0 (omega arith)))

    content-test : (length c ≡ 0) ⊎ ((120 < length c) ⊎ EmptyField c) → T (not test8) → ⊥
    content-test f t = go f (subst (λ (s : List ℕ). T (content_ok s)) (content_is l n p c w) (T_not-not (content_ok (content_part l)) t))
      where
        go : (length c ≡ 0) ⊎ ((120 < length c) ⊎ EmptyField c) → T (content_ok c) → ⊥
        go (inl e) k =
            let a : 1 ≤ length c = leb_yes (and_yes (leb 1 (length c)) (leb (length c) CONTENT && every filled (fields c)) k).0 in
            omega arith
        go (inr (inl h)) k =
            let a = (and_yes (leb 1 (length c)) (leb (length c) CONTENT && every filled (fields c)) k).1 in
            let b : length c ≤ 120 = leb_yes (and_yes (leb (length c) CONTENT) (every filled (fields c)) a).0 in
            omega arith
        go (inr (inr e)) k =
            let a = (and_yes (leb 1 (length c)) (leb (length c) CONTENT && every filled (fields c)) k).1 in
            let b : T (every filled (fields c)) = (and_yes (leb (length c) CONTENT) (every filled (fields c)) a).1 in
            let are : fields c ≡ e.kind ∷ e.others = ap fields e.parted ∙ fields_parted e.kind e.others e.plain in
            all-filled (e.kind ∷ e.others) (rw are at b) [] e.empty

    twice_test : (k : ℕ) → k ≤ 65535 → n ≡ digits k → k ∈ numbers seen → T (not test9) → ⊥
    twice_test k h e m t =
        let v : value (number_part l) ≡ k = ap value (number_is l n p c w ∙ e) ∙ digits_value k (omega arith) in
        T_not test9 t (in_stands seen (row_of l).number (rw v m))

    missing-test : (k : ℕ) → k ≤ 65535 → p ≡ digits k → (k ≡ 0 → ⊥) → (k ∈ numbers seen → ⊥) → T (not test10) → ⊥
    missing-test k h e f g t =
        let v : value (parent_part l) ≡ k = ap value (parent_is l n p c w ∙ e) ∙ digits_value k (omega arith) in
        elim (and_no (not (eqb (row_of l).parent TOP)) (not (stands (row_of l).parent seen)) t) [
          | inl a ↦ f (sym v ∙ eqb_yes (T_not-not (eqb (row_of l).parent TOP) a))
          | inr b ↦ g (rw (sym v) (stands_in seen (row_of l).parent (T_not-not (stands (row_of l).parent seen) b)))
        ]

  -- a line that a test holds of has its fault; from the number on it has two tabs
  byte_fault : T test4 → Fault seen l 4
  byte_fault t =
      let w = one_fails allowed l t in
      bad_byte w.0 w.1 (λ e. T_not (allowed w.0) w.2 (rw e tt)) (λ h. T_not (allowed w.0) w.2 (byte_allowed w.0 h))

  two : test5 ≡ false → 2 ≤ count TAB l
  two e = ltb_no (fails e)

  number_fault : 2 ≤ count TAB l → T test6 → Fault seen l 6
  number_fault h t = bad_number (number_part l) (parent_part l) (content_part l) (parts l h) (λ k low high e.
      T_not (number_ok (number_part l)) t (rw (e, digits_decimal k (omega arith), digits_value k (omega arith))
      (yes_and (leb 1 k) (leb k GREATEST) (yes_leb low) (yes_leb high))))

  parent_fault : 2 ≤ count TAB l → T test7 → Fault seen l 7
  parent_fault h t = bad_parent (number_part l) (parent_part l) (content_part l) (parts l h) (λ k high e.
      T_not (parent_ok (parent_part l)) t (rw (e, digits_decimal k (omega arith), digits_value k (omega arith)) (yes_leb high)))

  content-fault : 2 ≤ count TAB l → T test8 → Fault seen l 8
  content-fault h t = bad_content (number_part l) (parent_part l) (content_part l) (parts l h) (why (content_part l) t)
    where
      empty_field : (c s : List ℕ) → s ∈ fields c → T (not (filled s)) → EmptyField c
      empty_field c [] m f =
          let w = parted c in
          record {
            kind = w.kind;
            others = w.others;
            parted = w.joined;
            plain = λ r i k. (field_inside c r (subst (λ (q : List (List ℕ)). r ∈ q) (sym w.are) i) TAB k).plain refl;
            empty = subst (λ (q : List (List ℕ)). [] ∈ q) w.are m;
          }
      empty_field c (x ∷ s) m f = absurd f

      why : (c : List ℕ) → T (not (content_ok c)) → (length c ≡ 0) ⊎ ((120 < length c) ⊎ EmptyField c)
      why c f =
          elim (and_no (leb 1 (length c)) (leb (length c) CONTENT && every filled (fields c)) f) [
            | inl a ↦ let g : length c < 1 = leb_no a in inl (omega arith)
            | inr b ↦ elim (and_no (leb (length c) CONTENT) (every filled (fields c)) b) [
              | inl a ↦ inr (inl (leb_no a))
              | inr d ↦ let w = one_fails filled (fields c) d in inr (inr (empty_field c w.0 w.1 w.2))
            ]
          ]

  twice_fault : 2 ≤ count TAB l → T (not test6) → T test9 → Fault seen l 9
  twice_fault h o t =
      let v : ℕ = value (number_part l) in
      let a = and_yes (decimal (number_part l)) (is_record v) (T_not-not (number_ok (number_part l)) o) in
      let high = record_high v a.1 in
      number_twice (number_part l) (parent_part l) (content_part l) (parts l h) v (omega arith)
      (sym (decimal-digits (number_part l) a.0 (omega arith))) (stands_in seen v t)

  missing-fault : 2 ≤ count TAB l → T (not test7) → T test10 → Fault seen l 10
  missing-fault h o t =
      let v : ℕ = value (parent_part l) in
      let a = and_yes (decimal (parent_part l)) (leb v GREATEST) (T_not-not (parent_ok (parent_part l)) o) in
      let high : v ≤ GREATEST = leb_yes a.1 in
      let b = and_yes (not (eqb v TOP)) (not (stands v seen)) t in
      parent_missing (number_part l) (parent_part l) (content_part l) (parts l h) v high
      (sym (decimal-digits (parent_part l) a.0 (omega arith))) (λ e. T_not (eqb v TOP) b.0 (yes_eqb e))
      (λ m. T_not (stands v seen) b.1 (in_stands seen v m))

  -- ---- the first test that holds

  -- a code that would have won: a lower one, or any if there is no fault
  abbrev Lower : ℕ → ℕ → Type 0
  Lower code other = (other < code) ⊎ (code ≡ 0)

  later : (code other : ℕ) → 0 < code → code ≤ other → {A : Type 0} → Lower code other → A
  later code other p q (inl h) = absurd (omega arith)
  later code other p q (inr e) = absurd (omega arith)

  none_lower : (code : ℕ) → (Lower code 3 → T (not test3)) → (Lower code 4 → T (not test4)) → (Lower code 5 → T (not test5))
      → (Lower code 6 → T (not test6)) → (Lower code 7 → T (not test7)) → (Lower code 8 → T (not test8))
      → (Lower code 9 → T (not test9)) → (Lower code 10 → T (not test10)) → {other : ℕ} → Fault seen l other → Lower code other → ⊥
  none_lower code f3 f4 f5 f6 f7 f8 f9 f10 (line513 h) o = T_not test3 (f3 o) (yes_leb h)
  none_lower code f3 f4 f5 f6 f7 f8 f9 f10 (bad_byte x m f g) o = byte_test x m f g (f4 o)
  none_lower code f3 f4 f5 f6 f7 f8 f9 f10 (few_tabs h) o = T_not test5 (f5 o) (holds (lt-ltb (count TAB l) 2 h))
  none_lower code f3 f4 f5 f6 f7 f8 f9 f10 (bad_number n p c w f) o = number_test n p c w f (f6 o)
  none_lower code f3 f4 f5 f6 f7 f8 f9 f10 (bad_parent n p c w f) o = parent_test n p c w f (f7 o)
  none_lower code f3 f4 f5 f6 f7 f8 f9 f10 (bad_content n p c w f) o = content-test n p c w f (f8 o)
  none_lower code f3 f4 f5 f6 f7 f8 f9 f10 (number_twice n p c w k h e m) o = twice_test n p c w k h e m (f9 o)
  none_lower code f3 f4 f5 f6 f7 f8 f9 f10 (parent_missing n p c w k h e f g) o = missing-test n p c w k h e f g (f10 o)

  -- the line has this fault, if it is none, and no lower one
  pub record Lowest (code : ℕ) : Type 0 where
    pub has : (code ≡ 0 → ⊥) → Fault seen l code
    pub lower : {other : ℕ} → Fault seen l other → (other < code) ⊎ (code ≡ 0) → ⊥

  abbrev own : Bool → Bool → Bool → Bool → Bool → ℕ
  own b4 b5 b6 b7 b8 = cond b4 4 (cond b5 5 (cond b6 6 (cond b7 7 (cond b8 8 0))))

  pub fault_lowest : Lowest (fault seen l)
  fault_lowest = go test3 test4 test5 test6 test7 test8 test9 test10 refl refl refl refl refl refl refl refl
    where
      go : (b3 b4 b5 b6 b7 b8 b9 b10 : Bool) → test3 ≡ b3 → test4 ≡ b4 → test5 ≡ b5 → test6 ≡ b6 → test7 ≡ b7 → test8 ≡ b8
          → test9 ≡ b9 → test10 ≡ b10
          → Lowest (cond b3 3 (cond (not (eqb (own b4 b5 b6 b7 b8) 0)) (own b4 b5 b6 b7 b8) (cond b9 9 (cond b10 10 0))))
      go true b4 b5 b6 b7 b8 b9 b10 p3 p4 p5 p6 p7 p8 p9 p10 =
          record {
            has = λ f. line513 (leb_yes (holds p3));
            lower =
                none_lower 3 (later 3 3 (omega arith) (omega arith)) (later 3 4 (omega arith) (omega arith))
                (later 3 5 (omega arith) (omega arith)) (later 3 6 (omega arith) (omega arith)) (later 3 7 (omega arith) (omega arith))
                (later 3 8 (omega arith) (omega arith)) (later 3 9 (omega arith) (omega arith)) (later 3 10 (omega arith) (omega arith));
          }
      go false true b5 b6 b7 b8 b9 b10 p3 p4 p5 p6 p7 p8 p9 p10 =
          record {
            has = λ f. byte_fault (holds p4);
            lower =
                none_lower 4 (λ o. fails p3) (later 4 4 (omega arith) (omega arith)) (later 4 5 (omega arith) (omega arith))
                (later 4 6 (omega arith) (omega arith)) (later 4 7 (omega arith) (omega arith)) (later 4 8 (omega arith) (omega arith))
                (later 4 9 (omega arith) (omega arith)) (later 4 10 (omega arith) (omega arith));
          }
      go false false true b6 b7 b8 b9 b10 p3 p4 p5 p6 p7 p8 p9 p10 =
          record {
            has = λ f. few_tabs (ltb-true (count TAB l) 2 p5);
            lower =
                none_lower 5 (λ o. fails p3) (λ o. fails p4) (later 5 5 (omega arith) (omega arith))
                (later 5 6 (omega arith) (omega arith)) (later 5 7 (omega arith) (omega arith)) (later 5 8 (omega arith) (omega arith))
                (later 5 9 (omega arith) (omega arith)) (later 5 10 (omega arith) (omega arith));
          }
      go false false false true b7 b8 b9 b10 p3 p4 p5 p6 p7 p8 p9 p10 =
          record {
            has = λ f. number_fault (two p5) (holds p6);
            lower =
                none_lower 6 (λ o. fails p3) (λ o. fails p4) (λ o. fails p5) (later 6 6 (omega arith) (omega arith))
                (later 6 7 (omega arith) (omega arith)) (later 6 8 (omega arith) (omega arith)) (later 6 9 (omega arith) (omega arith))
                (later 6 10 (omega arith) (omega arith));
          }
      go false false false false true b8 b9 b10 p3 p4 p5 p6 p7 p8 p9 p10 =
          record {
            has = λ f. parent_fault (two p5) (holds p7);
            lower =
                none_lower 7 (λ o. fails p3) (λ o. fails p4) (λ o. fails p5) (λ o. fails p6) (later 7 7 (omega arith) (omega arith))
                (later 7 8 (omega arith) (omega arith)) (later 7 9 (omega arith) (omega arith)) (later 7 10 (omega arith) (omega arith));
          }
      go false false false false false true b9 b10 p3 p4 p5 p6 p7 p8 p9 p10 =
          record {
            has = λ f. content-fault (two p5) (holds p8);
            lower =
                none_lower 8 (λ o. fails p3) (λ o. fails p4) (λ o. fails p5) (λ o. fails p6) (λ o. fails p7)
                (later 8 8 (omega arith) (omega arith)) (later 8 9 (omega arith) (omega arith)) (later 8 10 (omega arith) (omega arith));
          }
      go false false false false false false true b10 p3 p4 p5 p6 p7 p8 p9 p10 =
          record {
            has = λ f. twice_fault (two p5) (fails p6) (holds p9);
            lower =
                none_lower 9 (λ o. fails p3) (λ o. fails p4) (λ o. fails p5) (λ o. fails p6) (λ o. fails p7) (λ o. fails p8)
                (later 9 9 (omega arith) (omega arith)) (later 9 10 (omega arith) (omega arith));
          }
      go false false false false false false false true p3 p4 p5 p6 p7 p8 p9 p10 =
          record {
            has = λ f. missing-fault (two p5) (fails p7) (holds p10);
            lower =
                none_lower 10 (λ o. fails p3) (λ o. fails p4) (λ o. fails p5) (λ o. fails p6) (λ o. fails p7) (λ o. fails p8)
                (λ o. fails p9) (later 10 10 (omega arith) (omega arith));
          }
      go false false false false false false false false p3 p4 p5 p6 p7 p8 p9 p10 =
          record {
            has = λ f. absurd (f refl);
            lower =
                none_lower 0 (λ o. fails p3) (λ o. fails p4) (λ o. fails p5) (λ o. fails p6) (λ o. fails p7) (λ o. fails p8)
                (λ o. fails p9) (λ o. fails p10);
          }
