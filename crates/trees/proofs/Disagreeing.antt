-- When two facts are equal, and what it means that they do not disagree: one content, one follower, one forerunner, one parent.
-- a and b are facts, r a parent, p the one before, s the one after, g and h parents given. Assumes nothing.
use mathlib.Core.Path.{◌≡◌, refl, sym, ap, subst}
use mathlib.Core.Logic.{◌⊎◌, inl, inr}
use mathlib.Core.Bool.{Bool, not, ◌&&◌, ◌||◌}
use mathlib.Core.List.Memᴰ
use mathlib.Core.List.{[], ◌∷◌}
use Prim.Native.Nat.{ℕ}
use lib.Dec.{T, T_not, eqb, eqb→eq, eqb_refl}
use mir.Facts.{and_yes, yes_and, or_yes, yes_eqb, eqb_no}
use Rattle.rules.specs.Lists.{◌∈◌, any, put}
use Rattle.rules.specs.Marks.{is_record}
use Rattle.rules.specs.Line.{Content, Row}
use Rattle.rules.specs.Facts.{ContentFact, ParentGiven, PositionFact, contents_disagree, neighbours_disagree, parent_given, parents_differ}
use Rattle.rules.specs.Facts.{parents_disagree, parents_given, positions_disagree, same_content, same_content_fact, same_position}
use Rattle.trees.proofs.Lists.{any_in, any_out, cannot_fail, or_left, or_right, put_here, put_out, put_there}
use Rattle.trees.proofs.Kept.{Tells}

-- ---- the parts of facts and rows, as functions

abbrev pub number_of : Row → ℕ
number_of x = x.number

abbrev pub parent_of : PositionFact → ℕ
parent_of a = a.parent

abbrev pub before_of : PositionFact → ℕ
before_of a = a.before

abbrev pub after_of : PositionFact → ℕ
after_of a = a.after

abbrev pub record_of : ContentFact → ℕ
record_of a = a.number

-- ---- equal facts

pub content_equal : (c d : Content) → T (same_content c d) → c ≡ d
content_equal [] [] t = refl
content_equal [] (y ∷ d) t = absurd t
content_equal (x ∷ c) [] t = absurd t
content_equal (x ∷ c) (y ∷ d) t =
    let w = and_yes (eqb x y) (same_content c d) t in
    let p : x ≡ y = eqb→eq x y w.0 in
    let q : c ≡ d = content_equal c d w.1 in
    cc

pub content_itself : (c : Content) → T (same_content c c)
content_itself [] = tt
content_itself (x ∷ c) = yes_and (eqb x x) (same_content c c) (eqb_refl x) (content_itself c)

pub position_tells : Tells same_position
position_tells = record { equal = equal; itself = itself }
  where
    equal : (a b : PositionFact) → T (same_position a b) → a ≡ b
    equal a b t =
        let u = and_yes (eqb a.parent b.parent) (eqb a.before b.before && eqb a.after b.after) t in
        let v = and_yes (eqb a.before b.before) (eqb a.after b.after) u.1 in
        let r : a.parent ≡ b.parent = eqb→eq _ _ u.0 in
        let p : a.before ≡ b.before = eqb→eq _ _ v.0 in
        let s : a.after ≡ b.after = eqb→eq _ _ v.1 in
        λ i. record { parent = r i; before = p i; after = s i }

    itself : (a : PositionFact) → T (same_position a a)
    itself a =
        let r = eqb a.parent a.parent in
        let p = eqb a.before a.before in
        let s = eqb a.after a.after in
        yes_and r (p && s) (eqb_refl a.parent) (yes_and p s (eqb_refl a.before) (eqb_refl a.after))

pub content_tells : Tells same_content_fact
content_tells = record { equal = equal; itself = itself }
  where
    equal : (a b : ContentFact) → T (same_content_fact a b) → a ≡ b
    equal a b t =
        let w = and_yes (eqb a.number b.number) (same_content a.content b.content) t in
        let n : a.number ≡ b.number = eqb→eq _ _ w.0 in
        let c : a.content ≡ b.content = content_equal _ _ w.1 in
        λ i. record { number = n i; content = c i }

    itself : (a : ContentFact) → T (same_content_fact a a)
    itself a =
        yes_and (eqb a.number a.number) (same_content a.content a.content) (eqb_refl a.number) (content_itself a.content)

-- ---- contents do not disagree: one record, one content

pub contents_agree : (a b : ContentFact) → (a.number ≡ b.number → a.content ≡ b.content) → T (contents_disagree a b) → ⊥
contents_agree a b f t =
    let w = and_yes (eqb a.number b.number) (not (same_content a.content b.content)) t in
    T_not (same_content a.content b.content) w.1
    (subst (λ (c : Content). T (same_content a.content c)) (f (eqb→eq _ _ w.0)) (content_itself a.content))

pub one_content : (a b : ContentFact) → (T (contents_disagree a b) → ⊥) → a.number ≡ b.number → a.content ≡ b.content
one_content a b h e =
    content_equal _ _ (cannot_fail (same_content a.content b.content) (λ t. h (yes_and (eqb a.number b.number) _ (yes_eqb e) t)))

-- ---- positions do not disagree: one follower, one forerunner, one parent

abbrev pub OneAfter : PositionFact → PositionFact → Type 0
OneAfter a b = a.parent ≡ b.parent → a.before ≡ b.before → a.after ≡ b.after

abbrev pub OneBefore : PositionFact → PositionFact → Type 0
OneBefore a b = a.parent ≡ b.parent → a.after ≡ b.after → a.before ≡ b.before

abbrev pub OneParent : PositionFact → PositionFact → Type 0
OneParent a b = (g h : ParentGiven) → g ∈ parents_given a → h ∈ parents_given b → g.number ≡ h.number → g.parent ≡ h.parent

pub neighbours_agree : (a b : PositionFact) → OneAfter a b → OneBefore a b → T (neighbours_disagree a b) → ⊥
neighbours_agree a b after before t = go (or_yes (p && not s) (s && not p) w.1)
  where
    s : Bool
    s = eqb a.after b.after

    p : Bool
    p = eqb a.before b.before

    w : T (eqb a.parent b.parent) × T ((p && not s) || (s && not p))
    w = and_yes (eqb a.parent b.parent) _ t

    r : a.parent ≡ b.parent
    r = eqb→eq _ _ w.0

    go : T (p && not s) ⊎ T (s && not p) → ⊥
    go (inl u) = let v = and_yes p (not s) u in eqb_no v.1 (after r (eqb→eq _ _ v.0))
    go (inr u) = let v = and_yes s (not p) u in eqb_no v.1 (before r (eqb→eq _ _ v.0))

pub parents_agree : (a b : PositionFact) → OneParent a b → T (parents_disagree a b) → ⊥
parents_agree a b parent t =
    let v = any_out (λ (g : ParentGiven). any (parents_differ g) (parents_given b)) (parents_given a) t in
    let w = any_out (parents_differ v.0) (parents_given b) v.2 in
    let u = and_yes (eqb v.0.number w.0.number) (not (eqb v.0.parent w.0.parent)) w.2 in
    eqb_no u.1 (parent v.0 w.0 v.1 w.1 (eqb→eq _ _ u.0))

pub positions_agree : (a b : PositionFact) → OneAfter a b → OneBefore a b → OneParent a b → T (positions_disagree a b) → ⊥
positions_agree a b after before parent t = go (or_yes (parents_disagree a b) (neighbours_disagree a b) t)
  where
    go : T (parents_disagree a b) ⊎ T (neighbours_disagree a b) → ⊥
    go (inl u) = parents_agree a b parent u
    go (inr u) = neighbours_agree a b after before u

module _ (a b : PositionFact) (agree : T (positions_disagree a b) → ⊥) where
  neighbours : T (neighbours_disagree a b) → ⊥
  neighbours t = agree (or_right (parents_disagree a b) (neighbours_disagree a b) t)

  abbrev same_before : Bool
  same_before = eqb a.before b.before

  abbrev same_after : Bool
  same_after = eqb a.after b.after

  pub one_after : OneAfter a b
  one_after r p =
      eqb→eq _ _ (cannot_fail same_after (λ t. neighbours (yes_and (eqb a.parent b.parent) _ (yes_eqb r)
      (or_left (same_before && not same_after) (same_after && not same_before) (yes_and same_before _ (yes_eqb p) t)))))

  pub one_before : OneBefore a b
  one_before r s =
      eqb→eq _ _ (cannot_fail same_before (λ t. neighbours (yes_and (eqb a.parent b.parent) _ (yes_eqb r)
      (or_right (same_before && not same_after) (same_after && not same_before) (yes_and same_after _ (yes_eqb s) t)))))

  pub one_parent : OneParent a b
  one_parent g h m k e =
      eqb→eq _ _ (cannot_fail (eqb g.parent h.parent) (λ t. agree (or_left (parents_disagree a b) (neighbours_disagree a b)
      (any_in (λ (c : ParentGiven). any (parents_differ c) (parents_given b)) m
      (any_in (parents_differ g) k (yes_and (eqb g.number h.number) _ (yes_eqb e) t))))))

-- disagreement goes both ways
pub position_flip : (a b : PositionFact) → T (positions_disagree a b) → T (positions_disagree b a)
position_flip a b t =
    cannot_fail (positions_disagree b a) (λ n.
    let agree : T (positions_disagree b a) → ⊥ = λ u. T_not (positions_disagree b a) n u in
    positions_agree a b (λ r p. sym (one_after b a agree (sym r) (sym p))) (λ r s. sym (one_before b a agree (sym r) (sym s)))
    (λ g h i j e. sym (one_parent b a agree h g j i (sym e))) t)

pub content_flip : (a b : ContentFact) → T (contents_disagree a b) → T (contents_disagree b a)
content_flip a b t =
    cannot_fail (contents_disagree b a) (λ n.
    let agree : T (contents_disagree b a) → ⊥ = λ u. T_not (contents_disagree b a) n u in
    contents_agree a b (λ e. sym (one_content b a agree (sym e))) t)

-- to whom a position fact gives a parent
abbrev pub Given : ParentGiven → PositionFact → Type 0
Given g a = (g.parent ≡ a.parent) × T (is_record g.number) × ((g.number ≡ a.before) ⊎ (g.number ≡ a.after))

pub given_in : (n : ℕ) (a : PositionFact) → T (is_record n) → (n ≡ a.before) ⊎ (n ≡ a.after) → parent_given n a.parent ∈ parents_given a
given_in n a t (inl e) =
    put_here _ (is_record a.before) (λ i. parent_given (e i) a.parent) (subst (λ (k : ℕ). T (is_record k)) e t)
given_in n a t (inr e) =
    put_there _ (is_record a.before)
    (put_here [] (is_record a.after) (λ i. parent_given (e i) a.parent) (subst (λ (k : ℕ). T (is_record k)) e t))

pub given_out : (g : ParentGiven) (a : PositionFact) → g ∈ parents_given a → Given g a
given_out g a m = go (put_out to_before (put (is_record a.after) to_after []) (is_record a.before) m)
  where
    to_before : ParentGiven
    to_before = parent_given a.before a.parent

    to_after : ParentGiven
    to_after = parent_given a.after a.parent

    valid : (h : ParentGiven) → g ≡ h → T (is_record h.number) → T (is_record g.number)
    valid h e t = subst (λ (k : ParentGiven). T (is_record k.number)) (sym e) t

    number : {h : ParentGiven} → g ≡ h → g.number ≡ h.number
    number e = ap (λ (k : ParentGiven). k.number) e

    parent : {h : ParentGiven} → g ≡ h → g.parent ≡ h.parent
    parent e = ap (λ (k : ParentGiven). k.parent) e

    last : ((g ≡ to_after) × T (is_record a.after)) ⊎ (g ∈ []) → Given g a
    last (inl w) = (parent w.0, valid to_after w.0 w.1, inr (number w.0))
    last (inr k) = absurd (Memᴰ.not-nil k)

    go : ((g ≡ to_before) × T (is_record a.before)) ⊎ (g ∈ put (is_record a.after) to_after []) → Given g a
    go (inl w) = (parent w.0, valid to_before w.0 w.1, inl (number w.0))
    go (inr k) = last (put_out to_after [] (is_record a.after) k)
