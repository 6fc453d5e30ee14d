-- The first part ends at the first byte 255, and the others are those of what follows. s are bytes, x and y are bytes. Assumes nothing.
use Rattle.std.proofs.Common.{◌≡◌, refl, ap, ◌∙◌, Bool, true, false, cond, not, List, [], ◌∷◌, ℕ, suc, ◌+◌, ◌-◌, ◌<◌, ◌≤◌}
use Rattle.std.proofs.Common.{length, take, drop, eqb, None, Some, position, arith, take_all}
use Rattle.std.proofs.lemmas.Grind.{common_steps}
use Rattle.std.proofs.lemmas.List.{drop_all}
use Rattle.std.specs.List.{position_or_len}
use Rattle.cases.specs.Parts.{end_of_part, onto, parts_of}

abbrev pub first_end : List ℕ → ℕ
first_end s = position_or_len (λ x. eqb x end_of_part) s

pub parts_of-more : (x : ℕ) (s : List ℕ) → parts_of (x ∷ s)
    ≡ take (first_end (x ∷ s)) (x ∷ s) ∷ parts_of (drop (1 + first_end (x ∷ s)) (x ∷ s))
parts_of-more x [] = last (eqb x end_of_part)
  where
    last : (b : Bool) → cond b ([] ∷ []) ((x ∷ []) ∷ [])
        ≡ take (cond (not b) 1 0) (x ∷ []) ∷ parts_of (drop (1 + cond (not b) 1 0) (x ∷ []))
    last true = refl
    last false = refl
parts_of-more x (y ∷ s) = before (eqb x end_of_part) (first_end (y ∷ s)) (parts_of-more y s)
  where
    before : (b : Bool) (n : ℕ) → parts_of (y ∷ s) ≡ take n (y ∷ s) ∷ parts_of (drop (1 + n) (y ∷ s))
        → cond b ([] ∷ parts_of (y ∷ s)) (onto x (parts_of (y ∷ s)))
        ≡ take (cond (not b) (1 + n) 0) (x ∷ (y ∷ s)) ∷ parts_of (drop (1 + cond (not b) (1 + n) 0) (x ∷ (y ∷ s)))
    before true n e = refl
    before false n e =
        let one : suc n ≡ 1 + n = omega arith in
        let two : suc (1 + n) ≡ 1 + (1 + n) = omega arith in
        ap (onto x) e ∙ λ i. take (one i) (x ∷ (y ∷ s)) ∷ parts_of (drop (two i) (x ∷ (y ∷ s)))

first-found : (s : List ℕ) (n : ℕ) → position (λ x. eqb x end_of_part) s ≡ Some n → first_end s ≡ n
first-found s n e = grind (arith, common_steps)

first-missed : (s : List ℕ) → position (λ x. eqb x end_of_part) s ≡ None → length s ≤ first_end s
first-missed s e = grind (arith, common_steps)

pub last_part : (s : List ℕ) → (length s ≡ 0 → ⊥) → position (λ x. eqb x end_of_part) s ≡ None → parts_of s ≡ s ∷ []
last_part [] some e = absurd (some refl)
last_part (x ∷ s) some e =
    let beyond = first-missed (x ∷ s) e in
    let none = drop_all (1 + first_end (x ∷ s)) (x ∷ s) (omega (arith, beyond)) in
    parts_of-more x s ∙ λ i. take_all (first_end (x ∷ s)) (x ∷ s) beyond i ∷ parts_of (none i)

pub first_part : (s : List ℕ) (n : ℕ) → (length s ≡ 0 → ⊥) → position (λ x. eqb x end_of_part) s ≡ Some n
    → parts_of s ≡ take n s ∷ parts_of (take (length s - (n + 1)) (drop (n + 1) s))
first_part [] n some e = absurd (some refl)
first_part (x ∷ s) n some e =
    let at = first-found (x ∷ s) n e in
    parts_of-more x s ∙ λ i. take (at i) (x ∷ s) ∷ parts_of ((ap (λ m. drop (1 + m) (x ∷ s)) at ∙ rest) i)
  where
    rest : drop (1 + n) (x ∷ s) ≡ take (length (x ∷ s) - (n + 1)) (drop (n + 1) (x ∷ s))
    rest = grind (arith, common_steps)

pub fewer_parts : (s : List ℕ) (n : ℕ) → (length s ≡ 0 → ⊥) → position (λ x. eqb x end_of_part) s ≡ Some n
    → length (parts_of (take (length s - (n + 1)) (drop (n + 1) s))) < length (parts_of s)
fewer_parts s n some e = omega (arith, ap length (first_part s n some e))

pub ruleset first_parts = (last_part, first_part, fewer_parts)
