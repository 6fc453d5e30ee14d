-- The fields of a content, byte by byte: a tab ends one, a byte that is not allowed ends the last. s is the text, r what is left of it
-- from a place on, n how many bytes of that are passed over, y the byte before the next one, u whether the fields before are filled,
-- `whole` what is told of all. Assumes nothing.
use mathlib.Core.Path.{◌≡◌, refl, sym, ap, ◌∙◌}
use mathlib.Core.Bool.{Bool, true, false, not, ◌&&◌, and_assoc}
use mathlib.Core.List.{List, [], ◌∷◌}
use Prim.Native.Nat.{ℕ, suc, ◌+◌, ◌-◌, ◌<◌, ◌≤◌}
use native.Mathlib.Omega.{arith}
use lib.Dec.{eqb}
use lib.ListN.{length, get_or, take, drop}
use borrow.Author.Tests.{eqb-true, eq-eqb, ne_eqb}
use Rattle.std.proofs.lemmas.List.{get_or_default}
use Rattle.std.proofs.lemmas.Slice.{between_to_end}
use Rattle.rules.specs.Lists.{every}
use Rattle.rules.specs.Text.{TAB, LF, onto, fields, filled}
use Rattle.text.specs.Reads.{byte_at, plain}
use Rattle.text.proofs.Places.{left-next, left_none}
use Rattle.line.specs.Parts.{allowed_run, all_filled, fields_from, rest_filled, rest_from, fields_at}
use Rattle.line.specs.declared.Fields.{Fields}

-- ---- the fields behind a byte

-- all but the first are filled
abbrev others-filled : List (List ℕ) → Bool
others-filled [] = true
others-filled (part ∷ parts) = every filled parts

-- a byte fills the first
onto-filled : (x : ℕ) (parts : List (List ℕ)) → every filled (onto x parts) ≡ others-filled parts
onto-filled x [] = refl
onto-filled x (part ∷ parts) = refl

onto-others : (x : ℕ) (parts : List (List ℕ)) → others-filled (onto x parts) ≡ others-filled parts
onto-others x [] = refl
onto-others x (part ∷ parts) = refl

-- the fields that the allowed bytes of s make
abbrev made : List ℕ → List (List ℕ)
made s = fields (take (allowed_run s) s)

made_tab : (x : ℕ) (s : List ℕ) → eqb x TAB ≡ true → made (x ∷ s) ≡ [] ∷ made s
made_tab x s q =
    let e : take (allowed_run (x ∷ s)) (x ∷ s) ≡ x ∷ take (allowed_run s) s = rw q in
    ap fields e ∙ rw q

made_plain : (x : ℕ) (s : List ℕ) → eqb x TAB ≡ false → plain x ≡ true → made (x ∷ s) ≡ onto x (made s)
made_plain x s q r =
    let e : take (allowed_run (x ∷ s)) (x ∷ s) ≡ x ∷ take (allowed_run s) s = rw (q, r) in
    ap fields e ∙ rw q

-- behind a tab all of them count, behind another byte all but the first
record Judged (s : List ℕ) : Type 0 where
  opened : all_filled s ≡ rest_filled TAB s
  begun : (y : ℕ) → eqb y TAB ≡ false → others-filled (made s) ≡ rest_filled y s

judged : (s : List ℕ) → Judged s
judged [] = record { opened = refl; begun = λ y n. rw n }
judged (x ∷ s) = go (eqb x TAB) (plain x) refl refl (judged s)
  where
    go : (t p : Bool) → eqb x TAB ≡ t → plain x ≡ p → Judged s → Judged (x ∷ s)
    go true p q r h =
        let same : rest_filled TAB s ≡ rest_filled x s = ap (λ (b : ℕ). rest_filled b s) (sym (eqb-true x TAB q)) in
        record {
          opened = ap (every filled) (made_tab x s q) ∙ rw q;
          begun = λ y n. ap others-filled (made_tab x s q) ∙ h.opened ∙ same ∙ rw (q, n);
        }
    go false true q r h =
        record {
          opened = ap (every filled) (made_plain x s q r) ∙ onto-filled x (made s) ∙ h.begun x q ∙ rw (q, r);
          begun = λ y n. ap others-filled (made_plain x s q r) ∙ onto-others x (made s) ∙ h.begun x q ∙ rw (q, r);
        }
    go false false q r h = record { opened = rw (q, r); begun = λ y n. rw (q, r, n) }

-- ---- from the start on

pub fields-start : (s : List ℕ) (start wide from : ℕ) → byte_at s (start - 1) ≡ TAB → fields_at s wide ≡ fields_at s start
    → fields_at s from ≡ fields_at s wide → (1 ≤ from) × (from ≤ length s)
    → rest_from true (get_or s (from - 1) 0) (from + 0) (take (length s - from) (drop from s)) ≡ fields_from s start
fields-start s start wide from t e f h =
    (λ i. rest_from true (last i) (place i) (between_to_end s from (length s) (omega arith) i)) ∙ f ∙ e
    ∙ ap (λ (y : ℕ). rest_from true y start (drop start s)) t
    ∙ ap (λ (u : Bool). record { end = start + allowed_run (drop start s); filled = u }) (sym (judged (drop start s)).opened)
  where
    last : get_or s (from - 1) 0 ≡ byte_at s (from - 1)
    last = get_or_default s (from - 1) 0 LF (omega (arith, h.0, h.1))

    place : from + 0 ≡ from
    place = omega arith

-- ---- one byte more

module _ (r : List ℕ) (from n y : ℕ) (u : Bool) (whole : Fields) (same : rest_from u y (from + n) (drop n r) ≡ whole) where
  -- where no byte goes on, the last field ends
  ended : allowed_run (drop n r) ≡ 0 → rest_filled y (drop n r) ≡ not (eqb y TAB)
      → record { end = from + n; filled = u && not (eqb y TAB) } ≡ whole
  ended e f = (λ i. record { end = place i; filled = u && sym f i }) ∙ same
    where
      place : from + n ≡ from + n + allowed_run (drop n r)
      place = omega (arith, e)

  pub rest_ended : length r ≤ n → record { end = from + n; filled = u && not (eqb y TAB) } ≡ whole
  rest_ended h = ended (rw (left_none r n h)) (rw (left_none r n h))

  module _ (h : n < length r) where
    -- the next byte, and what is left behind it
    abbrev x : ℕ
    x = get_or r n 0

    abbrev behind : List ℕ
    behind = drop (n + 1) r

    next : (v : Bool) → allowed_run (drop n r) ≡ suc (allowed_run behind) → (v && rest_filled x behind) ≡ (u && rest_filled y (drop n r))
        → rest_from v x (from + (n + 1)) behind ≡ whole
    next v e f = (λ i. record { end = place i; filled = f i }) ∙ same
      where
        place : from + (n + 1) + allowed_run behind ≡ from + n + allowed_run (drop n r)
        place = omega (arith, e)

    -- a tab ends a field
    pub tab_next : x ≡ TAB → rest_from (u && not (eqb y TAB)) x (from + (n + 1)) behind ≡ whole
    tab_next t =
        next (u && not (eqb y TAB)) (rw (left-next r n h, eq-eqb x TAB t))
        (rw (left-next r n h, eq-eqb x TAB t) (and_assoc u (not (eqb y TAB)) (rest_filled x behind)))

    -- a plain byte goes on with it
    pub plain_next : (x ≡ TAB → ⊥) → plain x ≡ true → rest_from u x (from + (n + 1)) behind ≡ whole
    plain_next o p = next u (rw (left-next r n h, ne_eqb x TAB o, p)) (rw (left-next r n h, ne_eqb x TAB o, p))

    -- any other byte ends the last
    pub other_ended : (x ≡ TAB → ⊥) → plain x ≡ false → record { end = from + n; filled = u && not (eqb y TAB) } ≡ whole
    other_ended o p = ended (rw (left-next r n h, ne_eqb x TAB o, p)) (rw (left-next r n h, ne_eqb x TAB o, p))

pub ruleset scans = (fields-start, rest_ended, tab_next, plain_next, other_ended)
