-- A content that a line may hold is document 01's: one or more filled fields of bytes 32 to 126, parted by tabs, 1 to 120 bytes in all. c
-- is a content, s a field, x a byte. Assumes nothing.
use mathlib.Core.Path.{◌≡◌, refl, sym, ap, ◌∙◌, subst}
use mathlib.Core.Bool.{Bool, true, false, cond, ◌&&◌}
use mathlib.Core.List.Memᴰ
use mathlib.Core.List.Memᴰ.{head as here}
use mathlib.Core.List.Memᴰ.{tail as there}
use mathlib.Core.List.{List, [], ◌∷◌, ◌++◌, append-nil}
use Prim.Native.Nat.{ℕ, ◌≤◌}
use native.Mathlib.Omega.{arith}
use lib.ListN.{length}
use lib.Dec.{T, eqb, leb}
use mir.Facts.{and_yes, yes_and, leb_yes, yes_leb}
use borrow.Author.Tests.{eqb-true, eqb-false, ne_eqb, le-leb}
use Rattle.rules.specs.Limits.{CONTENT}
use Rattle.rules.specs.Lists.{◌∈◌, every, flat}
use Rattle.rules.specs.Text.{TAB, allowed, onto, fields, filled}
use Rattle.rules.specs.ReadableText.{IsField, IsContent}
use Rattle.rules.specs.Demands.{Writable}
use Rattle.readback.proofs.Splitting.{every_in, every_append}

-- a field behind its tab
abbrev pub tabbed : List ℕ → List ℕ
tabbed field = TAB ∷ field

-- ---- joined fields are parted again

pub fields_at : (s rest : List ℕ) → (TAB ∈ s → ⊥) → fields (s ++ (TAB ∷ rest)) ≡ s ∷ fields rest
fields_at [] rest f = refl
fields_at (x ∷ s) rest f = rw (ne_eqb x TAB (λ e. f (here (sym e)))) (ap (onto x) (fields_at s rest (λ m. f (there m))))

pub fields_one : (s : List ℕ) → (TAB ∈ s → ⊥) → fields s ≡ s ∷ []
fields_one [] f = refl
fields_one (x ∷ s) f = rw (ne_eqb x TAB (λ e. f (here (sym e)))) (ap (onto x) (fields_one s (λ m. f (there m))))

pub fields_parted : (kind : List ℕ) (others : List (List ℕ)) → ((s : List ℕ) → s ∈ kind ∷ others → TAB ∈ s → ⊥)
    → fields (kind ++ flat tabbed others) ≡ kind ∷ others
fields_parted kind [] f = ap fields (append-nil kind) ∙ fields_one kind (f kind (here refl))
fields_parted kind (next ∷ others) f =
    fields_at kind (next ++ flat tabbed others) (f kind (here refl))
    ∙ ap (λ (r : List (List ℕ)). kind ∷ r) (fields_parted next others (λ s m. f s (there m)))

-- ---- the fields of a content, joined, are the content

pub record Parted (c : List ℕ) : Type 0 where
  pub kind : List ℕ
  pub others : List (List ℕ)
  pub are : fields c ≡ kind ∷ others
  pub joined : c ≡ kind ++ flat tabbed others

pub parted : (c : List ℕ) → Parted c
parted [] = record { kind = []; others = []; are = refl; joined = refl }
parted (x ∷ c) = go (eqb x TAB) refl (parted c)
  where
    go : (b : Bool) → eqb x TAB ≡ b → Parted c → Parted (x ∷ c)
    go true q p = record {
      kind = [];
      others = p.kind ∷ p.others;
      are = rw q (ap (λ (r : List (List ℕ)). [] ∷ r) p.are);
      joined = (λ i. eqb-true x TAB q i ∷ p.joined i);
    }
    go false q p = record {
      kind = x ∷ p.kind;
      others = p.others;
      are = rw q (ap (onto x) p.are);
      joined = ap (λ (r : List ℕ). x ∷ r) p.joined;
    }

-- a byte of a field is a byte of the content, and no tab
pub record Inside (c : List ℕ) (x : ℕ) : Type 0 where
  pub within : x ∈ c
  pub plain : x ≡ TAB → ⊥

deeper : (y : ℕ) (c : List ℕ) (x : ℕ) → Inside c x → Inside (y ∷ c) x
deeper y c x i = record { within = there i.within; plain = i.plain }

onto_inside : (y : ℕ) (c : List ℕ) → (y ≡ TAB → ⊥) → (parts : List (List ℕ))
    → ((s : List ℕ) → s ∈ parts → (x : ℕ) → x ∈ s → Inside c x) → (s : List ℕ) → s ∈ onto y parts → (x : ℕ) → x ∈ s → Inside (y ∷ c) x
onto_inside y c f [] h s (here e) x m = first (subst (λ (r : List ℕ). x ∈ r) e m)
  where
    first : x ∈ y ∷ [] → Inside (y ∷ c) x
    first (here e) = record { within = here e; plain = λ t. f (sym e ∙ t) }
    first (there k) = absurd (Memᴰ.not-nil k)
onto_inside y c f [] h s (there i) x m = absurd (Memᴰ.not-nil i)
onto_inside y c f (part ∷ parts) h s (here e) x m = first (subst (λ (r : List ℕ). x ∈ r) e m)
  where
    first : x ∈ y ∷ part → Inside (y ∷ c) x
    first (here e) = record { within = here e; plain = λ t. f (sym e ∙ t) }
    first (there k) = deeper y c x (h part (here refl) x k)
onto_inside y c f (part ∷ parts) h s (there i) x m = deeper y c x (h s (there i) x m)

pub field_inside : (c : List ℕ) (s : List ℕ) → s ∈ fields c → (x : ℕ) → x ∈ s → Inside c x
field_inside [] s (here e) x m = absurd (Memᴰ.not-nil (subst (λ (r : List ℕ). x ∈ r) e m))
field_inside [] s (there i) x m = absurd (Memᴰ.not-nil i)
field_inside (y ∷ c) s i x m = go (eqb y TAB) refl i (field_inside c)
  where
    go : (b : Bool) → eqb y TAB ≡ b → s ∈ cond b ([] ∷ fields c) (onto y (fields c))
        → ((s : List ℕ) → s ∈ fields c → (x : ℕ) → x ∈ s → Inside c x) → Inside (y ∷ c) x
    go true q (here e) ih = absurd (Memᴰ.not-nil (subst (λ (r : List ℕ). x ∈ r) e m))
    go true q (there k) ih = deeper y c x (ih s k x m)
    go false q k ih = onto_inside y c (eqb-false y TAB q) (fields c) ih s k x m

-- ---- bytes

pub plain_byte : (x : ℕ) → T (allowed x) → (x ≡ TAB → ⊥) → (32 ≤ x) × (x ≤ 126)
plain_byte x t f =
    let u : T (leb 32 x && leb x 126) = rw (ne_eqb x TAB f) at t in
    let a = and_yes (leb 32 x) (leb x 126) u in
    (leb_yes a.0, leb_yes a.1)

pub byte_allowed : (x : ℕ) → (32 ≤ x) × (x ≤ 126) → T (allowed x)
byte_allowed x h = rw (ne_eqb x TAB (omega (arith, h.0)), le-leb 32 x h.0, le-leb x 126 h.1) tt

field-allowed : (s : List ℕ) → ((x : ℕ) → x ∈ s → (32 ≤ x) × (x ≤ 126)) → T (every allowed s)
field-allowed [] h = tt
field-allowed (x ∷ s) h =
    yes_and (allowed x) (every allowed s) (byte_allowed x (h x (here refl))) (field-allowed s (λ y m. h y (there m)))

others-allowed : (others : List (List ℕ)) → ((s : List ℕ) → s ∈ others → IsField s) → T (every allowed (flat tabbed others))
others-allowed [] h = tt
others-allowed (s ∷ others) h =
    every_append allowed s (flat tabbed others) (field-allowed s (h s (here refl)).bytes) (others-allowed others (λ r m. h r (there m)))

-- ---- filled fields

pub filled_some : (s : List ℕ) → T (filled s) → 1 ≤ length s
filled_some [] t = absurd t
filled_some (x ∷ s) t = omega arith

some_filled : (s : List ℕ) → 1 ≤ length s → T (filled s)
some_filled [] h = absurd (omega arith)
some_filled (x ∷ s) h = tt

pub all-filled : (parts : List (List ℕ)) → T (every filled parts) → (s : List ℕ) → s ∈ parts → T (filled s)
all-filled [] t s m = absurd (Memᴰ.not-nil m)
all-filled (part ∷ parts) t s (here e) = subst (λ (r : List ℕ). T (filled r)) (sym e) (and_yes (filled part) (every filled parts) t).0
all-filled (part ∷ parts) t s (there m) = all-filled parts (and_yes (filled part) (every filled parts) t).1 s m

filled-all : (parts : List (List ℕ)) → ((s : List ℕ) → s ∈ parts → IsField s) → T (every filled parts)
filled-all [] h = tt
filled-all (part ∷ parts) h =
    yes_and (filled part) (every filled parts) (some_filled part (h part (here refl)).filled) (filled-all parts (λ s m. h s (there m)))

-- ---- both ways

pub writable_content : (c : List ℕ) → Writable c → IsContent c
writable_content c w =
    let a = and_yes (leb 1 (length c)) (leb (length c) CONTENT && every filled (fields c)) w.rule in
    let b = and_yes (leb (length c) CONTENT) (every filled (fields c)) a.1 in
    let p = parted c in
    record {
      kind = p.kind;
      others = p.others;
      parted = p.joined;
      fields = λ s m. one b.1 s (subst (λ (r : List (List ℕ)). s ∈ r) (sym p.are) m);
      some = leb_yes a.0;
      few = leb_yes b.0;
    }
  where
    one : T (every filled (fields c)) → (s : List ℕ) → s ∈ fields c → IsField s
    one f s m = record {
      filled = filled_some s (all-filled (fields c) f s m);
      bytes = λ x k. let i = field_inside c s m x k in plain_byte x (every_in allowed c w.bytes i.within) i.plain;
    }

pub content_writable : (c : List ℕ) → IsContent c → Writable c
content_writable c k =
    record {
      rule =
          yes_and (leb 1 (length c)) (leb (length c) CONTENT && every filled (fields c)) (yes_leb k.some)
          (yes_and (leb (length c) CONTENT) (every filled (fields c)) (yes_leb k.few)
          (subst (λ (r : List (List ℕ)). T (every filled r)) (sym are) (filled-all (k.kind ∷ k.others) k.fields)));
      bytes =
          subst (λ (s : List ℕ). T (every allowed s)) (sym k.parted)
          (every_append allowed k.kind (flat tabbed k.others) (field-allowed k.kind (k.fields k.kind (here refl)).bytes)
          (others-allowed k.others (λ s m. k.fields s (there m))));
    }
  where
    no_tab : (s : List ℕ) → s ∈ k.kind ∷ k.others → TAB ∈ s → ⊥
    no_tab s m i = omega (arith, ((k.fields s m).bytes TAB i).0)

    are : fields c ≡ k.kind ∷ k.others
    are = ap fields k.parted ∙ fields_parted k.kind k.others no_tab
