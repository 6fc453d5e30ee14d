-- Edits and kept facts of one kind, whatever the facts are: `same` tells whether two are equal, `disagree` whether they disagree.
-- x and y are facts, `branches` the facts of each desk. Assumes nothing.
use mathlib.Core.Path.{◌≡◌, refl, ap, subst}
use mathlib.Core.Logic.{◌⊎◌, inl, inr}
use mathlib.Core.Bool.{Bool, not}
use mathlib.Core.List.Memᴰ
use mathlib.Core.List.Memᴰ.{head as here}
use mathlib.Core.List.{List, [], ◌∷◌, map, map-eq-nil_iff}
use mathlib.Core.List.Memᴰ.{tail as there}
use lib.Dec.{T, T_not, not_T}
use Rattle.rules.specs.Lists.{◌∈◌, any, keep}
use Rattle.rules.specs.Facts.{disagreeing, edits, kept, lacking}
use Rattle.trees.proofs.Lists.{any_in, any_out, either, flat_in, flat_out, keep_in, keep_none, keep_out, none_kept}

-- ---- those that disagree

module _ {A : Type 0} (disagree : A → A → Bool) where
  -- no two disagree
  abbrev pub Coherent : List A → Type 0
  Coherent xs = (x y : A) → x ∈ xs → y ∈ xs → T (disagree x y) → ⊥

  -- x disagrees with none of xs
  abbrev pub Agrees : A → List A → Type 0
  Agrees x xs = (y : A) → y ∈ xs → T (disagree x y) → ⊥

  -- the list of those that disagree is empty exactly if no two do
  pub coherent_none : {B : Type 0} (place : A → B) (xs : List A) → Coherent xs → map place (disagreeing disagree xs) ≡ []
  coherent_none place xs h = ap (map place) (keep_none (λ (x : A). any (disagree x) xs) xs none)
    where
      none : (x : A) → x ∈ xs → T (any (disagree x) xs) → ⊥
      none x m t = let w = any_out (disagree x) xs t in h x w.0 m w.1 w.2

  pub none_coherent : {B : Type 0} (place : A → B) (xs : List A) → map place (disagreeing disagree xs) ≡ [] → Coherent xs
  none_coherent place xs e x y m k t =
      none_kept (λ (a : A). any (disagree a) xs) xs ((map-eq-nil_iff place).0 e) m (any_in (disagree x) k t)

  -- the places where two disagree, for a search that looks for them one by one
  pub places_out : {B : Type 0} {z : B} (place : A → B) (xs : List A) → z ∈ map place (disagreeing disagree xs)
      → (x : A) × (y : A) × (x ∈ xs) × (y ∈ xs) × T (disagree x y) × (place x ≡ z)
  places_out place xs m =
      let v = Memᴰ.of_map place (disagreeing disagree xs) m in
      let k = keep_out (λ (x : A). any (disagree x) xs) xs v.1 in
      let w = any_out (disagree v.0) xs k.1 in
      (v.0, w.0, k.0, w.1, w.2, v.2)

  pub places_in : {B : Type 0} {x y : A} (place : A → B) (xs : List A) → x ∈ xs → y ∈ xs → T (disagree x y)
      → place x ∈ map place (disagreeing disagree xs)
  places_in {x = x} place xs m k t = Memᴰ.map place (keep_in (λ (a : A). any (disagree a) xs) m (any_in (disagree x) k t))

-- ---- those that another list lacks

-- the test tells whether two are equal
pub record Tells {A : Type 0} (same : A → A → Bool) : Type 0 where
  pub equal : (x y : A) → T (same x y) → x ≡ y
  pub itself : (x : A) → T (same x x)

module _ {A : Type 0} {same : A → A → Bool} (tells : Tells same) where
  pub has_in_lem : {x : A} {xs : List A} → x ∈ xs → T (any (same x) xs)
  has_in_lem {x} m = any_in (same x) m (tells.itself x)

  pub has_out : {x : A} (xs : List A) → T (any (same x) xs) → x ∈ xs
  has_out {x} xs t = let w = any_out (same x) xs t in Memᴰ.cast (tells.equal x w.0 w.2) w.1

  -- none is lacking exactly if each is there
  pub none_lacking : {B : Type 0} (place : A → B) (xs ys : List A) → ((x : A) → x ∈ xs → x ∈ ys) → map place (lacking same xs ys) ≡ []
  none_lacking place xs ys h = ap (map place) (keep_none (λ (x : A). not (any (same x) ys)) xs none)
    where
      none : (x : A) → x ∈ xs → T (not (any (same x) ys)) → ⊥
      none x m t = T_not (any (same x) ys) t (has_in_lem (h x m))

  pub lacking_none : {B : Type 0} {x : A} (place : A → B) (xs ys : List A) → map place (lacking same xs ys) ≡ [] → x ∈ xs → x ∈ ys
  lacking_none {x = x} place xs ys e m = go (either (any (same x) ys))
    where
      go : T (any (same x) ys) ⊎ T (not (any (same x) ys)) → x ∈ ys
      go (inl t) = has_out ys t
      go (inr t) = absurd (none_kept (λ (a : A). not (any (same a) ys)) xs ((map-eq-nil_iff place).0 e) m t)

  -- ---- edits

  module _ (old : List A) (branches : List (List A)) where
    -- a fact of one of the tables
    abbrev pub InSome : A → Type 0
    InSome x = (table : List A) × (table ∈ old ∷ branches) × (x ∈ table)

    -- it is old, or an edit
    pub old-or_edit : (x : A) → InSome x → (x ∈ old) ⊎ (x ∈ edits same old branches)
    old-or_edit x w = go (Memᴰ.cases_cons w.1) (either (any (same x) old))
      where
        go : (w.0 ≡ old) ⊎ (w.0 ∈ branches) → T (any (same x) old) ⊎ T (not (any (same x) old))
            → (x ∈ old) ⊎ (x ∈ edits same old branches)
        go (inl e) t = inl (subst (λ (l : List A). x ∈ l) e w.2)
        go (inr m) (inl t) = inl (has_out old t)
        go (inr m) (inr t) =
            inr (flat_in (λ (b : List A). lacking same b old) m (keep_in (λ (a : A). not (any (same a) old)) w.2 t))

    -- an edit is a fact of a branch that old lacks
    pub edit_from : (x : A) → x ∈ edits same old branches → (b : List A) × (b ∈ branches) × (x ∈ b) × (x ∈ old → ⊥)
    edit_from x m =
        let w = flat_out (λ (b : List A). lacking same b old) branches m in
        let k = keep_out (λ (a : A). not (any (same a) old)) w.0 w.2 in
        (w.0, w.1, k.0, λ i. T_not (any (same x) old) k.1 (has_in_lem i))

    pub edit_in : (x : A) (b : List A) → b ∈ branches → x ∈ b → (x ∈ old → ⊥) → x ∈ edits same old branches
    edit_in x b i m h =
        flat_in (λ (l : List A). lacking same l old) i
        (keep_in (λ (a : A). not (any (same a) old)) m (not_T (any (same x) old) (λ t. h (has_out old t))))

    pub edit_known : (x : A) → x ∈ edits same old branches → InSome x
    edit_known x m = let w = edit_from x m in (w.0, there w.1, w.2)

    -- ---- kept facts

    module _ (disagree : A → A → Bool) where
      abbrev the_edits : List A
      the_edits = edits same old branches

      abbrev the_kept : List A
      the_kept = kept disagree the_edits old

      -- a kept fact is an edit, or old and in disagreement with no edit
      abbrev Cases : A → Type 0
      Cases x = (x ∈ the_edits) ⊎ ((x ∈ old) × Agrees disagree x the_edits)

      pub kept_cases : (x : A) → x ∈ the_kept → Cases x
      kept_cases x m = go (Memᴰ.append_cases the_edits m)
        where
          go : (x ∈ the_edits) ⊎ (x ∈ keep (λ (a : A). not (any (disagree a) the_edits)) old) → Cases x
          go (inl k) = inl k
          go (inr k) =
              let w = keep_out (λ (a : A). not (any (disagree a) the_edits)) old k in
              inr (w.0, λ y n t. T_not (any (disagree x) the_edits) w.1 (any_in (disagree x) n t))

      pub edit_kept : (x : A) → x ∈ the_edits → x ∈ the_kept
      edit_kept x m = Memᴰ.append_left (keep (λ (a : A). not (any (disagree a) the_edits)) old) m

      pub old-kept : (x : A) → x ∈ old → Agrees disagree x the_edits → x ∈ the_kept
      old-kept x m h =
          Memᴰ.append_right the_edits (keep_in (λ (a : A). not (any (disagree a) the_edits)) m (not_T (any (disagree x) the_edits) none))
        where
          none : T (any (disagree x) the_edits) → ⊥
          none t = let w = any_out (disagree x) the_edits t in h w.0 w.1 w.2

      pub kept_known : (x : A) → x ∈ the_kept → InSome x
      kept_known x m = go (kept_cases x m)
        where
          go : Cases x → InSome x
          go (inl k) = edit_known x k
          go (inr w) = (old, here refl, w.0)

      -- if neither two edits nor two old facts disagree, no two kept facts do
      pub kept_coherent : ((x y : A) → T (disagree x y) → T (disagree y x)) → Coherent disagree the_edits → Coherent disagree old
          → Coherent disagree the_kept
      kept_coherent flip edits_agree old_agree x y m k t = go (kept_cases x m) (kept_cases y k)
        where
          go : Cases x → Cases y → ⊥
          go (inl a) (inl b) = edits_agree x y a b t
          go (inl a) (inr b) = b.1 x a (flip x y t)
          go (inr a) (inl b) = a.1 y b t
          go (inr a) (inr b) = old_agree x y a.0 b.0 t

      -- facts of the tables with every edit, of which no two disagree: all are kept, and nothing kept disagrees with them
      module _ (facts : List A) (facts_agree : Coherent disagree facts) (old_agree : Coherent disagree old)
          (edited : (x : A) → x ∈ the_edits → x ∈ facts) (known : (x : A) → x ∈ facts → InSome x) where
        pub all-kept : (x : A) → x ∈ facts → x ∈ the_kept
        all-kept x m = go (old-or_edit x (known x m))
          where
            go : (x ∈ old) ⊎ (x ∈ the_edits) → x ∈ the_kept
            go (inl k) = old-kept x k (λ y i. facts_agree x y m (edited y i))
            go (inr k) = edit_kept x k

        pub kept_agrees : (x y : A) → x ∈ facts → y ∈ the_kept → T (disagree y x) → ⊥
        kept_agrees x y m k t = go (kept_cases y k) (old-or_edit x (known x m))
          where
            go : Cases y → (x ∈ old) ⊎ (x ∈ the_edits) → ⊥
            go (inl a) b = facts_agree y x (edited y a) m t
            go (inr a) (inl b) = old_agree y x a.0 b t
            go (inr a) (inr b) = a.1 x b t
