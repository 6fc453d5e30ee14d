-- The kept facts of some tables as steps: where no two edits clash they do not disagree, and whoever is reached is a record of a branch.
-- q k is asked of table k, and table 0 is old; r is a parent, p the one before, n a record, k a branch. Assumes nothing.
use mathlib.Core.Path.{◌≡◌, refl, sym, subst}
use mathlib.Core.Logic.{◌⊎◌, inl, inr}
use mathlib.Core.List.Memᴰ.{head as here}
use mathlib.Core.List.Memᴰ.{tail as there}
use mathlib.Core.List.{List, [], ◌∷◌}
use Prim.Native.Nat.{ℕ, ◌<◌, ◌≤◌, ◌*◌}
use native.Mathlib.Omega.{arith}
use lib.Dec.{T, eqb}
use lib.ListN.{length, length-append, length-map}
use mir.Facts.{yes_eqb}
use Rattle.rules.specs.Limits.{LINES}
use Rattle.rules.specs.Lists.{◌∈◌, flat}
use Rattle.rules.specs.Marks.{TOP, START, is_record}
use Rattle.rules.specs.Line.{Row}
use Rattle.rules.specs.Table.{numbers}
use Rattle.rules.specs.Facts.{Facts, positions_disagree}
use Rattle.rules.specs.Merge.{kept_positions}
use Rattle.trees.proofs.Lists.{is_true, or_left, or_right}
use Rattle.trees.proofs.Kept.{Coherent}
use Rattle.trees.proofs.Disagreeing.{number_of}
use Rattle.facts.specs.Memory.{ROOM}
use Rattle.facts.specs.Asked.{Asked}
use Rattle.facts.proofs.Views.{lists}
use Rattle.edits.specs.Positions.{kept_after, knows}
use Rattle.edits.proofs.Branches.{IsBranch}
use Rattle.edits.proofs.Clashing.{Views}
use Rattle.edits.proofs.Keeping.{goes_kept, kept_goes, reach}
use Rattle.merged.specs.Laying.{Steps}

-- ---- so many records at most

pub flat_few : (tables : List (List Row)) → ((t : List Row) → t ∈ tables → length t ≤ LINES)
    → length (flat numbers tables) ≤ length tables * LINES
flat_few [] h = omega arith
flat_few (t ∷ tables) h =
    omega (
      arith,
      length-append (numbers t) (flat numbers tables),
      length-map t number_of,
      h t (here refl),
      flat_few tables (λ s m. h s (there m)),
    )

-- ---- the steps

module _ (q : ℕ → Asked) (old : Facts) (branches : List Facts) (w : Views q old branches) (known : List ℕ)
    (from : (n : ℕ) → n ∈ known → (k : ℕ) × IsBranch k × T ((q k).has n)) (into : (k n : ℕ) → IsBranch k → T ((q k).has n) → n ∈ known)
  where
    -- a branch knows the place
    abbrev Place : ℕ → ℕ → Type 0
    Place r p = (k : ℕ) × IsBranch k × T (knows (q k).has r p)

    known_place : (r p : ℕ) → r ∈ TOP ∷ known → (p ≡ START) ⊎ (p ∈ known) → Place r p
    known_place r p i (inr m) =
        let x = from p m in
        let is_record_lem : T (is_record p) = ((w.view x.0 x.1.1).placed p x.2).0 in
        (x.0, x.1, rw (is_true (is_record p) is_record_lem) x.2)
    known_place r p i (inl e) = subst (Place r) (sym e) (go i)
      where
        go : r ∈ TOP ∷ known → (k : ℕ) × IsBranch k × T (lists (q k) r)
        go (here d) = (1, (omega arith, omega arith), or_left (eqb r TOP) ((q 1).has r) (yes_eqb d))
        go (there m) = let x = from r m in (x.0, x.1, or_right (eqb r TOP) ((q x.0).has r) x.2)

    pub steps : Coherent positions_disagree (kept_positions old branches) → length known < ROOM
        → Steps (kept_after q) (kept_positions old branches) known
    steps calm few = record {
      calm = calm;
      goes = goes_kept q old branches w;
      kept_goes = λ r p s m. kept_goes q old branches w r p calm s m;
      stays = λ r p i j t. let x = reach q old branches w r p (known_place r p i j) t in into x.0 (kept_after q r p) x.1 x.2;
      few = few;
    }
