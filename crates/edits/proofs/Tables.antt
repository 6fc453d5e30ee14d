-- Tables in memory answer as their facts say, and each parent stands on a line. lines and facts are the arrays of the tables' arrays,
-- old and branches the tables' rows; n is a parent, k a table. Assumes nothing.
use mathlib.Core.Path.{◌≡◌, sym, ap, ◌∙◌, subst}
use mathlib.Core.List.{List, [], ◌∷◌, map}
use Prim.Native.Nat.{ℕ, ◌<◌}
use native.Mathlib.Omega.{arith}
use lib.ListN.{length, get_or, length-map}
use Rattle.rules.specs.Line.{Row}
use Rattle.rules.specs.Facts.{Facts, facts_of, positions_of}
use Rattle.rules.specs.Demands.{Readable}
use Rattle.facts.specs.Memory.{TABLES, BRANCHES, line_at}
use Rattle.facts.specs.Holds.{Holds}
use Rattle.facts.proofs.Views.{View}
use Rattle.facts.proofs.Shown.{shown, yes_list}
use Rattle.edits.specs.Memory.{ask, number_on}
use Rattle.edits.proofs.Telling.{at_map}
use Rattle.edits.proofs.Clashing.{Views}
use Rattle.edits.proofs.Leasts.{Met}

-- the facts of some kind that table k has are those of its rows
pub rows-facts : {A : Type 0} (kind : Facts → List A) (tables : List (List Row)) (k : ℕ) → k < length tables
    → get_or (map kind (map facts_of tables)) k [] ≡ kind (facts_of (get_or tables k []))
rows-facts kind tables k h =
    at_map kind (map facts_of tables) k (facts_of []) [] (omega (arith, length-map tables facts_of))
    ∙ ap kind (at_map facts_of tables k [] (facts_of []) h)

module _ (lines facts : List (List ℕ)) (old : List Row) (branches : List (List Row)) (many : length branches ≡ BRANCHES)
    (holds : (k : ℕ) → k < TABLES → Holds (get_or lines k []) (get_or facts k []) (get_or (old ∷ branches) k []))
    (readable : (k : ℕ) → k < TABLES → Readable (get_or (old ∷ branches) k [])) where
  pub position_views : Views (ask lines facts) (facts_of old) (map facts_of branches)
  position_views = record {
    many = length-map branches facts_of ∙ many;
    view = λ k h. subst (View (ask lines facts k)) (sym (rows-facts positions_of (old ∷ branches) k (omega (arith, many))))
        (shown (get_or lines k []) (get_or facts k []) (get_or (old ∷ branches) k []) (holds k h) (readable k h));
  }

  pub parents_met : (counts : ℕ → ℕ) → ((k : ℕ) → k < TABLES → counts k ≡ length (get_or (old ∷ branches) k []))
      → Met (ask lines facts) (number_on facts) counts
  parents_met counts counted k h n t =
      let m = yes_list (get_or lines k []) (get_or facts k []) (get_or (old ∷ branches) k []) (holds k h) (readable k h) n t in
      (line_at (get_or lines k []) n, omega (arith, (holds k h).few n, counted k h), (holds k h).named n m)
