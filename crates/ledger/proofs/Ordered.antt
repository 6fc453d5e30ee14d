-- Where the lines of memory stand in written order, what they tell one after the other is what the table's records tell. ls and fs are the
-- two arrays, t is the table's rows, n a record, l a line. Assumes nothing.
use mathlib.Core.Path.{◌≡◌, refl, sym, ap, ◌∙◌}
use mathlib.Core.List.{List, [], ◌∷◌, ◌++◌, map, map-map, map-append}
use Prim.Native.Nat.{ℕ, zero, suc, ◌≤◌}
use native.Mathlib.Omega.{arith}
use lib.ListN.{length}
use Rattle.rules.specs.Marks.{TOP}
use Rattle.rules.specs.Line.{Row}
use Rattle.rules.specs.Tree.{numbers_in, rows, tree_of}
use Rattle.trees.proofs.Disagreeing.{number_of}
use Rattle.trees.proofs.Trees.{numbers-rows}
use Rattle.facts.specs.Memory.{NUMBER, PLACE, LENGTH, origin_of, field_on}
use Rattle.facts.specs.Holds.{Holds}
use Rattle.facts.specs.Order.{numbers_to, InWrittenOrder}
use Rattle.ledger.specs.Entries.{entry_at, entry_on, entries_in, entries_to}

module _ (ls fs : List ℕ) where
  -- a table's entries, by its records
  entries_in_lem : (t : List Row) → entries_in ls fs t ≡ map (entry_at ls fs) (numbers_in (tree_of t))
  entries_in_lem t = sym (map-map (entry_at ls fs) number_of (rows TOP (tree_of t)))
      ∙ ap (map (entry_at ls fs)) (numbers-rows TOP (tree_of t))

  module _ (t : List Row) (h : Holds ls fs t) where
    -- the record on a line has the entry of the line
    entry_on_lem : (l : ℕ) → l ≤ length t → entry_at ls fs (field_on fs l NUMBER) ≡ entry_on fs l
    entry_on_lem l b =
        let e = h.lined l b in
        λ i. record { number = field_on fs l NUMBER; origin = origin_of (field_on fs (e i) PLACE); bytes = field_on fs (e i) LENGTH }

    by_lines : (l : ℕ) → l ≤ length t → map (entry_at ls fs) (numbers_to fs l) ≡ entries_to fs l
    by_lines zero b = refl
    by_lines (suc l) b =
        map-append (entry_at ls fs) (numbers_to fs l) (field_on fs (suc l) NUMBER ∷ [])
        ∙ (λ i. by_lines l (omega arith) i ++ (entry_on_lem (suc l) b i ∷ []))

    pub entries_ordered : InWrittenOrder fs t → (count : ℕ) → count ≡ length t → entries_in ls fs t ≡ entries_to fs count
    entries_ordered o count e =
        entries_in_lem t ∙ ap (map (entry_at ls fs)) (sym o) ∙ by_lines (length t) (omega arith) ∙ ap (entries_to fs) (sym e)
