-- The least place found in memory is that of the rules' lost edits. texts, lines and facts are those of all tables, old and branches their
-- rows, `counts` how many they have; ls and fs are the arrays of the merged table, t its rows; n is a record, r a parent, k a branch, i a
-- line. Assumes nothing.
use mathlib.Core.Path.{◌≡◌, sym, subst}
use mathlib.Core.Logic.{◌⊎◌, inl, inr}
use mathlib.Core.Bool.{not, ◌&&◌}
use mathlib.Core.List.Memᴰ
use mathlib.Core.List.{List, [], ◌∷◌, ◌++◌, map}
use Prim.Native.Nat.{ℕ, suc, ◌<◌}
use lib.Dec.{T, T_not, not_T, eqb}
use mir.Facts.{and_yes, yes_and}
use lib.ListN.{length, get_or}
use Rattle.std.specs.Prelude.{Option, None, Some}
use Rattle.rules.specs.Lists.{◌∈◌}
use Rattle.rules.specs.Marks.{TOP, START}
use Rattle.rules.specs.Line.{Row}
use Rattle.rules.specs.Tree.{Tree, numbers_in, tree_of}
use Rattle.rules.specs.Facts.{PositionFact, Facts, facts_of, tree_positions, tree_contents, same_content_fact, lacking}
use Rattle.rules.specs.Merge.{content_edits, content_clashes, merged_tree, lost_edits}
use Rattle.rules.specs.Demands.{Readable, TreeOf}
use Rattle.trees.proofs.Lists.{or_right}
use Rattle.trees.proofs.Disagreeing.{record_of}
use Rattle.trees.proofs.TableTree.{tree_of_table}
use Rattle.trees.proofs.SameRows.{tree_number, number_tree}
use Rattle.facts.specs.Memory.{TABLES}
use Rattle.facts.specs.Asked.{Asked, has_in, asked}
use Rattle.facts.proofs.Views.{lists}
use Rattle.facts.specs.Holds.{Holds}
use Rattle.facts.proofs.Shown.{shown, number_has, has_number}
use Rattle.edits.specs.Least.{least_or_none}
use Rattle.edits.specs.Memory.{ask, number_on}
use Rattle.edits.proofs.Branches.{IsBranch}
use Rattle.edits.proofs.Best.{PlaceIn, AtMost, place_in, place-le, lesser_in, lesser_left, lesser_right, best_of_is}
use Rattle.edits.proofs.Clashing.{Views}
use Rattle.edits.proofs.Leasts.{Met}
use Rattle.contents.specs.Contents.{Told, fresh_content}
use Rattle.contents.specs.Memory.{tell}
use Rattle.contents.proofs.Clashing.{fresh_out}
use Rattle.contents.proofs.Losing.{merged_holding, lost_in_lem, lost_out}
use Rattle.contents.specs.Tables.{SideBySide}
use Rattle.contents.proofs.Tables.{tell_views, ask_views, ask_met}
use Rattle.lost.specs.Lost.{lost_position, lost_content, lost_place, lost_on, all_lost}
use Rattle.lost.proofs.Positions.{lost_parents, position_in, position_met}

module _ (texts lines facts : List (List ℕ)) (old : List Row) (branches : List (List Row))
    (m : SideBySide texts lines facts old branches) (counts : List ℕ)
    (counted : (k : ℕ) → k < TABLES → get_or counts k 0 ≡ length (get_or (old ∷ branches) k []))
    (none : content_clashes (facts_of old) (map facts_of branches) ≡ []) (ls fs : List ℕ) (t : List Row) (holds : Holds ls fs t)
    (ok : Readable t) (tree : merged_tree (facts_of old) (map facts_of branches) ≡ tree_of t) where
  abbrev O : Facts
  O = facts_of old

  abbrev Bs : List Facts
  Bs = map facts_of branches

  abbrev q : ℕ → Asked
  q = ask lines facts

  abbrev w : ℕ → Told
  w = tell texts lines facts

  abbrev f : Tree
  f = merged_tree (facts_of old) (map facts_of branches)

  abbrev merged : Asked
  merged = asked ls fs

  views : Views (ask lines facts) (facts_of old) (map facts_of branches)
  views = ask_views texts lines facts old branches m

  met : Met (ask lines facts) (number_on facts) (λ k. get_or counts k 0)
  met = ask_met texts lines facts old branches m counts counted

  -- ---- the merged table

  is : TreeOf (facts_of t) (tree_of t)
  is = tree_of_table t ok

  into : (a : PositionFact) → a ∈ tree_positions TOP START f → a ∈ (facts_of t).positions
  into a i = is.positions_in_lem a (subst (λ (g : Tree). a ∈ tree_positions TOP START g) tree i)

  back : (a : PositionFact) → a ∈ (facts_of t).positions → a ∈ tree_positions TOP START f
  back a i = subst (λ (g : Tree). a ∈ tree_positions TOP START g) (sym tree) (is.positions_have a i)

  has_in_lem : (n : ℕ) → T (has_in ls n) → n ∈ numbers_in f
  has_in_lem n h =
      subst (λ (g : Tree). n ∈ numbers_in g) (sym tree) (number_tree t ok n (has_number ls fs t holds n h))

  in_has : (n : ℕ) → n ∈ numbers_in f → T (has_in ls n)
  in_has n i = number_has ls fs t holds n (tree_number t ok n (subst (λ (g : Tree). n ∈ numbers_in g) tree i))

  -- ---- contents

  abbrev lost_records : List ℕ
  lost_records = map record_of (lacking same_content_fact (content_edits O Bs) (tree_contents f))

  content_in_lem : (k n : ℕ) → IsBranch k → PlaceIn lost_records (lost_content w (has_in ls) k n)
  content_in_lem k n b =
      place_in lost_records (not (has_in ls n) && fresh_content w k n) n (λ y.
      let c = and_yes (not (has_in ls n)) (fresh_content w k n) y in
      lost_in_lem w O Bs (tell_views texts lines facts old branches m) none (tree_contents f) (numbers_in f) (merged_holding O Bs) k n
      (λ i. T_not (has_in ls n) c.0 (in_has n i)) b c.1)

  gone : (n : ℕ) → n ∈ lost_records → (n ∈ numbers_in f → ⊥) × ((k : ℕ) × IsBranch k × T (fresh_content w k n))
  gone n i =
      lost_out w O Bs (tell_views texts lines facts old branches m) none (tree_contents f) (numbers_in f) (merged_holding O Bs) n i

  content_has : (k n : ℕ) → T (fresh_content w k n) → T (has_in (get_or lines k []) n)
  content_has k n y = (fresh_out w O Bs (tell_views texts lines facts old branches m) k n y).0

  content-le : (k n : ℕ) → (n ∈ numbers_in f → ⊥) → T (fresh_content w k n) → AtMost (lost_content w (has_in ls) k n) n
  content-le k n out y =
      place-le (not (has_in ls n) && fresh_content w k n) n
      (yes_and (not (has_in ls n)) (fresh_content w k n) (not_T (has_in ls n) (λ h. out (has_in_lem n h))) y)

  -- ---- both

  abbrev parents : List ℕ
  parents = lost_parents O Bs (tree_positions TOP START f)

  Lost : ℕ → Type 0
  Lost n = (k : ℕ) × IsBranch k × ((i : ℕ) × (i < suc (get_or counts k 0)) × AtMost (lost_on texts lines facts ls fs k i) n)

  -- a place that shows at record n of branch k shows on n's line
  on_line_lem : (k n x : ℕ) → IsBranch k → T (lists (q k) n)
      → AtMost (lost_position q merged k n) x ⊎ AtMost (lost_content w (has_in ls) k n) x → Lost x
  unfolding Lost
  on_line_lem k n x b h s =
      let i = met k b.1 n h in
      (k, b, (i.0, i.1, subst (λ (z : ℕ). AtMost (lost_place q w merged k z) x) (sym i.2) (low s)))
    where
      low : AtMost (lost_position q merged k n) x ⊎ AtMost (lost_content w (has_in ls) k n) x → AtMost (lost_place q w merged k n) x
      low (inl e) = lesser_left (lost_position q merged k n) (lost_content w (has_in ls) k n) x e
      low (inr e) = lesser_right (lost_position q merged k n) (lost_content w (has_in ls) k n) x e

  all_in : (k n : ℕ) → IsBranch k → PlaceIn (lost_records ++ parents) (lost_place q w merged k n)
  all_in k n b =
      lesser_in (lost_records ++ parents) (lost_position q merged k n) (lost_content w (has_in ls) k n)
      (right (lost_position q merged k n)
      (position_in q O Bs views merged (facts_of t).positions (tree_positions TOP START f) (shown ls fs t holds ok) into back k n b))
      (left (lost_content w (has_in ls) k n) (content_in_lem k n b))
    where
      left : (v : Option ℕ) → PlaceIn lost_records v → PlaceIn (lost_records ++ parents) v
      left None i = tt
      left (Some n) i = Memᴰ.append_left parents i

      right : (v : Option ℕ) → PlaceIn parents v → PlaceIn (lost_records ++ parents) v
      right None i = tt
      right (Some n) i = Memᴰ.append_right lost_records i

  all_met : (n : ℕ) → n ∈ lost_records ++ parents → Lost n
  all_met n i =
      elim (Memᴰ.append_cases lost_records i) [
        | inl j ↦ let x = gone n j in
            let k = x.1.0 in
            on_line_lem k n n x.1.1 (or_right (eqb n TOP) ((q k).has n) (content_has k n x.1.2))
            (inr (content-le k n x.0 x.1.2))
        | inr j ↦ let x = position_met q O Bs views merged (facts_of t).positions (tree_positions TOP START f) (shown ls fs t holds ok)
            into back n j in
            on_line_lem x.0 x.2.0 n x.1 x.2.1 (inl x.2.2)
      ]

  pub lost-least : all_lost texts lines facts ls fs counts ≡ least_or_none (lost_edits (facts_of old) (map facts_of branches))
  unfolding lost_edits Lost
  lost-least =
      best_of_is (lost_records ++ parents) (lost_on texts lines facts ls fs) (λ k. get_or counts k 0)
      (λ k i b. all_in k (number_on facts k i) b) all_met
