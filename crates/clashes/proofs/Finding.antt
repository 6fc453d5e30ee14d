-- The least places found in memory are those of the rules' clashes. texts, lines and facts are those of all tables, old and branches
-- their rows, `counts` how many they have; n is a record, k a branch. Assumes nothing.
use mathlib.Core.Path.{◌≡◌, refl, sym, subst}
use mathlib.Core.Bool.{Bool}
use mathlib.Core.List.{List, [], ◌∷◌, map}
use Prim.Native.Nat.{ℕ, suc, ◌<◌}
use lib.Dec.{T, eqb}
use mir.Facts.{and_yes}
use lib.ListN.{length, get_or}
use Rattle.rules.specs.Lists.{◌∈◌}
use Rattle.rules.specs.Marks.{TOP}
use Rattle.rules.specs.Line.{Row}
use Rattle.rules.specs.Facts.{Facts, facts_of}
use Rattle.rules.specs.Merge.{content_clashes, parent_clashes, neighbour_clashes}
use Rattle.trees.proofs.Lists.{or_right}
use Rattle.facts.specs.Memory.{TABLES}
use Rattle.facts.specs.Asked.{Asked}
use Rattle.edits.specs.Least.{least_or_none, best_of}
use Rattle.edits.specs.Memory.{ask, number_on}
use Rattle.edits.proofs.Branches.{IsBranch}
use Rattle.edits.proofs.Clashing.{Views}
use Rattle.edits.proofs.Best.{AtMost, place_in, place-le, best_of_is}
use Rattle.edits.proofs.Leasts.{Met, least-parents, least_neighbours}
use Rattle.contents.specs.Contents.{Told, fresh_content, two_contents, content_place}
use Rattle.contents.specs.Memory.{tell}
use Rattle.contents.proofs.Clashing.{ContentViews, clash_in, clash_out}
use Rattle.contents.specs.Tables.{SideBySide}
use Rattle.contents.proofs.Tables.{tell_views, ask_views, ask_met}
use Rattle.clashes.specs.Clashes.{all_clashes}

-- ---- 21

module _ (w : ℕ → Told) (old : Facts) (branches : List Facts) (v : ContentViews w old branches) where
  has_of : (k n : ℕ) → T (two_contents w k n) → T ((w k).has n)
  has_of k n t = (and_yes ((w k).has n) _ (and_yes (fresh_content w k n) _ t).0).0

  module _ (q : ℕ → Asked) (same : (k : ℕ) → (q k).has ≡ (w k).has) (number : ℕ → ℕ → ℕ) (counts : ℕ → ℕ) (met : Met q number counts) where
    least-contents : best_of (λ k i. content_place w k (number k i)) counts ≡ least_or_none (content_clashes old branches)
    least-contents =
        best_of_is (content_clashes old branches) (λ k i. content_place w k (number k i)) counts
        (λ k i b. place_in _ (two_contents w k (number k i)) (number k i) (clash_in w old branches v k (number k i) b)) found
      where
        found : (n : ℕ) → n ∈ content_clashes old branches
            → (k : ℕ) × IsBranch k × ((i : ℕ) × (i < suc (counts k)) × AtMost (content_place w k (number k i)) n)
        found n m =
            let x = clash_out w old branches v n m in
            let k = x.0 in
            let h : T ((q k).has n) = subst (λ (has : ℕ → Bool). T (has n)) (sym (same k)) (has_of k n x.2) in
            let i = met k x.1.1 n (or_right (eqb n TOP) ((q k).has n) h) in
            (k, x.1, (i.0, i.1, subst (λ (z : ℕ). AtMost (content_place w k z) n) (sym i.2) (place-le (two_contents w k n) n x.2)))

-- ---- in memory

module _ (texts lines facts : List (List ℕ)) (old : List Row) (branches : List (List Row))
    (m : SideBySide texts lines facts old branches) where
  abbrev O : Facts
  O = facts_of old

  abbrev Bs : List Facts
  Bs = map facts_of branches

  abbrev q : ℕ → Asked
  q = ask lines facts

  abbrev w : ℕ → Told
  w = tell texts lines facts

  told : ContentViews (tell texts lines facts) (facts_of old) (map facts_of branches)
  told = tell_views texts lines facts old branches m

  views : Views (ask lines facts) (facts_of old) (map facts_of branches)
  views = ask_views texts lines facts old branches m

  module _ (counts : List ℕ) (counted : (k : ℕ) → k < TABLES → get_or counts k 0 ≡ length (get_or (old ∷ branches) k [])) where
    abbrev count : ℕ → ℕ
    count k = get_or counts k 0

    met : Met (ask lines facts) (number_on facts) (λ k. get_or counts k 0)
    met = ask_met texts lines facts old branches m counts counted

    pub content-least : (all_clashes texts lines facts counts).content ≡ least_or_none
        (content_clashes (facts_of old) (map facts_of branches))
    content-least = least-contents w O Bs told q (λ k. refl) (number_on facts) count met

    pub parent_least : (all_clashes texts lines facts counts).parent ≡ least_or_none
        (parent_clashes (facts_of old) (map facts_of branches))
    parent_least = least-parents q O Bs views (number_on facts) count met

    pub neighbour_least : (all_clashes texts lines facts counts).neighbour ≡ least_or_none
        (neighbour_clashes (facts_of old) (map facts_of branches))
    neighbour_least = least_neighbours q O Bs views (number_on facts) count met
