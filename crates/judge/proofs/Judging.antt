-- What is judged, way by way through the code, is what the rules say. texts, lines and facts are those of the tables that are merged, old
-- and branches their rows, `counts` how many they have; ls and fs are the arrays of the merged table; c are the least places of clashes;
-- x is a row, n a record. Assumes nothing.
use mathlib.Core.Path.{◌≡◌, refl, sym, ap, ◌∙◌, subst}
use mathlib.Core.List.Memᴰ.{head as here}
use mathlib.Core.List.Memᴰ.{tail as there}
use mathlib.Core.List.{List, [], ◌∷◌, map}
use Prim.Native.Nat.{ℕ, suc, ◌<◌, ◌≤◌}
use native.Mathlib.Omega.{arith}
use lib.Dec.{T}
use lib.ListN.{length, get_or}
use Rattle.judge.proofs.Chain.{merge_21, merge_22, merge_23, merge_24, merge_25, merge_done}
use Rattle.rules.specs.Lists.{◌∈◌}
use Rattle.rules.specs.Limits.{LINES}
use Rattle.std.specs.Prelude.{Option, None, Some, Result, Ok, Err}
use Rattle.rules.specs.Kinds.{clash_code}
use Rattle.rules.specs.declared.kinds.Clash.{Clash}
use Rattle.rules.specs.declared.kinds.Clash.TheVariants.{Content, Parent, Neighbour, BrokenList, LostEdit}
use Rattle.rules.specs.declared.record.Record.{Record}
use Rattle.rules.specs.Marks.{TOP}
use Rattle.rules.specs.Line.{Row}
use Rattle.rules.specs.Tree.{rows, tree_of}
use Rattle.rules.specs.Facts.{Facts, facts_of}
use Rattle.rules.specs.Merge.{Result as Verdict, refused, merged, merge, merged_tree, content_clashes, parent_clashes, neighbour_clashes}
use Rattle.rules.specs.Merge.{broken_lists, lost_edits, kept_positions, kept_contents, content_in}
use Rattle.rules.specs.Ledger.{origin, entries_of}
use Rattle.trees.proofs.OneTable.{row_number}
use Rattle.trees.proofs.SameRows.{rows_in}
use Rattle.rules.specs.declared.answers.Part.{Part}
use Rattle.facts.specs.Memory.{TABLES, PLACE, origin_of, field, no_lines, no_facts, opened}
use Rattle.facts.specs.Asked.{has_in}
use Rattle.facts.proofs.Fresh.{fresh_holds}
use Rattle.write.specs.Stored.{Stored}
use Rattle.write.proofs.Parts.{stored_length}
use Rattle.ledger.specs.Entries.{entry_at, entries_in}
use Rattle.edits.specs.Least.{numbered, least_or_none}
use Rattle.edits.proofs.Telling.{in_at}
use Rattle.edits.proofs.Best.{no_place}
use Rattle.contents.specs.Memory.{tell}
use Rattle.contents.proofs.Keeping.{kept-content}
use Rattle.contents.proofs.Origins.{origin_is}
use Rattle.contents.proofs.Tables.{tell_views, kept-origin}
use Rattle.clashes.specs.declared.Clashes.{Clashes}
use Rattle.clashes.specs.Clashes.{Places, places, all_clashes}
use Rattle.clashes.proofs.Finding.{content-least, parent_least, neighbour_least}
use Rattle.merged.specs.Laying.{LaidDown, Result as Laid}
use Rattle.merged.specs.Memory.{kept_next, kept_part}
use Rattle.merged.proofs.Merging.{branch_numbers, branch_has, kept_steps, tree-merged, broken_least, merged_stored}
use Rattle.lost.specs.Lost.{all_lost}
use Rattle.lost.proofs.Finding.{lost-least}
use Rattle.judge.specs.declared.Refusal.{Refusal}
use Rattle.judge.specs.Judged.{clash_at, MergedIn, InMemory, Judges}

map_same : {A B : Type 0} (f g : A → B) (xs : List A) → ((x : A) → x ∈ xs → f x ≡ g x) → map f xs ≡ map g xs
map_same f g [] h = refl
map_same f g (x ∷ xs) h = (λ i. h x (here refl) i ∷ map_same f g xs (λ y m. h y (there m)) i)

-- ---- a kind that has a place or none

told_at : (k : Clash) (p : Option Record) (z : Refusal) → ◌≡◌ {A = Result Unit Refusal} (Err z) (clash_at k p)
    → (p ≡ Some z.place) × (z.clash ≡ k)
told_at k None z e = absurd (cc e)
told_at k (Some place) z e =
    let same : z ≡ record { clash = k; place = place } = same_error e in
    (ap Some (ap (λ (x : Refusal). x.place) (sym same)), ap (λ (x : Refusal). x.clash) same)
  where
    same_error : {a b : Refusal} → ◌≡◌ {A = Result Unit Refusal} (Err a) (Err b) → a ≡ b
    same_error e = cc

pub none_told : (k : Clash) (p : Option Record) (u : Unit) → ◌≡◌ {A = Result Unit Refusal} (Ok u) (clash_at k p) → p ≡ None
none_told k None u e = refl
none_told k (Some place) u e = absurd (cc e)

-- a place that is told as the least of its kind is refused there
refused_at : (k : Clash) (p : Option Record) (z : Refusal) (P : List ℕ) (v : Verdict)
    → ◌≡◌ {A = Result Unit Refusal} (Err z) (clash_at k p) → numbered p ≡ least_or_none P
    → ((n : ℕ) → least_or_none P ≡ Some n → v ≡ refused (clash_code k) n) → v ≡ refused (clash_code z.clash) z.place.number
refused_at k p z P v e is told =
    let x = told_at k p z e in
    told z.place.number (sym is ∙ ap numbered x.0) ∙ ap (λ (j : Clash). refused (clash_code j) z.place.number) (sym x.1)

-- ---- the tables

module _ (texts lines facts : List (List ℕ)) (counts : List ℕ) (long : length texts ≡ TABLES) (c : Clashes)
    (ce : places c ≡ all_clashes texts lines facts counts) where
  module _ (old : List Row) (branches : List (List Row)) (b : InMemory texts lines facts counts old branches) where
    abbrev O : Facts
    O = facts_of old

    abbrev Bs : List Facts
    Bs = map facts_of branches

    content_is : numbered c.content ≡ least_or_none (content_clashes O Bs)
    content_is = ap (λ (k : Places). k.content) ce ∙ content-least texts lines facts old branches b.side counts b.counted

    parent_is : numbered c.parent ≡ least_or_none (parent_clashes O Bs)
    parent_is = ap (λ (k : Places). k.parent) ce ∙ parent_least texts lines facts old branches b.side counts b.counted

    neighbour_is : numbered c.neighbour ≡ least_or_none (neighbour_clashes O Bs)
    neighbour_is = ap (λ (k : Places). k.neighbour) ce ∙ neighbour_least texts lines facts old branches b.side counts b.counted

    no_content : c.content ≡ None → content_clashes O Bs ≡ []
    no_content e = no_place (content_clashes O Bs) (sym content_is ∙ ap numbered e)

    no_parent : c.parent ≡ None → parent_clashes O Bs ≡ []
    no_parent e = no_place (parent_clashes O Bs) (sym parent_is ∙ ap numbered e)

    no_neighbour : c.neighbour ≡ None → neighbour_clashes O Bs ≡ []
    no_neighbour e = no_place (neighbour_clashes O Bs) (sym neighbour_is ∙ ap numbered e)

    content_refused : (z : Refusal) → ◌≡◌ {A = Result Unit Refusal} (Err z) (clash_at Content c.content)
        → merge O Bs ≡ refused (clash_code z.clash) z.place.number
    content_refused z e = refused_at Content c.content z (content_clashes O Bs) (merge O Bs) e content_is (merge_21 O Bs)

    module _ (no_c : c.content ≡ None) where
      parent_refused : (z : Refusal) → ◌≡◌ {A = Result Unit Refusal} (Err z) (clash_at Parent c.parent)
          → merge O Bs ≡ refused (clash_code z.clash) z.place.number
      parent_refused z e = refused_at Parent c.parent z (parent_clashes O Bs) (merge O Bs) e parent_is (merge_22 O Bs (no_content no_c))

      module _ (no_p : c.parent ≡ None) where
        neighbour_refused : (z : Refusal) → ◌≡◌ {A = Result Unit Refusal} (Err z) (clash_at Neighbour c.neighbour)
            → merge O Bs ≡ refused (clash_code z.clash) z.place.number
        neighbour_refused z e =
            refused_at Neighbour c.neighbour z (neighbour_clashes O Bs) (merge O Bs) e neighbour_is
            (merge_23 O Bs (no_content no_c) (no_parent no_p))

    -- ---- after the walk

    module _ (no_c : c.content ≡ None) (no_p : c.parent ≡ None) (no_n : c.neighbour ≡ None) (ls fs : List ℕ) (count : ℕ)
        (broken : Option Record)
        (g : LaidDown (kept_next lines facts) (kept_part texts lines facts) no_lines (opened no_facts) ls fs count (numbered broken)) where
      short : (t : List Row) → t ∈ branches → length t ≤ LINES
      short t m =
          let j = in_at branches t [] m in
          subst (λ (u : List Row). length u ≤ LINES) j.2 (b.few (suc j.0) (omega (arith, j.1, b.side.many)))

      laid : Laid (kept_part texts lines facts) (kept_positions O Bs) (branch_numbers texts lines facts old branches b.side)
          (content_in (kept_contents O Bs)) ls fs count (numbered broken)
      laid =
          g.all (kept_positions O Bs) (branch_numbers texts lines facts old branches b.side)
          (kept_steps texts lines facts old branches b.side short (no_parent no_p) (no_neighbour no_n))
          fresh_holds (content_in (kept_contents O Bs))

      abbrev t : List Row
      t = laid.rows

      is_tree : merged_tree O Bs ≡ tree_of t
      is_tree = tree-merged texts lines facts old branches b.side ls fs count (numbered broken) laid

      is_broken : numbered broken ≡ least_or_none (broken_lists O Bs)
      is_broken = broken_least texts lines facts old branches b.side ls fs count (numbered broken) laid

      stored : Stored texts ls fs t
      stored = merged_stored texts lines facts old branches b.side ls fs count (numbered broken) laid long (no_content no_c)

      broken_refused : (z : Refusal) → ◌≡◌ {A = Result Unit Refusal} (Err z) (clash_at BrokenList broken)
          → merge O Bs ≡ refused (clash_code z.clash) z.place.number
      broken_refused z e =
          refused_at BrokenList broken z (broken_lists O Bs) (merge O Bs) e is_broken
          (merge_24 O Bs (no_content no_c) (no_parent no_p) (no_neighbour no_n))

      module _ (whole : broken ≡ None) (v : Option Record) (ve : numbered v ≡ all_lost texts lines facts ls fs counts) where
        no_broken : broken_lists O Bs ≡ []
        no_broken = no_place (broken_lists O Bs) (sym is_broken ∙ ap numbered whole)

        is_lost : numbered v ≡ least_or_none (lost_edits O Bs)
        is_lost =
            ve
            ∙ lost-least texts lines facts old branches b.side counts b.counted (no_content no_c) ls fs t laid.holds
            laid.readable is_tree

        lost_refused : (z : Refusal) → ◌≡◌ {A = Result Unit Refusal} (Err z) (clash_at LostEdit v)
            → merge O Bs ≡ refused (clash_code z.clash) z.place.number
        lost_refused z e =
            refused_at LostEdit v z (lost_edits O Bs) (merge O Bs) e is_lost
            (merge_25 O Bs (no_content no_c) (no_parent no_p) (no_neighbour no_n) no_broken)

        -- ---- the tree

        module _ (x : Row) (m : x ∈ t) where
          from : (k : ℕ) × (T (has_in (get_or lines k []) x.number) × (k < TABLES))
          from =
              let y = branch_has texts lines facts old branches b.side x.number (laid.within x.number (row_number t x m)) in
              (y.0, (y.2, y.1.1))

          origin-same : origin_of (field ls fs x.number PLACE) ≡ origin O Bs x
          origin-same =
              ap (λ (p : Part). origin_of p.start) (laid.placed x.number (row_number t x m))
              ∙ kept-origin texts lines facts old branches b.side x.number
              ∙ sym (origin_is (tell texts lines facts) O Bs (tell_views texts lines facts old branches b.side)
              (no_content no_c) x
              (laid.filled x m ∙ kept-content (tell texts lines facts) O Bs (tell_views texts lines facts old branches b.side)
              (no_content no_c) from.0 x.number from.1.1 from.1.0))

          entry_same : entry_at ls fs x.number ≡ record { number = x.number; origin = origin O Bs x; bytes = length x.content }
          entry_same = λ i. record { number = x.number; origin = origin-same i; bytes = stored_length texts ls fs t stored x m i }

        entries-same : entries_in ls fs t ≡ entries_of old branches (tree_of t)
        entries-same =
            map_same (λ (x : Row). entry_at ls fs x.number)
            (λ (x : Row). record { number = x.number; origin = origin O Bs x; bytes = length x.content }) (rows TOP (tree_of t))
            (λ x m. entry_same x (rows_in t laid.readable x m))

        in_memory : v ≡ None → MergedIn texts ls fs old branches count
        in_memory h = record {
          t = t;
          is =
              merge_done O Bs (no_content no_c) (no_parent no_p) (no_neighbour no_n) no_broken
              (no_place (lost_edits O Bs) (sym is_lost ∙ ap numbered h))
              ∙ ap merged is_tree;
          stored = stored;
          order = laid.order;
          counted = sym laid.size;
          entries = entries-same;
        }

  -- ---- the ways through the code

  pub judged_content : (ls fs : List ℕ) (z : Refusal) → ◌≡◌ {A = Result Unit Refusal} (Err z) (clash_at Content c.content)
      → Judges texts lines facts counts ls fs (Err z)
  judged_content ls fs z e = record { says = λ old branches b. content_refused old branches b z e }

  module _ (no_c : c.content ≡ None) where
    pub judged_parent : (ls fs : List ℕ) (z : Refusal) → ◌≡◌ {A = Result Unit Refusal} (Err z) (clash_at Parent c.parent)
        → Judges texts lines facts counts ls fs (Err z)
    judged_parent ls fs z e = record { says = λ old branches b. parent_refused old branches b no_c z e }

    module _ (no_p : c.parent ≡ None) where
      pub judged_neighbour : (ls fs : List ℕ) (z : Refusal) → ◌≡◌ {A = Result Unit Refusal} (Err z) (clash_at Neighbour c.neighbour)
          → Judges texts lines facts counts ls fs (Err z)
      judged_neighbour ls fs z e = record { says = λ old branches b. neighbour_refused old branches b no_c no_p z e }

      module _ (no_n : c.neighbour ≡ None) (ls₀ fs₁ fs₀ ls fs : List ℕ) (le : ls₀ ≡ no_lines) (fe₁ : fs₁ ≡ no_facts)
          (fe₀ : fs₀ ≡ opened fs₁) (count : ℕ) (broken : Option Record)
          (from : LaidDown (kept_next lines facts) (kept_part texts lines facts) ls₀ fs₀ ls fs count (numbered broken)) where
        g : LaidDown (kept_next lines facts) (kept_part texts lines facts) no_lines (opened no_facts) ls fs count (numbered broken)
        g =
            subst (λ (l : List ℕ). LaidDown (kept_next lines facts) (kept_part texts lines facts) l (opened no_facts) ls fs count
            (numbered broken)) le
            (subst (λ (f : List ℕ). LaidDown (kept_next lines facts) (kept_part texts lines facts) ls₀ f ls fs count (numbered broken))
            (fe₀ ∙ ap opened fe₁) from)

        pub judged_broken : (z : Refusal) → ◌≡◌ {A = Result Unit Refusal} (Err z) (clash_at BrokenList broken)
            → Judges texts lines facts counts ls fs (Err z)
        judged_broken z e = record { says = λ old branches b. broken_refused old branches b no_c no_p no_n ls fs count broken g z e }

        module _ (whole : broken ≡ None) (v : Option Record) (ve : numbered v ≡ all_lost texts lines facts ls fs counts) where
          pub judged-lost : (z : Refusal) → ◌≡◌ {A = Result Unit Refusal} (Err z) (clash_at LostEdit v)
              → Judges texts lines facts counts ls fs (Err z)
          judged-lost z e = record {
            says = λ old branches b. lost_refused old branches b no_c no_p no_n ls fs count broken g whole v ve z e;
          }

          pub judged-tree : v ≡ None → Judges texts lines facts counts ls fs (Ok count)
          judged-tree h = record {
            says = λ old branches b. in_memory old branches b no_c no_p no_n ls fs count broken g whole v ve h;
          }
