-- What was laid down from tables in memory is the merged tree of the rules, with the least place of 24, and can be written. texts, lines
-- and facts are those of all tables, old and branches their rows; ls and fs are the two arrays of the merged table, with 0 before it is
-- laid; n is a record, k a table. Assumes nothing.
use mathlib.Core.Path.{◌≡◌, sym, ap, ◌∙◌, subst}
use mathlib.Core.List.{List, [], ◌∷◌, map}
use Prim.Native.Nat.{ℕ, zero, suc, ◌<◌, ◌≤◌}
use native.Mathlib.Omega.{arith}
use lib.Dec.{T}
use lib.ListN.{get_or, length}
use Rattle.std.specs.Prelude.{Option}
use Rattle.rules.specs.Limits.{LINES}
use Rattle.rules.specs.Lists.{◌∈◌, flat}
use Rattle.rules.specs.Line.{Content, Row}
use Rattle.rules.specs.Table.{numbers}
use Rattle.rules.specs.Tree.{tree_of}
use Rattle.rules.specs.Facts.{Facts, facts_of}
use Rattle.rules.specs.Merge.{broken_lists, content_clashes, content_in, kept_contents, kept_positions, merged_tree, neighbour_clashes}
use Rattle.rules.specs.Merge.{parent_clashes}
use Rattle.rules.specs.declared.answers.Part.{Part}
use Rattle.trees.proofs.Lists.{flat_in, flat_out}
use Rattle.trees.proofs.OneTable.{row_number}
use Rattle.trees.proofs.Accepting.{kept-positions_coherent}
use Rattle.trees.proofs.TableTree.{table_sound}
use Rattle.facts.specs.Memory.{TABLES}
use Rattle.facts.specs.Asked.{has_in}
use Rattle.facts.specs.Holds.{Holds}
use Rattle.facts.proofs.Shown.{has_number, number_has}
use Rattle.write.specs.Stored.{Lies, Stored, part_in}
use Rattle.edits.specs.Least.{least_or_none}
use Rattle.edits.specs.Memory.{ask}
use Rattle.edits.proofs.Branches.{IsBranch}
use Rattle.edits.proofs.Telling.{at_in, in_at}
use Rattle.contents.specs.Tables.{SideBySide}
use Rattle.contents.proofs.Tables.{ask_views, kept_lies, kept-part}
use Rattle.merged.specs.Laying.{Result, Steps}
use Rattle.merged.specs.Memory.{kept_next, kept_part}
use Rattle.merged.proofs.Reaching.{flat_few, steps}

module _ (texts lines facts : List (List ℕ)) (old : List Row) (branches : List (List Row))
    (m : SideBySide texts lines facts old branches) where
  abbrev O : Facts
  O = facts_of old

  abbrev B : List Facts
  B = map facts_of branches

  -- the records of the branches
  abbrev pub branch_numbers : List ℕ
  branch_numbers = flat numbers branches

  abbrev table_at : ℕ → List Row
  table_at k = get_or (old ∷ branches) k []

  held : (k : ℕ) → k < TABLES → Holds (get_or lines k []) (get_or facts k []) (table_at k)
  held k h = (m.stored k h).holds

  pub branch_has : (n : ℕ) → n ∈ branch_numbers → (k : ℕ) × IsBranch k × T (has_in (get_or lines k []) n)
  branch_has n i =
      let w = flat_out numbers branches i in
      let j = in_at branches w.0 [] w.1 in
      let k = suc j.0 in
      let h : k < TABLES = omega (arith, j.1, m.many) in (
        k,
        (omega arith, h),
        number_has (get_or lines k []) (get_or facts k []) (table_at k) (held k h) n
            (subst (λ (t : List Row). n ∈ numbers t) (sym j.2) w.2),
      )

  has_branch : (k n : ℕ) → IsBranch k → T (has_in (get_or lines k []) n) → n ∈ branch_numbers
  has_branch zero n b t = absurd (omega (arith, b.0))
  has_branch (suc j) n b t =
      flat_in numbers (at_in branches j [] (omega (arith, b.1, m.many)))
      (has_number (get_or lines (suc j) []) (get_or facts (suc j) []) (table_at (suc j)) (held (suc j) b.1) n t)

  -- ---- the steps

  module _ (short : (t : List Row) → t ∈ branches → length t ≤ LINES) (no_parent : parent_clashes O B ≡ [])
      (no_neighbour : neighbour_clashes O B ≡ []) where
    pub kept_steps : Steps (kept_next lines facts) (kept_positions O B) branch_numbers
    kept_steps =
        steps (ask lines facts) O B (ask_views texts lines facts old branches m) branch_numbers branch_has has_branch
        (kept-positions_coherent O B (table_sound old (m.stored 0 (omega arith)).readable.distinct) no_parent no_neighbour)
        (omega (arith, flat_few branches short, m.many))

  -- ---- the merged table

  abbrev ct : ℕ → Content
  ct = content_in (kept_contents O B)

  module _ (ls fs : List ℕ) (count : ℕ) (broken : Option ℕ)
      (g : Result (kept_part texts lines facts) (kept_positions O B) branch_numbers ct ls fs count broken) where
    pub tree-merged : merged_tree O B ≡ tree_of g.rows
    unfolding merged_tree
    tree-merged = g.tree

    pub broken_least : broken ≡ least_or_none (broken_lists O B)
    unfolding merged_tree broken_lists
    broken_least = g.least_broken

    -- its contents lie in the tables' texts
    pub merged_stored : length texts ≡ TABLES → content_clashes O B ≡ [] → Stored texts ls fs g.rows
    merged_stored e no_content = record {
      readable = g.readable;
      holds = g.holds;
      lies = λ x i. let n = x.number in let w = from x i in
          subst (λ (p : Part). Lies texts p.start p.length) (sym (g.placed n (row_number g.rows x i)))
          (kept_lies texts lines facts old branches m w.0 n w.1.1 w.2 e);
      contents = λ x i. let n = x.number in let w = from x i in
          g.filled x i
          ∙ sym (kept-part texts lines facts old branches m w.0 n w.1.1 w.2 no_content)
          ∙ ap (λ (p : Part). part_in texts p.start p.length) (sym (g.placed n (row_number g.rows x i)));
    }
      where
        from : (x : Row) → x ∈ g.rows → (k : ℕ) × IsBranch k × T (has_in (get_or lines k []) x.number)
        from x i = branch_has x.number (g.within x.number (row_number g.rows x i))
