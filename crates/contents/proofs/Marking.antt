-- What the marks come to: the mark of a line by its tests, the loops over lines and branches, what a mark says, and that lines and numbers
-- fit together in tables that lie in memory. texts, lines and facts are those of all tables, ls and fs those of one, `counts` how many
-- records each has, marks the marks and row those of one table. k and t are tables, i and l are lines, o is a line of old, n a record.
-- Assumes nothing.
use mathlib.Core.Path.{◌≡◌, refl, sym, ap, ◌∙◌, subst}
use mathlib.Core.Bool.{Bool, true, false, not, ◌&&◌}
use mathlib.Core.List.Memᴰ.{head as here}
use mathlib.Core.List.Memᴰ.{tail as there}
use mathlib.Core.List.{List, [], ◌∷◌, ◌++◌, map-append}
use Prim.Native.Nat.{ℕ, ◌+◌, ◌%◌, ◌<◌, ◌≤◌}
use native.Mathlib.Omega.{arith}
use native.Mathlib.Decide.{ℕ_discrete}
use lib.Dec.{eqb, ltb}
use lib.ListN.{length, get_or, set, get_or-append, length-map}
use lib.Seq.{get_or-set_same, get_or-set_other}
use borrow.Author.Count.{below_more}
use Rattle.rules.specs.Marks.{TOP, START}
use Rattle.rules.specs.Line.{Row}
use Rattle.rules.specs.Facts.{same_content}
use Rattle.trees.proofs.OneTable.{number_record}
use Rattle.trees.proofs.Marks.{record_high}
use Rattle.facts.specs.Memory.{TABLES, line_at}
use Rattle.facts.specs.Holds.{Holds}
use Rattle.facts.proofs.Shown.{top_line}
use Rattle.edits.specs.Memory.{number_on, unmoved}
use Rattle.contents.specs.Contents.{fresh_content}
use Rattle.contents.specs.Memory.{content_on, tell}
use Rattle.contents.specs.Marks.{LinedTable, Lined, mark_of, mark_on, MarkedTable, Marked, edited_in, Noted}
use Rattle.contents.specs.Marks.{mark_number, row_of_marks, marks_of}
use Rattle.contents.specs.declared.marks.Mark.{Mark}
use Rattle.std.proofs.lemmas.List.{map-set}
use Rattle.contents.specs.Tables.{SideBySide}

-- ---- all lines of a branch

module _ (texts lines facts : List (List ℕ)) (t : ℕ) where
  -- the lines before i are marked
  abbrev pub Filled : List Mark → ℕ → Type 0
  Filled row i = (l : ℕ) → l < i → get_or (row_of_marks row) l 0 ≡ mark_on texts lines facts t l

  pub fill_on : (row : List Mark) (i : ℕ) (m : Mark) → i < length row → Filled row i → mark_number m ≡ mark_on texts lines facts t i
      → Filled (set row i m) (i + 1)
  fill_on row i m h w e =
      let stored : row_of_marks (set row i m) ≡ set (row_of_marks row) i (mark_number m) = map-set mark_number row i m in
      below_more (λ l. get_or (row_of_marks (set row i m)) l 0 ≡ mark_on texts lines facts t l) i
      (λ l g. ap (λ (z : List ℕ). get_or z l 0) stored ∙ get_or-set_other (row_of_marks row) i l (mark_number m) 0
      (λ q. omega (arith, g, q)) ∙ w l g)
      (ap (λ (z : List ℕ). get_or z i 0) stored
      ∙ get_or-set_same (row_of_marks row) i (mark_number m) 0 (omega (arith, h, length-map row mark_number)) ∙ e)

  pub fill_end : (row rest : List Mark) (i count : ℕ) → i ≤ length row → Filled row i → count < i
      → MarkedTable texts lines facts t count (row_of_marks (row ++ rest))
  fill_end row rest i count high w h =
      record {
        on = λ l g. ap (λ (z : List ℕ). get_or z l 0) (map-append mark_number row rest)
            ∙ get_or-append (row_of_marks row) (row_of_marks rest) 0 l (omega (arith, h, g, high, length-map row mark_number))
            ∙ w l (omega (arith, h, g));
      }

-- ---- all branches

module _ (texts lines facts : List (List ℕ)) (counts : List ℕ) where
  -- the branches before t are marked
  pub record Marking (marks : List (List ℕ)) (t : ℕ) : Type 0 where
    pub low : 0 < t
    pub done : (k : ℕ) → 0 < k → k < t → MarkedTable texts lines facts k (get_or counts k 0) (get_or marks k [])

  abbrev MarkedIn : List Mark → List (List Mark) → ℕ → ℕ → Type 0
  MarkedIn row marks s k = MarkedTable texts lines facts k (get_or counts k 0) (get_or (marks_of (set marks s row)) k [])

  -- the loop is at side s, which is branch t
  pub marking_on : (marks : List (List Mark)) (t s count : ℕ) (row : List Mark) → t < length marks → s ≡ t → Marking (marks_of marks) t
      → count ≡ get_or counts s 0 → MarkedTable texts lines facts s count (row_of_marks row) → Marking (marks_of (set marks s row)) (t + 1)
  marking_on marks t s count row h e w f new = record {
    low = omega (arith, w.low);
    done = λ k l g. below_more (λ k. 0 < k → MarkedIn row marks s k) t
        (λ k g l. subst (MarkedTable texts lines facts k (get_or counts k 0)) (stays k (λ q. omega (arith, g, q, e))) (w.done k l g))
        (λ l. subst (MarkedIn row marks s) e last) k g l;
  }
    where
      stored : marks_of (set marks s row) ≡ set (marks_of marks) s (row_of_marks row)
      stored = map-set row_of_marks marks s row

      stays : (k : ℕ) → (k ≡ s → ⊥) → get_or (marks_of marks) k [] ≡ get_or (marks_of (set marks s row)) k []
      stays k q = sym (ap (λ (m : List (List ℕ)). get_or m k []) stored ∙ get_or-set_other (marks_of marks) s k (row_of_marks row) [] q)

      own : get_or (marks_of (set marks s row)) s [] ≡ row_of_marks row
      own = ap (λ (m : List (List ℕ)). get_or m s []) stored
          ∙ get_or-set_same (marks_of marks) s (row_of_marks row) [] (omega (arith, h, e, length-map marks row_of_marks))

      last : MarkedIn row marks s s
      last = subst (λ (n : ℕ). MarkedTable texts lines facts s n (get_or (marks_of (set marks s row)) s [])) f
          (subst (MarkedTable texts lines facts s count) (sym own) new)

  pub marking_end : (marks : List (List ℕ)) (t : ℕ) → Marking marks t → TABLES ≤ t → Marked texts lines facts counts marks
  marking_end marks t w h = record { branches = λ k l g. w.done k l (omega (arith, g, h)) }

-- ---- what a mark says

mark_edit : (edit alike : Bool) → eqb (mark_of edit alike % 2) 1 ≡ edit
mark_edit true true = refl
mark_edit true false = refl
mark_edit false true = refl
mark_edit false false = refl

mark-alike : (edit alike : Bool) → mark_of edit alike < 2 → alike ≡ true
mark-alike edit true h = refl
mark-alike true false h = absurd (omega arith)
mark-alike false false h = absurd (omega arith)

mark_none : (edit alike : Bool) → mark_of edit alike ≡ 0 → edit ≡ false
mark_none false alike e = refl
mark_none true true e = absurd (omega arith)
mark_none true false e = absurd (omega arith)

pub mark_stands : (m : Mark) → m.position ≡ false → mark_number m < 2
mark_stands m e = go m.content m.position e
  where
    go : (edit moved : Bool) → moved ≡ false → mark_of edit (not moved) < 2
    go edit true h = absurd (cc h)
    go true false h = omega arith
    go false false h = omega arith

module _ (texts lines facts : List (List ℕ)) (k i v : ℕ) (e : v ≡ mark_on texts lines facts k i) where
  -- the record on the line stands as in old
  pub marked-alike : v < 2 → unmoved lines facts k (number_on facts k i) ≡ true
  marked-alike h =
      mark-alike (fresh_content (tell texts lines facts) k (number_on facts k i)) (unmoved lines facts k (number_on facts k i))
      (subst (λ (m : ℕ). m < 2) e h)

  -- its content is no edit
  pub marked_none : v ≡ 0 → fresh_content (tell texts lines facts) k (number_on facts k i) ≡ false
  marked_none h =
      mark_none (fresh_content (tell texts lines facts) k (number_on facts k i)) (unmoved lines facts k (number_on facts k i)) (sym e ∙ h)

module _ (texts lines facts : List (List ℕ)) (counts : List ℕ) (lined : Lined lines facts counts) (marks : List (List ℕ))
    (marked : Marked texts lines facts counts marks) where
  module _ (k : ℕ) (low : 0 < k) (high : k < TABLES) (n : ℕ) where
    abbrev l : ℕ
    l = line_at (get_or lines k []) n

    few : l ≤ get_or counts k 0
    few = (lined.tables k high).few n

    abbrev fresh : ℕ → Bool
    fresh m = fresh_content (tell texts lines facts) k m

    -- an absent record is no edit
    absent : (m : ℕ) → line_at (get_or lines k []) m ≡ 0 → fresh m ≡ false
    absent m e = ap (λ (j : ℕ). ltb 0 j && not (ltb 0 (line_at (get_or lines 0 []) m)
        && same_content (content_on texts facts k j) (content_on texts facts 0 (line_at (get_or lines 0 []) m)))) e

    on_line_lem : fresh (number_on facts k l) ≡ fresh n
    on_line_lem = elim (ℕ_discrete l 0) [
      | yes e ↦ absent (number_on facts k l) ((lined.tables k high).on_line_lem l few ∙ e) ∙ sym (absent n e)
      | no e ↦ ap fresh ((lined.tables k high).named n (omega (arith, e)))
    ]

    noted_edit : edited_in lines marks k n ≡ fresh n
    noted_edit =
        ap (λ (m : ℕ). eqb (m % 2) 1) ((marked.branches k low high).on l few)
        ∙ mark_edit (fresh (number_on facts k l)) (unmoved lines facts k (number_on facts k l)) ∙ on_line_lem

  pub noted : Noted texts lines facts marks
  noted = record { edits = noted_edit }

-- ---- tables in memory

module _ (texts lines facts : List (List ℕ)) (old : List Row) (branches : List (List Row)) (m : SideBySide texts lines facts old branches)
    (counts : List ℕ) (counted : (k : ℕ) → k < TABLES → get_or counts k 0 ≡ length (get_or (old ∷ branches) k [])) where
  module _ (k : ℕ) (h : k < TABLES) where
    abbrev t : List Row
    t = get_or (old ∷ branches) k []

    holds : Holds (get_or lines k []) (get_or facts k []) t
    holds = (m.stored k h).holds

    number_low : (i : ℕ) → i ≤ get_or counts k 0 → number_on facts k i < START
    number_low i g = elim (ℕ_discrete i 0) [
      | yes e ↦ omega (arith, ap (number_on facts k) e, top)
      | no e ↦ record_high (number_on facts k i) (number_record t (m.stored k h).readable.distinct (number_on facts k i)
          (holds.only (number_on facts k i) (omega (arith, e, holds.lined i (omega (arith, counted k h))))))
    ]
      where
        top : number_on facts k 0 ≡ TOP
        top =
            ap (number_on facts k) (sym (top_line (get_or lines k []) (get_or facts k []) t holds (m.stored k h).readable))
            ∙ holds.named TOP (here refl)

    lined_table_lem : LinedTable (get_or lines k []) (get_or facts k []) (get_or counts k 0)
    lined_table_lem = record {
      on_line_lem = λ i g. holds.lined i (omega (arith, counted k h));
      named = λ n g. holds.named n (there (holds.only n g));
      few = λ n. omega (arith, counted k h, holds.few n);
      low = number_low;
    }

  pub lined_tables : Lined lines facts counts
  lined_tables = record { tables = lined_table_lem }
