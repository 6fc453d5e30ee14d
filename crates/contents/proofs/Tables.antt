-- Tables in memory tell their own contents, and the kept content of a record lies where its kept place says. texts, lines and facts are
-- those of all tables, text, ls and fs those of one; t, old and branches are rows of tables; x is a row, n a record, k a table. Assumes
-- nothing.
use mathlib.Core.Path.{◌≡◌, sym, ap, ◌∙◌, subst}
use mathlib.Core.Bool.{Bool, cond}
use mathlib.Core.List.Memᴰ
use mathlib.Core.List.{List, [], ◌∷◌, map}
use Prim.Native.Nat.{ℕ, ◌+◌, ◌*◌, ◌<◌, ◌≤◌}
use native.Mathlib.Omega.{arith}
use lib.Dec.{T}
use lib.ListN.{length, get_or, take, drop, length-map}
use borrow.Author.Tests.{le-leb}
use Rattle.rules.specs.Lists.{◌∈◌}
use Rattle.rules.specs.Marks.{is_record}
use Rattle.rules.specs.Line.{Row}
use Rattle.rules.specs.Table.{numbers}
use Rattle.rules.specs.Facts.{ContentFact, contents_of, content_fact, facts_of}
use Rattle.rules.specs.Merge.{content_clashes, kept_contents, content_in}
use Rattle.trees.proofs.OneTable.{content-row, number_record, number_row, row-content, row_number}
use Rattle.trees.proofs.Disagreeing.{record_of}
use Rattle.facts.specs.Memory.{TABLES, PLACE, LENGTH, SPAN, TEXTS, start_of, text_of, origin_of, field}
use Rattle.facts.specs.Asked.{has_in}
use Rattle.facts.proofs.Shown.{has_number, number_has}
use Rattle.edits.specs.Memory.{ask, number_on}
use Rattle.edits.proofs.Clashing.{Views}
use Rattle.edits.proofs.Leasts.{Met}
use Rattle.edits.proofs.Tables.{rows-facts, position_views, parents_met}
use Rattle.write.specs.Stored.{Lies, part_in, Stored}
use Rattle.contents.specs.Contents.{Told, content_origin}
use Rattle.contents.specs.Memory.{cut, tell, source_of, kept_place, kept_length}
use Rattle.contents.specs.Tables.{SideBySide}
use Rattle.contents.proofs.Clashing.{ContentView, ContentViews}
use Rattle.contents.proofs.Keeping.{source-table, source_has, kept-content}

-- ---- one table

module _ (text ls fs : List ℕ) (t : List Row) (m : Stored (text ∷ []) ls fs t)
    (low : (n : ℕ) → n ∈ numbers t → field ls fs n PLACE < SPAN) where
  -- the content of a row lies in the table's own text
  module _ (x : Row) (i : x ∈ t) where
    abbrev start : ℕ
    start = field ls fs x.number PLACE

    abbrev long : ℕ
    long = field ls fs x.number LENGTH

    first : text_of start ≡ 0
    first = let h : start < SPAN = low x.number (row_number t x i) in omega arith

    row-start : start_of start ≡ start
    row-start = let h : start < SPAN = low x.number (row_number t x i) in omega arith

    row_within : start + long ≤ length text
    row_within =
        rw (← row-start) (subst (λ (j : ℕ). start_of start + long ≤ length (get_or (text ∷ []) j [])) first (m.lies x i).within)

    row_cut : cut text start long ≡ x.content
    row_cut =
        rw (le-leb (start + long) (length text) row_within)
        (sym (m.contents x i ∙ (λ j. take long (drop (row-start j) (get_or (text ∷ []) (first j) [])))))

  has_row_lem : (n : ℕ) → T (has_in ls n) → (x : Row) × (x ∈ t) × (x.number ≡ n)
  has_row_lem n h = number_row t n (has_number ls fs t m.holds n h)

  -- what memory tells of the table
  abbrev told : Told
  told = record { has = has_in ls; content = λ n. cut text (field ls fs n PLACE) (field ls fs n LENGTH) }

  told_view : ContentView told (facts_of t).contents
  told_view = record { to = to; from = from; record_has = record_has }
    where
      to : (a : ContentFact) → a ∈ (facts_of t).contents → T (has_in ls a.number) × (told.content a.number ≡ a.content)
      to a i =
          let x = content-row t a i in
          let n : x.0.number ≡ a.number = ap record_of x.2 in
          let c : x.0.content ≡ a.content = ap (λ (b : ContentFact). b.content) x.2 in (
            subst (λ (j : ℕ). T (has_in ls j)) n (number_has ls fs t m.holds x.0.number (row_number t x.0 x.1)),
            ap told.content (sym n) ∙ row_cut x.0 x.1 ∙ c,
          )

      from : (n : ℕ) → T (has_in ls n) → content_fact n (told.content n) ∈ (facts_of t).contents
      from n h =
          let x = has_row_lem n h in
          let c : told.content n ≡ x.0.content = ap told.content (sym x.2) ∙ row_cut x.0 x.1 in
          Memᴰ.cast (λ j. content_fact (sym x.2 j) (c j)) (row-content t x.0 x.1)

      record_has : (n : ℕ) → T (has_in ls n) → T (is_record n)
      record_has n h = number_record t m.readable.distinct n (has_number ls fs t m.holds n h)

-- ---- a place put together

module _ (origin table start : ℕ) (few : table < TABLES) where
  abbrev place : ℕ
  place = (origin * TEXTS + table) * SPAN + start_of start

  place-start : start_of place ≡ start_of start
  place-start = omega arith

  place_text : text_of place ≡ table
  place_text = omega arith

  place-origin : origin_of place ≡ origin
  place-origin = omega arith

module _ (texts lines facts : List (List ℕ)) (old : List Row) (branches : List (List Row))
    (m : SideBySide texts lines facts old branches) where
  pub tell_views : ContentViews (tell texts lines facts) (facts_of old) (map facts_of branches)
  tell_views = record {
    many = length-map branches facts_of ∙ m.many;
    view = λ k h. subst (ContentView (tell texts lines facts k)) (sym (rows-facts contents_of (old ∷ branches) k (omega (arith, m.many))))
        (told_view (get_or texts k []) (get_or lines k []) (get_or facts k []) (get_or (old ∷ branches) k []) (m.stored k h) (m.low k h));
  }

  pub ask_views : Views (ask lines facts) (facts_of old) (map facts_of branches)
  ask_views = position_views lines facts old branches m.many (λ k h. (m.stored k h).holds) (λ k h. (m.stored k h).readable)

  pub ask_met : (counts : List ℕ) → ((k : ℕ) → k < TABLES → get_or counts k 0 ≡ length (get_or (old ∷ branches) k []))
      → Met (ask lines facts) (number_on facts) (λ k. get_or counts k 0)
  ask_met counts counted =
      parents_met lines facts old branches m.many (λ k h. (m.stored k h).holds) (λ k h. (m.stored k h).readable)
      (λ k. get_or counts k 0) counted

  pub kept-origin : (n : ℕ) → origin_of (kept_place texts lines facts n) ≡ content_origin (tell texts lines facts) n
  kept-origin n =
      place-origin (content_origin (tell texts lines facts) n) (source_of texts lines facts n) _
      (source-table (tell texts lines facts) (facts_of old) (map facts_of branches) tell_views n)

  -- ---- a record that some table has

  module _ (k n : ℕ) (h : k < TABLES) (t : T (has_in (get_or lines k []) n)) where
    abbrev source : ℕ
    source = source_of texts lines facts n

    abbrev from : ℕ
    from = field (get_or lines source []) (get_or facts source []) n PLACE

    few : source < TABLES
    few = source-table (tell texts lines facts) (facts_of old) (map facts_of branches) tell_views n

    row : (x : Row) × (x ∈ get_or (old ∷ branches) source []) × (x.number ≡ n)
    row =
        has_row_lem (get_or texts source []) (get_or lines source []) (get_or facts source []) (get_or (old ∷ branches) source [])
        (m.stored source few) (m.low source few) n
        (source_has (tell texts lines facts) (facts_of old) (map facts_of branches) tell_views k n h t)

    kept-start : start_of (kept_place texts lines facts n) ≡ from
    kept-start =
        place-start (content_origin (tell texts lines facts) n) source from few
        ∙ subst (λ (j : ℕ). start_of (field (get_or lines source []) (get_or facts source []) j PLACE)
        ≡ field (get_or lines source []) (get_or facts source []) j PLACE) row.2
        (row-start (get_or texts source []) (get_or lines source []) (get_or facts source []) (get_or (old ∷ branches) source [])
        (m.stored source few) (m.low source few) row.0 row.1)

    kept_text : text_of (kept_place texts lines facts n) ≡ source
    kept_text = place_text (content_origin (tell texts lines facts) n) source from few

    within : from + kept_length texts lines facts n ≤ length (get_or texts source [])
    within =
        subst (λ (j : ℕ). field (get_or lines source []) (get_or facts source []) j PLACE
        + field (get_or lines source []) (get_or facts source []) j LENGTH ≤ length (get_or texts source [])) row.2
        (row_within (get_or texts source []) (get_or lines source []) (get_or facts source []) (get_or (old ∷ branches) source [])
        (m.stored source few) (m.low source few) row.0 row.1)

    -- its kept content lies in the texts
    pub kept_lies : length texts ≡ TABLES → Lies texts (kept_place texts lines facts n) (kept_length texts lines facts n)
    kept_lies e = record {
      text = omega (arith, kept_text, few);
      within =
          subst (λ (j : ℕ). j + kept_length texts lines facts n ≤ length (get_or texts (text_of (kept_place texts lines facts n)) []))
          (sym kept-start)
          (subst (λ (j : ℕ). from + kept_length texts lines facts n ≤ length (get_or texts j [])) (sym kept_text) within);
    }

    -- and is what the merge gives it
    pub kept-part : content_clashes (facts_of old) (map facts_of branches) ≡ []
        → part_in texts (kept_place texts lines facts n) (kept_length texts lines facts n)
        ≡ content_in (kept_contents (facts_of old) (map facts_of branches)) n
    kept-part none =
        (λ j. take (kept_length texts lines facts n) (drop (kept-start j) (get_or texts (kept_text j) [])))
        ∙ sym (ap (λ (b : Bool). cond b (take (kept_length texts lines facts n) (drop from (get_or texts source []))) [])
        (le-leb (from + kept_length texts lines facts n) (length (get_or texts source [])) within))
        ∙ sym (kept-content (tell texts lines facts) (facts_of old) (map facts_of branches) tell_views none k n h t)
