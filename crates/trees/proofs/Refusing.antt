-- The merge of readable tables is refused with a code and a place exactly if Conditions says so. `old` and `branches` are tables, O and B
-- their facts, t is a table, a a fact, n a record or a parent, g a tree. Assumes nothing.
use mathlib.Core.Path.{◌≡◌, refl, sym, ap, ◌∙◌, subst}
use mathlib.Core.Logic.{◌⊎◌, inl, inr, ◌↔◌}
use mathlib.Core.List.Memᴰ
use mathlib.Core.List.Memᴰ.{head as here}
use mathlib.Core.List.Memᴰ.{tail as there}
use mathlib.Core.List.{List, [], ◌∷◌, map}
use Prim.Native.Nat.{ℕ}
use native.Mathlib.Omega.{arith}
use lib.Dec.{T}
use Rattle.rules.specs.Codes.{broken_list, content_clash, lost_edit, neighbour_clash, parent_clash}
use Rattle.rules.specs.Lists.{◌∈◌}
use Rattle.rules.specs.Marks.{END, START, is_record}
use Rattle.rules.specs.Line.{Row}
use Rattle.rules.specs.Tree.{Tree, child_numbers}
use Rattle.rules.specs.Facts.{ContentFact, Facts, PositionFact, contents_of, facts_of, positions_disagree, positions_of}
use Rattle.rules.specs.Merge.{Result, broken_lists, content_clashes, kept_positions, least, lost_edits, merge, merged, merged_tree}
use Rattle.rules.specs.Merge.{neighbour_clashes, parent_clashes, refuse, refused}
use Rattle.rules.specs.Demands.{Readable}
use Rattle.rules.specs.Conditions.{BrokenList, ContentClash, ContentEdit, Edit, KeptPosition, Least, LostEdit, NeighbourClash, Nowhere}
use Rattle.rules.specs.Conditions.{ParentClash, RecordOf, Refusal, Somewhere, content_clash_lem, parent_clash_lem, neighbour_clash_lem}
use Rattle.rules.specs.Conditions.{broken_list_lem}
use Rattle.rules.specs.Conditions.{lost_edit_lem}
use Rattle.trees.proofs.Kept.{Coherent}
use Rattle.trees.proofs.Disagreeing.{record_of}
use Rattle.trees.proofs.OneTable.{child_record, content-row, in_table, list_after, number_record, row_number}
use Rattle.trees.proofs.Answering.{Sound, refuse_none}
use Rattle.trees.proofs.Accepting.{kept-positions_coherent}
use Rattle.trees.proofs.Order.{kept-contents_coherent, least_in, least-le}
use Rattle.trees.proofs.TableTree.{table_sound}
use Rattle.trees.proofs.Clashing.{Places, content_places, kept-position_out, neighbour_places, none_nowhere, nowhere_none}
use Rattle.trees.proofs.Clashing.{parent_places}
use Rattle.trees.proofs.Meeting.{broken_places, lost_places}

-- ---- one code of the verdict

module _ (Condition : ℕ → Type 0) where
  least-place : (n : ℕ) (places : List ℕ) → Places Condition (n ∷ places) → Least Condition (least n places)
  least-place n places w =
      record {
        holds = w.place-holds (least n places) (least_in n places);
        least = λ m c. least-le n places m (w.holds-place m c);
      }

  -- a condition that holds somewhere has a least place
  somewhere_least : (places : List ℕ) → Places Condition places → Somewhere Condition → (n : ℕ) × Least Condition n
  somewhere_least [] w (n, c) = absurd (Memᴰ.not-nil (w.holds-place n c))
  somewhere_least (n ∷ places) w c = (least n places, least-place n places w)

  refuse_cases : (code : ℕ) (places : List ℕ) (result : Result) (c n : ℕ) → Places Condition places
      → refuse code places result ≡ refused c n → ((code ≡ c) × Least Condition n) ⊎ (Nowhere Condition × (result ≡ refused c n))
  refuse_cases code [] result c n w e = inr (none_nowhere Condition [] w refl, e)
  refuse_cases code (m ∷ places) result c n w e =
      let p : code ≡ c = cc in
      let q : least m places ≡ n = cc in
      inl (p, subst (Least Condition) q (least-place m places w))

  refuse-least : (code : ℕ) (places : List ℕ) (result : Result) (n : ℕ) → Places Condition places → Least Condition n
      → refuse code places result ≡ refused code n
  refuse-least code [] result n w l = absurd (Memᴰ.not-nil (w.holds-place n l.holds))
  refuse-least code (m ∷ places) result n w l =
      let u = least-le m places n (w.holds-place n l.holds) in
      let v = l.least (least m places) (w.place-holds (least m places) (least_in m places)) in
      let e : least m places ≡ n = omega arith in
      ap (refused code) e

-- ---- the codes in their order, over lists that are variables: the merge's own would be computed

module _ (old : Facts) (branches : List Facts) where
  abbrev pub No21 : Type 0
  No21 = Nowhere (ContentClash old branches)

  abbrev pub No22 : Type 0
  No22 = Nowhere (ParentClash old branches)

  abbrev pub No23 : Type 0
  No23 = Nowhere (NeighbourClash old branches)

  abbrev pub No24 : Type 0
  No24 = Nowhere (BrokenList old branches)

  -- what the refusal with each code says

  module _ {n : ℕ} where
    pub content-told : Refusal old branches content_clash n → Least (ContentClash old branches) n
    content-told (content_clash_lem l) = l

    pub parent_told : Refusal old branches parent_clash n → Least (ParentClash old branches) n × No21
    parent_told (parent_clash_lem n21 l) = (l, n21)

    pub neighbour_told : Refusal old branches neighbour_clash n → Least (NeighbourClash old branches) n × (No21 × No22)
    neighbour_told (neighbour_clash_lem n21 n22 l) = (l, (n21, n22))

    pub broken_told : Refusal old branches broken_list n → Least (BrokenList old branches) n × (No21 × No22 × No23)
    broken_told (broken_list_lem n21 n22 n23 l) = (l, (n21, n22, n23))

    pub lost-told : Refusal old branches lost_edit n → Least (LostEdit old branches) n × (No21 × No22 × No23 × No24)
    lost-told (lost_edit_lem n21 n22 n23 n24 l) = (l, (n21, n22, n23, n24))

  module _ (contents parents neighbours broken lost : List ℕ) (g : Tree)
      (places21 : Places (ContentClash old branches) contents) (places22 : Places (ParentClash old branches) parents)
      (places23 : Places (NeighbourClash old branches) neighbours) (places24 : No22 → No23 → Places (BrokenList old branches) broken)
      (places25 : No21 → No22 → No23 → Places (LostEdit old branches) lost) where
    abbrev from25 : Result
    from25 = refuse lost_edit lost (merged g)

    abbrev from24 : Result
    from24 = refuse broken_list broken from25

    abbrev from23 : Result
    from23 = refuse neighbour_clash neighbours from24

    abbrev from22 : Result
    from22 = refuse parent_clash parents from23

    abbrev from21 : Result
    from21 = refuse content_clash contents from22

    verdict_refusal : (code n : ℕ) → from21 ≡ refused code n → Refusal old branches code n
    verdict_refusal code n e = at21 (refuse_cases (ContentClash old branches) content_clash contents from22 code n places21 e)
      where
        -- the refusal is this code's, or that of what follows
        Here : ℕ → (ℕ → Type 0) → Result → Type 0
        Here c Condition rest = ((c ≡ code) × Least Condition n) ⊎ (Nowhere Condition × (rest ≡ refused code n))

        given : {c : ℕ} → c ≡ code → Refusal old branches c n → Refusal old branches code n
        given q w = subst (λ (c : ℕ). Refusal old branches c n) q w

        at25 : No21 → No22 → No23 → No24 → Here lost_edit (LostEdit old branches) (merged g) → Refusal old branches code n
        at25 n21 n22 n23 n24 (inl w) = given w.0 (lost_edit_lem n21 n22 n23 n24 w.1)
        at25 n21 n22 n23 n24 (inr w) = let d = w.1 in let z : ◌≡◌ {A = ℕ} 0 1 = cc in absurd (omega arith)

        at24 : No21 → No22 → No23 → Here broken_list (BrokenList old branches) from25 → Refusal old branches code n
        at24 n21 n22 n23 (inl w) = given w.0 (broken_list_lem n21 n22 n23 w.1)
        at24 n21 n22 n23 (inr w) =
            at25 n21 n22 n23 w.0
            (refuse_cases (LostEdit old branches) lost_edit lost (merged g) code n (places25 n21 n22 n23) w.1)

        at23 : No21 → No22 → Here neighbour_clash (NeighbourClash old branches) from24 → Refusal old branches code n
        at23 n21 n22 (inl w) = given w.0 (neighbour_clash_lem n21 n22 w.1)
        at23 n21 n22 (inr w) =
            at24 n21 n22 w.0 (refuse_cases (BrokenList old branches) broken_list broken from25 code n (places24 n22 w.0) w.1)

        at22 : No21 → Here parent_clash (ParentClash old branches) from23 → Refusal old branches code n
        at22 n21 (inl w) = given w.0 (parent_clash_lem n21 w.1)
        at22 n21 (inr w) =
            at23 n21 w.0 (refuse_cases (NeighbourClash old branches) neighbour_clash neighbours from24 code n places23 w.1)

        at21 : Here content_clash (ContentClash old branches) from22 → Refusal old branches code n
        at21 (inl w) = given w.0 (content_clash_lem w.1)
        at21 (inr w) = at22 w.0 (refuse_cases (ParentClash old branches) parent_clash parents from23 code n places22 w.1)

    pass21 : No21 → from21 ≡ from22
    pass21 n21 = refuse_none content_clash contents from22 (nowhere_none (ContentClash old branches) contents places21 n21)

    pass22 : No22 → from22 ≡ from23
    pass22 n22 = refuse_none parent_clash parents from23 (nowhere_none (ParentClash old branches) parents places22 n22)

    pass23 : No23 → from23 ≡ from24
    pass23 n23 = refuse_none neighbour_clash neighbours from24 (nowhere_none (NeighbourClash old branches) neighbours places23 n23)

    refusal_verdict : (code n : ℕ) → Refusal old branches code n → from21 ≡ refused code n
    refusal_verdict _ n (content_clash_lem l) = refuse-least (ContentClash old branches) content_clash contents from22 n places21 l
    refusal_verdict _ n (parent_clash_lem n21 l) = pass21 n21
        ∙ refuse-least (ParentClash old branches) parent_clash parents from23 n places22 l
    refusal_verdict _ n (neighbour_clash_lem n21 n22 l) =
        pass21 n21 ∙ pass22 n22 ∙ refuse-least (NeighbourClash old branches) neighbour_clash neighbours from24 n places23 l
    refusal_verdict _ n (broken_list_lem n21 n22 n23 l) =
        pass21 n21 ∙ pass22 n22 ∙ pass23 n23
        ∙ refuse-least (BrokenList old branches) broken_list broken from25 n (places24 n22 n23) l
    refusal_verdict _ n (lost_edit_lem n21 n22 n23 n24 l) =
        pass21 n21 ∙ pass22 n22 ∙ pass23 n23
        ∙ refuse_none broken_list broken from25 (nowhere_none (BrokenList old branches) broken (places24 n22 n23) n24)
        ∙ refuse-least (LostEdit old branches) lost_edit lost (merged g) n (places25 n21 n22 n23) l

-- ---- the merge of readable tables

module _ (old : List Row) (branches : List (List Row)) (ok : (t : List Row) → t ∈ old ∷ branches → Readable t) where
  abbrev O : Facts
  O = facts_of old

  abbrev B : List Facts
  B = map facts_of branches

  sound : Sound O
  sound = table_sound old (ok old (here refl)).distinct

  -- a fact of the tables is a fact of a table
  module _ {A : Type 0} (part : Facts → List A) where
    pub edit_table : (a : A) → Edit part O B a → (t : List Row) × (t ∈ branches) × (a ∈ part (facts_of t))
    edit_table a w =
        let v = Memᴰ.of_map facts_of branches w.0.1 in
        (v.0, v.1, subst (λ (l : Facts). a ∈ part l) (sym v.2) w.0.2)

  kept_table : (a : PositionFact) → KeptPosition O B a → (t : List Row) × (t ∈ old ∷ branches) × (a ∈ (facts_of t).positions)
  kept_table a (inl w) = let v = edit_table positions_of a w in (v.0, there v.1, v.2)
  kept_table a (inr w) = (old, here refl, w.0)

  -- a kept fact goes to a record, or to END
  kept-after : (a : PositionFact) → KeptPosition O B a → (a.after ≡ END) ⊎ T (is_record a.after)
  kept-after a w = go (list_after a.parent START (child_numbers a.parent t) a (in_table t a v.2))
    where
      v : (t : List Row) × (t ∈ old ∷ branches) × (a ∈ (facts_of t).positions)
      v = kept_table a w

      t : List Row
      t = v.0

      go : (a.after ≡ END) ⊎ (a.after ∈ child_numbers a.parent t) → (a.after ≡ END) ⊎ T (is_record a.after)
      go (inl e) = inl e
      go (inr m) = inr (child_record t (ok t v.1).distinct a.parent a.after m)

  -- ---- the places of 24 and 25

  coherent : No22 O B → No23 O B → Coherent positions_disagree (kept_positions O B)
  coherent n22 n23 =
      kept-positions_coherent O B sound (nowhere_none (ParentClash O B) (parent_clashes O B) (parent_places O B) n22)
      (nowhere_none (NeighbourClash O B) (neighbour_clashes O B) (neighbour_places O B) n23)

  ends : (a : PositionFact) → a ∈ kept_positions O B → (a.after ≡ END) ⊎ T (is_record a.after)
  ends a m = kept-after a (kept-position_out O B a m)

  broken : No22 O B → No23 O B → Places (BrokenList O B) (broken_lists O B)
  broken n22 n23 = broken_places O B (coherent n22 n23) ends

  pub content_record : (a : ContentFact) → ContentEdit O B a → RecordOf branches a.number
  content_record a w =
      let v = edit_table contents_of a w in
      let x = content-row v.0 a v.2 in
      (v.0, v.1, Memᴰ.cast (sym (ap record_of x.2)) (row_number v.0 x.0 x.1))

  valid : (a : ContentFact) → ContentEdit O B a → T (is_record a.number)
  valid a w =
      let v = content_record a w in number_record v.0 (ok v.0 (there v.1)).distinct a.number v.2

  lost : No21 O B → No22 O B → No23 O B → Places (LostEdit O B) (lost_edits O B)
  lost n21 n22 n23 =
      lost_places O B (coherent n22 n23) ends
      (kept-contents_coherent O B sound (nowhere_none (ContentClash O B) (content_clashes O B) (content_places O B) n21)) valid

  -- ---- refused exactly so

  pub refused_exactly : (code n : ℕ) → (merge O B ≡ refused code n) ↔ Refusal O B code n
  unfolding merge
  refused_exactly code n = (
    verdict_refusal O B (content_clashes O B) (parent_clashes O B) (neighbour_clashes O B) (broken_lists O B) (lost_edits O B)
        (merged_tree O B)
        (content_places O B) (parent_places O B) (neighbour_places O B) broken lost code n,
    refusal_verdict O B (content_clashes O B) (parent_clashes O B) (neighbour_clashes O B) (broken_lists O B) (lost_edits O B)
        (merged_tree O B)
        (content_places O B) (parent_places O B) (neighbour_places O B) broken lost code n,
  )

  -- ---- a condition that holds somewhere has a least place, and is told if none before it holds

  pub content-given : Somewhere (ContentClash O B) → Somewhere (Refusal O B content_clash)
  content-given c =
      let l = somewhere_least (ContentClash O B) (content_clashes O B) (content_places O B) c in (l.0, content_clash_lem l.1)

  pub parent_given_lem : Somewhere (ParentClash O B) × No21 O B → Somewhere (Refusal O B parent_clash)
  parent_given_lem (c, n21) =
      let l = somewhere_least (ParentClash O B) (parent_clashes O B) (parent_places O B) c in (l.0, parent_clash_lem n21 l.1)

  pub neighbour_given : Somewhere (NeighbourClash O B) × (No21 O B × No22 O B) → Somewhere (Refusal O B neighbour_clash)
  neighbour_given (c, (n21, n22)) =
      let l = somewhere_least (NeighbourClash O B) (neighbour_clashes O B) (neighbour_places O B) c in
      (l.0, neighbour_clash_lem n21 n22 l.1)

  pub broken_given : Somewhere (BrokenList O B) × (No21 O B × No22 O B × No23 O B) → Somewhere (Refusal O B broken_list)
  broken_given (c, (n21, n22, n23)) =
      let l = somewhere_least (BrokenList O B) (broken_lists O B) (broken n22 n23) c in (l.0, broken_list_lem n21 n22 n23 l.1)

  pub lost-given : Somewhere (LostEdit O B) × (No21 O B × No22 O B × No23 O B × No24 O B) → Somewhere (Refusal O B lost_edit)
  lost-given (c, (n21, n22, n23, n24)) =
      let l = somewhere_least (LostEdit O B) (lost_edits O B) (lost n21 n22 n23) c in (l.0, lost_edit_lem n21 n22 n23 n24 l.1)
