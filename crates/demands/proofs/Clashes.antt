-- Codes 21 to 25 told of texts whose tables are readable: exactly the refusals that Conditions speaks of. o is old's table, bs are the
-- branches', O and B their facts, t is one of the tables, a and b are the room of the two buffers, n is a place, f a tree, es are the
-- ledger's entries. Assumes nothing.
use mathlib.Core.Path.{◌≡◌, refl, sym, ap, ◌∙◌, subst}
use mathlib.Core.Logic.{◌↔◌}
use mathlib.Core.Bool.{Bool, true, false}
use mathlib.Core.List.Memᴰ.{head as here}
use mathlib.Core.List.{List, [], ◌∷◌, map}
use Prim.Native.Nat.{ℕ, ◌≤◌}
use native.Mathlib.Omega.{arith}
use lib.Dec.{ltb}
use lib.ListN.{length}
use Rattle.rules.specs.Codes.{content_clash, parent_clash, neighbour_clash, broken_list, lost_edit}
use Rattle.rules.specs.Lists.{◌∈◌}
use Rattle.rules.specs.Line.{Row}
use Rattle.rules.specs.Table.{readable, verdict}
use Rattle.rules.specs.Tree.{Tree}
use Rattle.rules.specs.Facts.{Facts, facts_of}
use Rattle.rules.specs.Merge.{Result, refused, merged, merge}
use Rattle.rules.specs.Written.{written_tree}
use Rattle.rules.specs.Ledger.{Entry, entries_of, ledger}
use Rattle.rules.specs.Calls.{Outcome, over_limits, packed, judged, merge_tables, merge_texts, answer_of, told}
use Rattle.rules.specs.Demands.{Readable, Tables}
use Rattle.rules.specs.Conditions.{BrokenList, ContentClash, Least, LostEdit, Names, NeighbourClash, ParentClash, RecordOf, Refusal}
use Rattle.rules.specs.Conditions.{Somewhere, TopOrRecordOf}
use Rattle.rules.specs.declared.answers.Merged.{Merged}
use Rattle.trees.proofs.Refusing.{No21, No22, No23, No24, broken_given, broken_told, content-given, content-told, lost-given, lost-told}
use Rattle.trees.proofs.Refusing.{neighbour_given, neighbour_told, parent_given_lem, parent_told, refused_exactly}
use Rattle.trees.proofs.Naming.{refusal_place, refusal_record}
use Rattle.demands.proofs.Packing.{ending}
use Rattle.demands.proofs.Reading.{read_merged}
use Rattle.demands.proofs.Demand3.{all_readable}
use Rattle.demands.proofs.Room.{clash_ends}

-- ---- a merged tree is never told with one of these codes

packed-code : (f : Tree) (es : List Entry) (a b code : ℕ) → content_clash ≤ code → code ≤ lost_edit
    → (answer_of (packed f es a b)).code ≡ code → ⊥
packed-code f es a b code low high = go (over_limits f) (ltb a (length (written_tree f))) (ltb b (length (ledger es)))
  where
    go : (u v w : Bool) → (answer_of (ending u v w (written_tree f) (length (ledger es)) es)).code ≡ code → ⊥
    go true v w e = omega (arith, e)
    go false true w e = omega (arith, e)
    go false false true e = omega (arith, e)
    go false false false e = omega (arith, e)

-- ---- the answer

module _ (old : List ℕ) (branches : List (List ℕ)) (o : List Row) (bs : List (List Row)) (read : Tables old branches o bs) (a b : ℕ)
    (answer : Merged) (answered : answer ≡ answer_of (merge_texts old branches a b)) where
  abbrev O : Facts
  O = facts_of o

  abbrev B : List Facts
  B = map facts_of bs

  abbrev pack : Tree → Outcome
  pack f = packed f (entries_of o bs f) a b

  ok : (t : List Row) → t ∈ o ∷ bs → Readable t
  ok = all_readable old branches o bs read

  refusal_answer : (code n : ℕ) → Refusal O B code n → answer ≡ told code 0 n 0 0
  refusal_answer code n w = answered ∙ ap answer_of (clash_ends old branches o bs read a b code n ((refused_exactly o bs ok code n).1 w))

  some_refusal : (code : ℕ) → content_clash ≤ code → code ≤ lost_edit → answer.code ≡ code → Somewhere (Refusal O B code)
  unfolding merge_tables
  some_refusal code low high e =
      go (merge O B) refl
      (ap (λ (x : Outcome). (answer_of x).code) (sym (read_merged old branches o bs read a b))
      ∙ ap (λ (m : Merged). m.code) (sym answered)
      ∙ e)
    where
      go : (r : Result) → merge O B ≡ r → (answer_of (judged r pack)).code ≡ code → Somewhere (Refusal O B code)
      go (refused c n) m d = (n, subst (λ (k : ℕ). Refusal O B k n) d ((refused_exactly o bs ok c n).0 m))
      go (merged f) m d = absurd (packed-code f (entries_of o bs f) a b code low high d)

  answer_refusal : (code : ℕ) → content_clash ≤ code → code ≤ lost_edit → answer.code ≡ code → Refusal O B code answer.place
  answer_refusal code low high e =
      let w = some_refusal code low high e in
      subst (Refusal O B code) (ap (λ (m : Merged). m.place) (sym (refusal_answer code w.0 w.1))) w.1

  -- told with code and place and nothing else, exactly if refused so
  pub refusal_exactly : (code n : ℕ) → content_clash ≤ code → code ≤ lost_edit → (answer ≡ told code 0 n 0 0) ↔ Refusal O B code n
  refusal_exactly code n low high = (
    λ e. subst (Refusal O B code) (ap (λ (m : Merged). m.place) e) (answer_refusal code low high (ap (λ (m : Merged). m.code) e)),
    refusal_answer code n,
  )

  -- ---- each code

  names : (code : ℕ) (Condition : ℕ → Type 0) (Before : Type 0) → content_clash ≤ code → code ≤ lost_edit
      → ((n : ℕ) → Refusal O B code n → Least Condition n × Before) → (Somewhere Condition × Before → Somewhere (Refusal O B code))
      → Names answer code Condition Before
  names code Condition Before low high says given =
      record {
        exactly = (
          λ e. let w = said e in ((answer.place, w.0.holds), w.1),
          λ c. let w = given c in ap (λ (m : Merged). m.code) (refusal_answer code w.0 w.1),
        );
        place_is = λ e. (said e).0;
        answer_is = λ e. refusal_answer code answer.place (answer_refusal code low high e);
      }
    where
      said : answer.code ≡ code → Least Condition answer.place × Before
      said e = says answer.place (answer_refusal code low high e)

  pub content_named : Names answer content_clash (ContentClash O B) (Unit {0})
  content_named =
      names content_clash (ContentClash O B) (Unit {0}) (omega arith) (omega arith) (λ n w. (content-told O B w, tt))
      (λ c. content-given o bs ok c.0)

  pub parent_named : Names answer parent_clash (ParentClash O B) (No21 O B)
  parent_named = names parent_clash _ _ (omega arith) (omega arith) (λ n w. parent_told O B w) (parent_given_lem o bs ok)

  pub neighbour_named : Names answer neighbour_clash (NeighbourClash O B) (No21 O B × No22 O B)
  neighbour_named = names neighbour_clash _ _ (omega arith) (omega arith) (λ n w. neighbour_told O B w) (neighbour_given o bs ok)

  pub broken_named : Names answer broken_list (BrokenList O B) (No21 O B × No22 O B × No23 O B)
  broken_named = names broken_list _ _ (omega arith) (omega arith) (λ n w. broken_told O B w) (broken_given o bs ok)

  pub lost_named : Names answer lost_edit (LostEdit O B) (No21 O B × No22 O B × No23 O B × No24 O B)
  lost_named = names lost_edit _ _ (omega arith) (omega arith) (λ n w. lost-told O B w) (lost-given o bs ok)

  -- ---- the place

  pub record_named : content_clash ≤ answer.code → answer.code ≤ parent_clash → RecordOf bs answer.place
  record_named low high =
      refusal_record o bs ok answer.code answer.place (answer_refusal answer.code low (omega arith) refl) high

  pub place_named : (t : List Row) → t ∈ bs → content_clash ≤ answer.code → answer.code ≤ lost_edit → TopOrRecordOf bs answer.place
  place_named t m low high =
      refusal_place o bs ok t m answer.code answer.place (answer_refusal answer.code low high refl)

-- where there is a text, there is its table
pub one_read : (text : List ℕ) (texts : List (List ℕ)) (ts : List (List Row)) → map verdict (text ∷ texts) ≡ map readable ts
    → (t : List Row) × (t ∈ ts)
one_read text texts [] e = let z : ◌≡◌ {A = ℕ} 0 1 = cc in absurd (omega arith)
one_read text texts (t ∷ ts) e = (t, here refl)
