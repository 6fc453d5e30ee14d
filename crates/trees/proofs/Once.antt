-- A tree in which no two position facts to records disagree has each record once: a record's position fact tells where it hangs,
-- and so on up to the top. f is the tree, r a parent, p the one before, n a record, a and b facts, w a way. Assumes nothing.
use mathlib.Core.Path.{◌≡◌, refl, sym, ap, ap₂, ◌∙◌, subst}
use mathlib.Core.Logic.{◌⊎◌, inl, inr}
use mathlib.Core.Bool.{Bool, true, false, true≢false}
use mathlib.Core.List.{List, [], ◌∷◌, ◌++◌, map, map-append, append_assoc, append-nil, nil≢cons, head-eq_of_cons-eq, tail-eq_of_cons-eq}
use mathlib.Core.List.Memᴰ
use mathlib.Core.List.Memᴰ.{head as here}
use mathlib.Core.List.Memᴰ.{tail as there}
use Prim.Native.Nat.{ℕ}
use lib.Dec.{T}
use Rattle.rules.specs.Lists.{NoneTwice, ◌∈◌}
use Rattle.rules.specs.Marks.{START, TOP, is_record}
use Rattle.rules.specs.Line.{Content}
use Rattle.rules.specs.Tree.{Tree, empty, node, numbers_in}
use Rattle.rules.specs.Facts.{PositionFact, parent_given, parents_given, position, positions_disagree, tree_positions}
use Rattle.trees.proofs.Lists.{put_here, put_there}
use Rattle.trees.proofs.Sets.{once_join}
use Rattle.trees.proofs.Disagreeing.{one_before, one_parent}

-- ---- where a part of a tree hangs

-- `part` hangs in f under r after p, at the end of a way down (`true`) and aside (`false`)
data Hangs (f : Tree) : List Bool → ℕ → ℕ → Tree → Type 0 where
  top : Hangs f [] TOP START f
  down : {way : List Bool} {r p n : ℕ} {c : Content} {below after : Tree} → Hangs f way r p (node n c below after)
      → Hangs f (way ++ (true ∷ [])) n START below
  aside : {way : List Bool} {r p n : ℕ} {c : Content} {below after : Tree} → Hangs f way r p (node n c below after)
      → Hangs f (way ++ (false ∷ [])) r n after

-- no two position facts that go to a record disagree
abbrev pub RecordsAgree : Tree → Type 0
RecordsAgree f =
    (a b : PositionFact) → a ∈ tree_positions TOP START f → b ∈ tree_positions TOP START f → T (is_record a.after)
    → T (is_record b.after) → T (positions_disagree a b) → ⊥

module _ (f : Tree) (agree : RecordsAgree f) (valid : (n : ℕ) → n ∈ numbers_in f → T (is_record n)) where
  positions_of_lem : {way : List Bool} {r p : ℕ} {part : Tree} → Hangs f way r p part
      → (a : PositionFact) → a ∈ tree_positions r p part → a ∈ tree_positions TOP START f
  positions_of_lem top a m = m
  positions_of_lem (down {r = r} {n = n} {after = after} h) a m =
      positions_of_lem h a (there (Memᴰ.append_left (tree_positions r n after) m))
  positions_of_lem (aside {n = n} {below = below} h) a m = positions_of_lem h a (there (Memᴰ.append_right (tree_positions n START below) m))

  numbers_of : {way : List Bool} {r p : ℕ} {part : Tree} → Hangs f way r p part → (n : ℕ) → n ∈ numbers_in part → n ∈ numbers_in f
  numbers_of top n m = m
  numbers_of (down {after = after} h) n m = numbers_of h n (there (Memᴰ.append_left (numbers_in after) m))
  numbers_of (aside {below = below} h) n m = numbers_of h n (there (Memᴰ.append_right (numbers_in below) m))

  is_record_lem : {way : List Bool} {r p n : ℕ} {c : Content} {below after : Tree} → Hangs f way r p (node n c below after)
      → T (is_record n)
  is_record_lem {n = n} h = valid n (numbers_of h n (here refl))

  gives_after : (r p n : ℕ) → T (is_record n) → parent_given n r ∈ parents_given (position r p n)
  gives_after r p n i = put_there (parent_given p r) (is_record p) (put_here [] (is_record n) refl i)

  -- one record hangs in one place
  same_place : {way way' : List Bool} {r r' p p' n n' : ℕ} {c c' : Content} {below below' after after' : Tree}
      → Hangs f way r p (node n c below after) → Hangs f way' r' p' (node n' c' below' after') → n ≡ n' → (r ≡ r') × (p ≡ p')
  same_place {r = r} {r'} {p} {p'} {n} {n'} h h' e =
      let a : PositionFact = position r p n in
      let b : PositionFact = position r' p' n' in
      let g : T (positions_disagree a b) → ⊥ =
      agree a b (positions_of_lem h a (here refl)) (positions_of_lem h' b (here refl)) (is_record_lem h) (is_record_lem h') in
      let q : r ≡ r' = one_parent a b g (parent_given n r) (parent_given n' r') (gives_after r p n (is_record_lem h))
      (gives_after r' p' n' (is_record_lem h')) e in
      (q, one_before a b g q e)

  -- the top and START are no records
  not_top : {n : ℕ} → T (is_record n) → n ≡ TOP → ⊥
  not_top i e = subst (λ (n : ℕ). T (is_record n)) e i

  not_start : {n : ℕ} → T (is_record n) → n ≡ START → ⊥
  not_start i e = subst (λ (n : ℕ). T (is_record n)) e i

  -- in one place hangs one part
  one_way : {way way' : List Bool} {r r' p p' : ℕ} {part part' : Tree} → Hangs f way r p part → Hangs f way' r' p' part'
      → r ≡ r' → p ≡ p' → way ≡ way'
  one_way top top e d = refl
  one_way top (down h') e d = absurd (not_top (is_record_lem h') (sym e))
  one_way top (aside h') e d = absurd (not_start (is_record_lem h') (sym d))
  one_way (down h) top e d = absurd (not_top (is_record_lem h) e)
  one_way (down h) (down h') e d =
      let w = same_place h h' e in ap (λ (way : List Bool). way ++ (true ∷ [])) (one_way h h' w.0 w.1)
  one_way (down h) (aside h') e d = absurd (not_start (is_record_lem h') (sym d))
  one_way (aside h) top e d = absurd (not_start (is_record_lem h) d)
  one_way (aside h) (down h') e d = absurd (not_start (is_record_lem h) d)
  one_way (aside h) (aside h') e d =
      let w = same_place h h' d in ap (λ (way : List Bool). way ++ (false ∷ [])) (one_way h h' w.0 w.1)

-- ---- every record with its way; no two ways are the same

record Way : Type 0 where
  way : List Bool
  number : ℕ

abbrev way_of : Way → List Bool
way_of w = w.way

abbrev way_number : Way → ℕ
way_number w = w.number

abbrev turn : Bool → Way → Way
turn b w = record { way = b ∷ w.way; number = w.number }

abbrev ways : Tree → List Way
ways empty = []
ways (node n c below after) = record { way = []; number = n } ∷ (map (turn true) (ways below) ++ map (turn false) (ways after))

turn_number : (b : Bool) (ws : List Way) → map way_number (map (turn b) ws) ≡ map way_number ws
turn_number b [] = refl
turn_number b (w ∷ ws) = ap (λ (ns : List ℕ). w.number ∷ ns) (turn_number b ws)

ways-numbers : (f : Tree) → map way_number (ways f) ≡ numbers_in f
ways-numbers empty = refl
ways-numbers (node n c below after) =
    ap (λ (l : List ℕ). n ∷ l) (map-append way_number (map (turn true) (ways below)) (map (turn false) (ways after))
    ∙ ap₂ (λ (k l : List ℕ). k ++ l)
    (turn_number true (ways below) ∙ ways-numbers below) (turn_number false (ways after) ∙ ways-numbers after))

turn-way : (b : Bool) (ws : List Way) (q : List Bool) → q ∈ map way_of (map (turn b) ws)
    → (rest : List Bool) × (q ≡ b ∷ rest) × (rest ∈ map way_of ws)
turn-way b ws q m =
    let v = Memᴰ.of_map way_of (map (turn b) ws) m in
    let w = Memᴰ.of_map (turn b) ws v.1 in
    (w.0.way, sym v.2 ∙ sym (ap way_of w.2), Memᴰ.map way_of w.1)

turn_once : (b : Bool) (ws : List Way) → NoneTwice (map way_of ws) → NoneTwice (map way_of (map (turn b) ws))
turn_once b [] once = tt
turn_once b (w ∷ ws) once = (
  λ m. let u = turn-way b ws (b ∷ w.way) m in once.0 (Memᴰ.cast (tail-eq_of_cons-eq u.1) u.2),
  turn_once b ws once.1,
)

ways_once : (f : Tree) → NoneTwice (map way_of (ways f))
ways_once empty = tt
ways_once (node n c below after) = (
  λ m. start (Memᴰ.append_cases downs (subst (λ (l : List (List Bool)). [] ∈ l) split m)),
  subst NoneTwice (sym split) (once_join downs asides
      (turn_once true (ways below) (ways_once below)) (turn_once false (ways after) (ways_once after)) apart),
)
  where
    downs : List (List Bool)
    downs = map way_of (map (turn true) (ways below))

    asides : List (List Bool)
    asides = map way_of (map (turn false) (ways after))

    split : map way_of (map (turn true) (ways below) ++ map (turn false) (ways after)) ≡ downs ++ asides
    split = map-append way_of (map (turn true) (ways below)) (map (turn false) (ways after))

    start : ([] ∈ downs) ⊎ ([] ∈ asides) → ⊥
    start (inl i) = nil≢cons (turn-way true (ways below) [] i).1
    start (inr i) = nil≢cons (turn-way false (ways after) [] i).1

    apart : (q : List Bool) → q ∈ downs → q ∈ asides → ⊥
    apart q i j =
        true≢false (head-eq_of_cons-eq (sym (turn-way true (ways below) q i).1 ∙ (turn-way false (ways after) q j).1))

-- the ways differ, and a record has one: no record stands twice
one_each : (ws : List Way) → NoneTwice (map way_of ws) → ((v w : Way) → v ∈ ws → w ∈ ws → v.number ≡ w.number → v.way ≡ w.way)
    → NoneTwice (map way_number ws)
one_each [] once one = tt
one_each (w ∷ ws) once one = (new, one_each ws once.1 (λ u v i j. one u v (there i) (there j)))
  where
    new : w.number ∈ map way_number ws → ⊥
    new m =
        let v = Memᴰ.of_map way_number ws m in
        once.0 (Memᴰ.cast (sym (one v.0 w (there v.1) (here refl) v.2)) (Memᴰ.map way_of v.1))

-- ---- at the end of its way a record hangs

record Hung (f : Tree) (q : List Bool) (n : ℕ) : Type 0 where
  parent : ℕ
  before : ℕ
  content : Content
  below : Tree
  after : Tree
  hangs : Hangs f q parent before (node n content below after)

abbrev HungAt : Tree → List Bool → Way → Type 0
HungAt f q w = Hung f (q ++ w.way) w.number

turned : (f : Tree) (q : List Bool) (b : Bool) (ws : List Way) (w : Way) → w ∈ map (turn b) ws
    → ((v : Way) → v ∈ ws → HungAt f (q ++ (b ∷ [])) v) → HungAt f q w
turned f q b ws w m h =
    let v = Memᴰ.of_map (turn b) ws m in
    subst (HungAt f q) v.2 (subst (λ (l : List Bool). Hung f l v.0.number) (append_assoc q (b ∷ []) v.0.way) (h v.0 v.1))

way_hung : (f part : Tree) {q : List Bool} {r p : ℕ} → Hangs f q r p part → (w : Way) → w ∈ ways part → HungAt f q w
way_hung f empty h w m = absurd (Memᴰ.not-nil m)
way_hung f (node n c below after) {q} {r} {p} h w (here e) =
    subst (HungAt f q) (sym e) (subst (λ (l : List Bool). Hung f l n) (sym (append-nil q))
    (record { parent = r; before = p; content = c; below = below; after = after; hangs = h }))
way_hung f (node n c below after) {q} h w (there m) =
    elim (Memᴰ.append_cases (map (turn true) (ways below)) m) [
      | inl i ↦ turned f q true (ways below) w i (λ v j. way_hung f below (down h) v j)
      | inr i ↦ turned f q false (ways after) w i (λ v j. way_hung f after (aside h) v j)
    ]

-- no record stands twice
pub records_once : (f : Tree) → RecordsAgree f → ((n : ℕ) → n ∈ numbers_in f → T (is_record n)) → NoneTwice (numbers_in f)
records_once f agree valid = subst NoneTwice (ways-numbers f) (one_each (ways f) (ways_once f) one)
  where
    one : (v w : Way) → v ∈ ways f → w ∈ ways f → v.number ≡ w.number → v.way ≡ w.way
    one v w i j e =
        let a = (way_hung f f top v i).hangs in
        let b = (way_hung f f top w j).hangs in
        let q = same_place f agree valid a b e in
        one_way f agree valid a b q.0 q.1
