-- One line more: memory then holds the table with that row too. ls and fs are the two arrays, t is the table's rows, y the row that is
-- added on line l, start and long the place and the length of its content in the text; m is a number, q a parent, k a field, i a line.
-- Assumes nothing.
use mathlib.Core.Path.{◌≡◌, refl, sym, ap, ◌∙◌, subst}
use mathlib.Core.Logic.{◌⊎◌, inl, inr}
use mathlib.Core.Bool.{cond}
use mathlib.Core.List.Memᴰ
use mathlib.Core.List.Memᴰ.{head as here}
use mathlib.Core.List.Memᴰ.{tail as there}
use mathlib.Core.List.{List, [], ◌∷◌, ◌++◌}
use Prim.Native.Nat.{ℕ, ◌<◌, ◌≤◌, ◌+◌, ◌*◌}
use native.Mathlib.Omega.{arith}
use native.Mathlib.Decide.{ℕ_discrete}
use lib.ListN.{get_or, set, length, length-set, length-append}
use lib.Seq.{get_or-set_same, get_or-set_other}
use lib.Dec.{T, ltb}
use borrow.Author.Tests.{lt-ltb}
use Rattle.rules.specs.Lists.{◌∈◌}
use Rattle.rules.specs.Marks.{TOP, START, END, is_record}
use Rattle.rules.specs.Text.{last}
use Rattle.rules.specs.Line.{Row}
use Rattle.rules.specs.Table.{numbers}
use Rattle.rules.specs.Tree.{child_numbers}
use Rattle.rules.specs.Demands.{Readable}
use Rattle.trees.proofs.Lists.{last_among}
use Rattle.trees.proofs.Marks.{record_high}
use Rattle.trees.proofs.OneTable.{child_number, child_record, number_row}
use Rattle.trees.proofs.LineByLine.{children_more}
use Rattle.facts.specs.Memory.{NUMBERS, ROOM, WIDTH, NUMBER, PARENT, FORERUNNER, FOLLOWER, FIRST, LAST, PLACE, LENGTH}
use Rattle.facts.specs.Memory.{line_at, field, who, way, laid, add_line, add_facts}
use Rattle.facts.specs.Holds.{Strung, Holds, part_at}
use Rattle.facts.proofs.Laying.{laid_in, laid-before, laid-length}
use Rattle.facts.proofs.Strings.{Aside, Grown, Hung, way_is, known_who, aside_same, strung_end, strung_last, grown, framed}
use Rattle.facts.proofs.Strings.{started}
use Rattle.facts.proofs.Shown.{row_parent, row_parent_field, top_line}
use Rattle.facts.proofs.OneMore.{childless, children_other, known_cases, not_new, number_cases, number_new, number_old}

-- two places in the array are one only if line and field are
same_line : (i j a b : ℕ) → a < WIDTH → b < WIDTH → i * WIDTH + a ≡ j * WIDTH + b → i ≡ j
same_line i j a b ha hb e = omega arith

same-field : (i j a b : ℕ) → a < WIDTH → b < WIDTH → i * WIDTH + a ≡ j * WIDTH + b → a ≡ b
same-field i j a b ha hb e = omega arith

-- what one line more comes to: memory holds the row y as well, with its content at a place of its text, and knows nothing else anew
pub record Added (ls fs ls' fs' : List ℕ) (t : List Row) (y : Row) (start long : ℕ) : Type 0 where
  pub holds : Holds ls' fs' (t ++ (y ∷ []))
  pub part_new : part_at ls' fs' y.number ≡ record { start = start; length = long }
  pub part_same : (m : ℕ) → m ∈ numbers t → part_at ls' fs' m ≡ part_at ls fs m
  pub line_new : line_at ls' y.number ≡ length t + 1
  pub lines_same : (m : ℕ) → (m ≡ y.number → ⊥) → line_at ls' m ≡ line_at ls m
  pub numbers-same : (i : ℕ) → i ≤ length t → get_or fs' (i * WIDTH + NUMBER) 0 ≡ get_or fs (i * WIDTH + NUMBER) 0
  pub all_lines : length ls' ≡ length ls
  pub all-facts : length fs' ≡ length fs

-- The premises on y and l are what codes 6, 9, 10 and 3 have tested; the lengths of the arrays are those of their types.
module _ (ls fs : List ℕ) (t : List Row) (y : Row) (l start long : ℕ) (h : Holds ls fs t) (ok : Readable t)
    (record_y : T (is_record y.number)) (new : y.number ∈ numbers t → ⊥) (under : y.parent ∈ TOP ∷ numbers t)
    (next : l ≡ length t + 1) (room : l < ROOM) (all_lines : length ls ≡ NUMBERS) (all-facts : length fs ≡ ROOM * WIDTH) where
  abbrev n : ℕ
  n = y.number

  abbrev r : ℕ
  r = y.parent

  -- the last child so far
  abbrev p : ℕ
  p = field ls fs r LAST

  abbrev ls' : List ℕ
  ls' = add_line ls l n

  abbrev fs' : List ℕ
  fs' = add_facts ls' fs l n r p start long

  abbrev t' : List Row
  t' = t ++ (y ∷ [])

  abbrev Known : ℕ → Type 0
  Known m = m ∈ TOP ∷ numbers t

  -- ---- lines

  line_other : (m : ℕ) → (m ≡ n → ⊥) → line_at ls' m ≡ line_at ls m
  line_other m ne = ap (λ (v : ℕ). cond (ltb v ROOM) v 0) (get_or-set_other ls n m l 0 ne)

  line_new : line_at ls' n ≡ l
  line_new =
      ap (λ (v : ℕ). cond (ltb v ROOM) v 0) (get_or-set_same ls n l 0 (omega (arith, record_high n record_y)))
      ∙ rw (lt-ltb l ROOM room)

  lines-kept : length ls' ≡ length ls
  lines-kept = length-set ls n l

  line_known : (m : ℕ) → Known m → line_at ls' m ≡ line_at ls m
  line_known m k = line_other m (not_new t y ok record_y new m k)

  line_low : (m : ℕ) → Known m → line_at ls' m ≤ length t
  line_low m k = omega (arith, line_known m k, h.few m)

  -- a line is one number's
  one_line : (m q : ℕ) → Known m → Known q → line_at ls m ≡ line_at ls q → m ≡ q
  one_line m q km kq e = sym (h.named m km) ∙ ap (λ (v : ℕ). get_or fs (v * WIDTH + NUMBER) 0) e ∙ h.named q kq

  -- ---- the last child so far

  strung_r : Strung (field ls fs) r START (child_numbers r t)
  strung_r = h.strung r under

  last_is : p ≡ last START (child_numbers r t)
  last_is = (strung_end (field ls fs) r START (child_numbers r t) strung_r).1

  shut : field ls fs (who r p) (way p) ≡ END
  shut =
      subst (λ (b : ℕ). field ls fs (who r b) (way b) ≡ END) (sym last_is)
      (strung_end (field ls fs) r START (child_numbers r t) strung_r).0

  hung : Hung (field ls fs) r p
  hung = subst (Hung (field ls fs) r) (sym last_is) (strung_last (field ls fs) r START (child_numbers r t) strung_r (inl refl))

  child_known : (q k : ℕ) → k ∈ child_numbers q t → Known k × T (is_record k)
  child_known q k m = (there (child_number t q k m), child_record t ok.distinct q k m)

  last_known : (p ≡ START) ⊎ Known p
  last_known =
      subst (λ (b : ℕ). (b ≡ START) ⊎ Known b) (sym last_is)
      (last_among (λ b. (b ≡ START) ⊎ Known b) START (child_numbers r t) (λ k m. inr (child_known r k m).0) (inl refl))

  who_is : Known (who r p)
  who_is = known_who Known r p under last_known

  -- ---- fields: two places outside the new line are written

  abbrev turned : ℕ
  turned = line_at ls' (who r p) * WIDTH + way p

  abbrev ended : ℕ
  ended = line_at ls' r * WIDTH + LAST

  abbrev fs₁ : List ℕ
  fs₁ = laid fs l n r p start long

  abbrev fs₂ : List ℕ
  fs₂ = set fs₁ turned n

  way_low : way p < WIDTH
  way_low = omega (arith, (way_is p).1)

  enough : l * WIDTH + WIDTH ≤ length fs
  enough = omega arith

  length₁ : length fs₁ ≡ length fs
  length₁ = laid-length fs l n r p start long

  length₂ : length fs₂ ≡ length fs
  length₂ = length-set fs₁ turned n ∙ length₁

  facts-kept : length fs' ≡ length fs
  facts-kept = length-set fs₂ ended n ∙ length₂

  -- any other place is as the new line's fields left it
  read : (j : ℕ) → (j ≡ turned → ⊥) → (j ≡ ended → ⊥) → get_or fs' j 0 ≡ get_or fs₁ j 0
  read j a b = get_or-set_other fs₂ ended j n 0 b ∙ get_or-set_other fs₁ turned j n 0 a

  -- a field of the new line
  field_new : (k v : ℕ) → k < WIDTH → get_or fs₁ (l * WIDTH + k) 0 ≡ v → field ls' fs' n k ≡ v
  field_new k v low e =
      ap (λ (i : ℕ). get_or fs' (i * WIDTH + k) 0) line_new
      ∙ read (l * WIDTH + k) (λ d. omega (arith, line_low (who r p) who_is, way_low)) (λ d. omega (arith, line_low r under))
      ∙ e

  -- field k of the new line, as it was laid
  laid-at : (k : ℕ) → k < WIDTH → get_or fs₁ (l * WIDTH + k) 0 ≡ get_or (n ∷ r ∷ p ∷ END ∷ END ∷ START ∷ start ∷ long ∷ []) k 0
  laid-at = laid_in fs l n r p start long enough

  -- a field of another line, but for those two
  field-same : (m k : ℕ) → Known m → k < WIDTH → ((m ≡ r) × (k ≡ LAST) → ⊥) → ((m ≡ who r p) × (k ≡ way p) → ⊥)
      → field ls' fs' m k ≡ field ls fs m k
  field-same m k km low not-ended not-turned =
      read (line_at ls' m * WIDTH + k) (λ d. not-turned (at (who r p) (way p) who_is way_low d))
      (λ d. not-ended (at r LAST under (omega arith) d))
      ∙ laid-before fs l n r p start long enough (line_at ls' m * WIDTH + k) (omega (arith, line_low m km))
      ∙ ap (λ (i : ℕ). get_or fs (i * WIDTH + k) 0) (line_known m km)
    where
      at : (q b : ℕ) → Known q → b < WIDTH → line_at ls' m * WIDTH + k ≡ line_at ls' q * WIDTH + b → (m ≡ q) × (k ≡ b)
      at q b kq low' d = (
        one_line m q km kq (sym (line_known m km) ∙ same_line (line_at ls' m) (line_at ls' q) k b low low' d ∙ line_known q kq),
        same-field (line_at ls' m) (line_at ls' q) k b low low' d,
      )

  -- so the lists grow as Strings says
  grows : Grown (field ls fs) (field ls' fs') Known n r p
  grows =
      record {
        same = field-same;
        turned =
            get_or-set_other fs₂ ended turned n 0
            (λ e. omega (arith, (way_is p).1, same-field (line_at ls' (who r p)) (line_at ls' r) (way p) LAST way_low (omega arith) e))
            ∙ get_or-set_same fs₁ turned n 0 (omega (arith, length₁, way_low, line_low (who r p) who_is));
        ended = get_or-set_same fs₂ ended n 0 (omega (arith, length₂, line_low r under));
        parent = field_new PARENT r (omega arith) (laid-at PARENT (omega arith));
        forerunner = field_new FORERUNNER p (omega arith) (laid-at FORERUNNER (omega arith));
        follower = field_new FOLLOWER END (omega arith) (laid-at FOLLOWER (omega arith));
        first = field_new FIRST END (omega arith) (laid-at FIRST (omega arith));
        last_child = field_new LAST START (omega arith) (laid-at LAST (omega arith));
      }

  side_same : (m k : ℕ) → Known m → k < WIDTH → Aside k → field ls' fs' m k ≡ field ls fs m k
  side_same = aside_same (field ls fs) (field ls' fs') Known n r p grows

  named_new : field ls' fs' n NUMBER ≡ n
  named_new = field_new NUMBER n (omega arith) (laid-at NUMBER (omega arith))

  parent_new : field ls' fs' n PARENT ≡ r
  parent_new = grows.parent

  parent_same : (m : ℕ) → m ∈ numbers t → field ls' fs' m PARENT ≡ field ls fs m PARENT
  parent_same m k = side_same m PARENT (there k) (omega arith) (inl (omega arith))

  -- ---- where contents lie

  add-part_new : part_at ls' fs' n ≡ record { start = start; length = long }
  add-part_new = λ i. record { start = place i; length = size i }
    where
      place : field ls' fs' n PLACE ≡ start
      place = field_new PLACE start (omega arith) (laid-at PLACE (omega arith))

      size : field ls' fs' n LENGTH ≡ long
      size = field_new LENGTH long (omega arith) (laid-at LENGTH (omega arith))

  add-part-same : (m : ℕ) → m ∈ numbers t → part_at ls' fs' m ≡ part_at ls fs m
  add-part-same m k = λ i. record { start = place i; length = size i }
    where
      place : field ls' fs' m PLACE ≡ field ls fs m PLACE
      place = side_same m PLACE (there k) (omega arith) (inr (omega arith))

      size : field ls' fs' m LENGTH ≡ field ls fs m LENGTH
      size = side_same m LENGTH (there k) (omega arith) (inr (omega arith))

  -- ---- rows

  -- a parent's field names the top or a number that is there
  parent_known : (m : ℕ) → m ∈ numbers t → Known (field ls fs m PARENT)
  parent_known m k =
      let w = number_row t m k in
      let e : field ls fs m PARENT ≡ w.0.parent =
      ap (λ (z : ℕ). field ls fs z PARENT) (sym w.2) ∙ row_parent_field ls fs t h ok w.0 w.1 in
      Memᴰ.cast e (row_parent t ok w.0 w.1)

  -- ---- memory holds them

  strings : (q : ℕ) → Known q ⊎ (q ≡ n) → Strung (field ls' fs') q START (child_numbers q t')
  strings q (inr e) =
      subst (λ (z : ℕ). Strung (field ls' fs') z START (child_numbers z t')) (sym e)
      (subst (Strung (field ls' fs') n START) (sym (childless t y ok record_y new under))
      (started (field ls fs) (field ls' fs') Known n r p grows under record_y))
  strings q (inl k) = go (ℕ_discrete q r)
    where
      go : Dec (q ≡ r) → Strung (field ls' fs') q START (child_numbers q t')
      go (yes e) =
          subst (λ (z : ℕ). Strung (field ls' fs') z START (child_numbers z t')) (sym e)
          (subst (Strung (field ls' fs') r START) (sym (children_more t y))
          (grown (field ls fs) (field ls' fs') Known n r p grows under record_y START (child_numbers r t) strung_r shut (sym last_is)
          (inl refl) (child_known r)))
      go (no e) =
          subst (Strung (field ls' fs') q START) (sym (children_other t y q e))
          (framed (field ls fs) (field ls' fs') Known n r p grows under record_y q k e hung START (child_numbers q t) (h.strung q k)
          (inl refl) (inl refl) (child_known q))

  names : (m : ℕ) → Known m ⊎ (m ≡ n) → field ls' fs' m NUMBER ≡ m
  names m (inl k) = side_same m NUMBER k (omega arith) (inl (omega arith)) ∙ h.named m k
  names m (inr e) = ap (λ (z : ℕ). field ls' fs' z NUMBER) e ∙ named_new ∙ sym e

  has_line : (m : ℕ) → (m ∈ numbers t) ⊎ (m ≡ n) → 0 < line_at ls' m
  has_line m (inl k) = omega (arith, line_known m (there k), h.known m k)
  has_line m (inr e) = subst (λ (z : ℕ). 0 < line_at ls' z) (sym e) (omega (arith, line_new))

  line_has : (m : ℕ) → 0 < line_at ls' m → Dec (m ≡ n) → m ∈ numbers t'
  line_has m low (yes e) = number_new t y m e
  line_has m low (no e) = number_old t y m (h.only m (omega (arith, line_other m e)))

  more : length t' ≡ length t + 1
  more = length-append t (y ∷ [])

  line_few : (m : ℕ) → Dec (m ≡ n) → line_at ls' m ≤ length t'
  line_few m (yes e) = subst (λ (z : ℕ). line_at ls' z ≤ length t') (sym e) (omega (arith, line_new, more))
  line_few m (no e) = omega (arith, line_other m e, h.few m, more)

  number_same : (i : ℕ) → i ≤ length t → get_or fs' (i * WIDTH + NUMBER) 0 ≡ get_or fs (i * WIDTH + NUMBER) 0
  number_same i low =
      read (i * WIDTH + NUMBER) (λ d. omega (arith, (way_is p).0, (way_is p).1)) (λ d. omega arith)
      ∙ laid-before fs l n r p start long enough (i * WIDTH + NUMBER) (omega arith)

  -- the new record stood on no line
  absent : (i : ℕ) → i ≤ length t → get_or fs (i * WIDTH + NUMBER) 0 ≡ n → Dec (i ≡ 0) → ⊥
  absent i low e (no z) = new (Memᴰ.cast (sym e) (h.only (get_or fs (i * WIDTH + NUMBER) 0) (omega (arith, h.lined i low))))
  absent i low e (yes z) =
      let d : get_or fs (i * WIDTH + NUMBER) 0 ≡ TOP =
      ap (λ (j : ℕ). get_or fs (j * WIDTH + NUMBER) 0) (z ∙ sym (top_line ls fs t h ok)) ∙ h.named TOP (here refl) in
      not_new t y ok record_y new n (here (sym e ∙ d)) refl

  on_line_lem : (i : ℕ) → i ≤ length t' → Dec (i ≡ l) → line_at ls' (get_or fs' (i * WIDTH + NUMBER) 0) ≡ i
  on_line_lem i low (yes e) =
      ap (λ (j : ℕ). line_at ls' (get_or fs' (j * WIDTH + NUMBER) 0)) (e ∙ sym line_new) ∙ ap (line_at ls') named_new ∙ line_new ∙ sym e
  on_line_lem i low (no e) =
      let d : i ≤ length t = omega (arith, more) in
      ap (line_at ls') (number_same i d)
      ∙ line_other (get_or fs (i * WIDTH + NUMBER) 0) (λ z. absent i d z (ℕ_discrete i 0)) ∙ h.lined i d

  parent_earlier : (m : ℕ) → (m ∈ numbers t) ⊎ (m ≡ n) → line_at ls' (field ls' fs' m PARENT) < line_at ls' m
  parent_earlier m (inl k) =
      let e : line_at ls' (field ls' fs' m PARENT) ≡ line_at ls (field ls fs m PARENT) =
      ap (line_at ls') (parent_same m k) ∙ line_known (field ls fs m PARENT) (parent_known m k) in
      omega (arith, e, line_known m (there k), h.earlier m k)
  parent_earlier m (inr e) =
      subst (λ (z : ℕ). line_at ls' (field ls' fs' z PARENT) < line_at ls' z) (sym e)
      (omega (arith, ap (line_at ls') parent_new, line_low r under, line_new))

  pub add_holds : Holds ls' fs' (t ++ (y ∷ []))
  add_holds =
      record {
        strung = λ q k. strings q (known_cases t y q k);
        named = λ m k. names m (known_cases t y m k);
        known = λ m k. has_line m (number_cases t y m k);
        only = λ m low. line_has m low (ℕ_discrete m n);
        few = λ m. line_few m (ℕ_discrete m n);
        lined = λ i low. on_line_lem i low (ℕ_discrete i l);
        earlier = λ m k. parent_earlier m (number_cases t y m k);
      }

  pub added : Added ls fs ls' fs' t y start long
  added = record {
    holds = add_holds;
    part_new = add-part_new;
    part_same = add-part-same;
    line_new = line_new ∙ next;
    lines_same = line_other;
    numbers-same = number_same;
    all_lines = lines-kept;
    all-facts = facts-kept;
  }
