-- A record that stands as in old: no edit shows at it, so nothing clashes there and no edit of its position is lost. lines and facts are
-- the arrays of the tables' arrays; k is a table, n a record or the top, r a parent. Assumes nothing.
use mathlib.Core.Path.{◌≡◌, refl, sym, ap, ◌∙◌, subst}
use mathlib.Core.Bool.{Bool, true, false, not, ◌&&◌, ◌||◌, cond, and-false}
use mathlib.Core.List.{List, []}
use Prim.Native.Nat.{ℕ, ◌<◌}
use native.Mathlib.Omega.{arith}
use lib.Dec.{T, eqb, ltb, eqb→eq}
use lib.ListN.{get_or}
use mir.Facts.{and_yes}
use borrow.Author.Tests.{eq-eqb, ne_eqb}
use Rattle.rules.specs.Marks.{TOP, START, END}
use Rattle.facts.specs.Memory.{PARENT, FORERUNNER, FOLLOWER, FIRST, LAST, line_at}
use Rattle.facts.specs.Asked.{Asked, has_in, list_in, child_in}
use Rattle.std.specs.Prelude.{None}
use Rattle.edits.specs.Least.{place, lesser}
use Rattle.edits.specs.Memory.{ask, field_in, same_field, unmoved}
use Rattle.edits.specs.Positions.{fresh, fresh_after, fresh_before, torn, parent_place, neighbour_place}

-- ---- two answers

-- the same answer, or none, is no edit: h tells whether x is answered, g whether old answers y
no_edit : (h g : Bool) (x y : ℕ) → T (not h || g) → x ≡ y → fresh (cond g y 0) (cond h x 0) ≡ false
no_edit false g x y p e = refl
no_edit true false x y p e = elim p [ ]
no_edit true true x y p e = ap (λ (b : Bool). ltb 0 x && not b) (eq-eqb x y e) ∙ and-false (ltb 0 x)

-- whoever has it as a child has it in old, if the parent is one
still_child : (h g b c : Bool) → T (not h || g) → b ≡ c → T (not (h && b) || (g && c))
still_child false g b c p e = tt
still_child true false b c p e = elim p [ ]
still_child true true true c p e = subst (λ (z : Bool). T z) e tt
still_child true true false c p e = tt

-- the top has a list in each table
still_list : (t h g : Bool) → T (not h || g) → T (not (t || h) || (t || g))
still_list true h g p = tt
still_list false h g p = p

-- where neither is an edit, none gives the record its parent, and none tears the list
no_claim : (h a b c : Bool) → a ≡ false → b ≡ false → (h && (a || b) && c) ≡ false
no_claim h a b c e f = (λ i. h && (e i || f i) && c) ∙ ap (λ (z : Bool). z && c) (and-false h)

no_tear : (a b c d : Bool) → a ≡ false → b ≡ false → (a && c || b && d) ≡ false
no_tear a b c d e f = (λ i. e i && c || f i && d)

-- ---- a record that stands as in old

module _ (lines facts : List (List ℕ)) (k n : ℕ) (low : n < START) (u : unmoved lines facts k n ≡ true) where
  abbrev q : ℕ → Asked
  q = ask lines facts

  passed : T (unmoved lines facts k n)
  passed = subst (λ (b : Bool). T b) (sym u) tt

  there : T (not (has_in (get_or lines k []) n) || has_in (get_or lines 0 []) n)
  there = (and_yes (not (has_in (get_or lines k []) n) || has_in (get_or lines 0 []) n) _ passed).0

  -- the five fields
  abbrev same : ℕ → Bool
  same = same_field (get_or facts k []) (get_or facts 0 []) (line_at (get_or lines k []) n) (line_at (get_or lines 0 []) n)

  fields : T (same PARENT) × T (same FORERUNNER) × T (same FOLLOWER) × T (same FIRST) × T (same LAST)
  fields =
      let a = and_yes (same PARENT) _ (and_yes (not (has_in (get_or lines k []) n) || has_in (get_or lines 0 []) n) _ passed).1 in
      let b = and_yes (same FORERUNNER) _ a.1 in
      let c = and_yes (same FOLLOWER) _ b.1 in
      let d = and_yes (same FIRST) (same LAST) c.1 in
      (a.0, b.0, c.0, d.0, d.1)

  parent : field_in lines facts k n PARENT ≡ field_in lines facts 0 n PARENT
  parent = eqb→eq _ _ fields.0

  child : (r : ℕ) → T (not (child_in (get_or lines k []) (get_or facts k []) r n) || child_in (get_or lines 0 []) (get_or facts 0 []) r n)
  child r =
      still_child (has_in (get_or lines k []) n) (has_in (get_or lines 0 []) n) _ _ there (ap (λ (p : ℕ). eqb p r) parent)

  list : T (not (list_in (get_or lines k []) n) || list_in (get_or lines 0 []) n)
  list = still_list (eqb n TOP) (has_in (get_or lines k []) n) (has_in (get_or lines 0 []) n) there

  -- no edit behind it, before it, or at the ends of its list

  pub none_behind : (r : ℕ) → fresh_after q k r n ≡ false
  none_behind r =
      rw (ne_eqb n START (λ e. omega arith))
      (no_edit (child_in (get_or lines k []) (get_or facts k []) r n) (child_in (get_or lines 0 []) (get_or facts 0 []) r n) _ _ (child r)
      (eqb→eq _ _ fields.2))

  none_before : (r : ℕ) → fresh_before q k r n ≡ false
  none_before r =
      rw (ne_eqb n END (λ e. omega arith))
      (no_edit (child_in (get_or lines k []) (get_or facts k []) r n) (child_in (get_or lines 0 []) (get_or facts 0 []) r n) _ _ (child r)
      (eqb→eq _ _ fields.1))

  pub none_first : fresh_after q k n START ≡ false
  none_first = no_edit (list_in (get_or lines k []) n) (list_in (get_or lines 0 []) n) _ _ list (eqb→eq _ _ fields.3)

  none_last : fresh_before q k n END ≡ false
  none_last = no_edit (list_in (get_or lines k []) n) (list_in (get_or lines 0 []) n) _ _ list (eqb→eq _ _ fields.4)

  pub no_parents : parent_place q k n ≡ None
  no_parents =
      let r = (q k).up n in
      ap (λ (b : Bool). place b n)
      (no_claim ((q k).has n) (fresh_after q k r n) (fresh_before q k r n) _ (none_behind r) (none_before r))

  untorn : (r p s : ℕ) → fresh_after q k r p ≡ false → fresh_before q k r s ≡ false → torn q k r p s ≡ false
  untorn r p s e f = no_tear (fresh_after q k r p) (fresh_before q k r s) _ _ e f

  pub no_neighbours : neighbour_place q k n ≡ None
  no_neighbours =
      let r = (q k).up n in
      λ i. lesser (place (untorn r n n (none_behind r) (none_before r) i) r) (place (untorn n START END none_first none_last i) n)
