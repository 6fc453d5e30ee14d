-- All lists, turn by turn as the code goes. nx says who follows whom, `part` where the content of a record lies; ls and fs are the two
-- arrays, with 0 at the start and a prime with one line more; r is the innermost parent, p its last child so far, s what follows; `lists`
-- are begun. Assumes nothing.
use mathlib.Core.Path.{◌≡◌, refl, sym, ap, ◌∙◌, subst}
use mathlib.Core.Logic.{◌⊎◌, inl, inr}
use mathlib.Core.Bool.{Bool, true, false, not, ◌&&◌}
use mathlib.Core.List.Memᴰ
use mathlib.Core.List.Memᴰ.{head as here}
use mathlib.Core.List.{List, [], ◌∷◌, append-nil}
use Prim.Native.Nat.{ℕ, ◌<◌, ◌≤◌, ◌+◌, ◌-◌}
use native.Mathlib.Omega.{arith}
use lib.Dec.{T, eqb, ltb, ltb→lt, lt→ltb}
use lib.ListN.{length}
use Rattle.std.specs.Prelude.{Option, None}
use mir.Facts.{and_yes, yes_and}
use Rattle.rules.specs.Lists.{◌∈◌}
use Rattle.rules.specs.Marks.{TOP, START, END, is_record}
use Rattle.rules.specs.Text.{last}
use Rattle.rules.specs.Line.{Content}
use Rattle.rules.specs.Tree.{STEPS, child_numbers, numbers_in}
use Rattle.rules.specs.Facts.{PositionFact}
use Rattle.rules.specs.Merge.{follower, walk}
use Rattle.rules.specs.Demands.{Readable}
use Rattle.rules.specs.declared.answers.Part.{Part}
use Rattle.trees.proofs.Lists.{last_among}
use Rattle.facts.specs.Memory.{ROOM, PARENT, LAST, field, add_line, add_facts}
use Rattle.facts.specs.Holds.{Holds}
use Rattle.facts.proofs.Strings.{strung_parent}
use Rattle.facts.proofs.Adding.{Added, added}
use Rattle.edits.specs.Least.{place, lesser}
use Rattle.merged.specs.Laying.{LaidDown, RecordLaid, Result, Steps}
use Rattle.merged.proofs.Path.{Level, Spread, deeper, level}
use Rattle.merged.proofs.Spreading.{follower_new, known_parent, room, row, spread_on}
use Rattle.merged.proofs.Ending.{known_low, spread_up}
use Rattle.merged.proofs.Laid.{in_order_lem, least_is_told, tree_is}

-- r is the innermost parent
abbrev pub Innermost : ℕ → List Level → Type 0
Innermost r [] = Unit {0}
Innermost r (a ∷ path) = r ≡ a.parent

-- where the laying down stands
pub record Stand (nx : ℕ → ℕ → ℕ) (part : ℕ → Part) (kept : List PositionFact) (known : List ℕ) (ct : ℕ → Content) (ls fs : List ℕ)
    (r p count lists : ℕ) (broken : Option ℕ) : Type 0 where
  pub path : List Level
  pub deep : length path ≡ lists
  pub at : Innermost r path
  pub spread : Spread nx part kept known ct ls fs path p count broken

-- ---- a record more

module _ {nx : ℕ → ℕ → ℕ} {part : ℕ → Part} {kept : List PositionFact} {known : List ℕ} {ct : ℕ → Content} {ls fs : List ℕ}
    {a : Level} {path : List Level} {p count : ℕ} {broken : Option ℕ} (st : Steps nx kept known)
    (g : Spread nx part kept known ct ls fs (a ∷ path) p count broken) (record_s : T (is_record (nx a.parent p)))
    (s r : ℕ) (ls' fs' : List ℕ) (er : r ≡ a.parent) (es : s ≡ nx a.parent p) (w : RecordLaid part ls fs ls' fs' (count + 1) s r) where
  -- parent and record as the path tells them
  abbrev q : ℕ
  q = a.parent

  abbrev n : ℕ
  n = nx a.parent p

  abbrev More : List ℕ → List ℕ → Type 0
  More x y = Added ls fs x y g.rows (row st g record_s) (part n).start (part n).length

  same : add_facts (add_line ls (count + 1) s) fs (count + 1) s r (field ls fs r LAST) (part s).start (part s).length
      ≡ add_facts (add_line ls (count + 1) n) fs (count + 1) n q (field ls fs q LAST) (part n).start (part n).length
  same = λ j. add_facts (add_line ls (count + 1) (es j)) fs (count + 1) (es j) (er j) (field ls fs (er j) LAST) (part (es j)).start
      (part (es j)).length

  one_more : More ls' fs'
  one_more =
      subst (λ (x : List ℕ). More x fs') (sym (w.lines_then ∙ ap (add_line ls (count + 1)) es))
      (subst (λ (y : List ℕ). More (add_line ls (count + 1) n) y) (sym (w.facts_then ∙ same))
      (added ls fs g.rows (row st g record_s) (count + 1) (part n).start (part n).length g.holds g.readable record_s
      (follower_new st g record_s) (known_parent st g) (omega (arith, g.size)) (room st g record_s) w.all_lines w.all-facts))

  stand_on : Stand nx part kept known ct ls' fs' s START (count + 1) (length path + 1 + 1) broken
  stand_on = record {
    path = deeper n a path;
    deep = omega arith;
    at = es;
    spread = spread_on st g record_s one_more;
  }

-- ---- the end of a list

-- the one who is last in a list is in it
last_in : (n p : ℕ) (ns : List ℕ) → last p ns ≡ n → (n ≡ p → ⊥) → n ∈ ns
last_in n p ns e ne =
    elim (last_among (λ b. (b ≡ p) ⊎ (b ∈ ns)) p ns (λ m k. inr k) (inl refl)) [
      | inl d ↦ absurd (ne (sym e ∙ d))
      | inr m ↦ subst (λ (b : ℕ). b ∈ ns) e m
    ]

-- the list that r stands in is that of its parent
parent_next : {nx : ℕ → ℕ → ℕ} {part : ℕ → Part} {kept : List PositionFact} {known : List ℕ} {ct : ℕ → Content} {ls fs : List ℕ}
    {count : ℕ} {broken : Option ℕ} (r : ℕ) (path : List Level) → Spread nx part kept known ct ls fs path r count broken
    → r < START → Innermost (field ls fs r PARENT) path
parent_next r [] g low = tt
parent_next {ls = ls} {fs = fs} r (b ∷ path) g low =
    let m : r ∈ child_numbers b.parent g.rows =
    last_in r START (child_numbers b.parent g.rows) (sym g.begun.0) (λ e. omega arith) in
    strung_parent (field ls fs) b.parent START (child_numbers b.parent g.rows) (g.holds.strung b.parent (g.on_path b.parent
    (here refl))) r m

module _ {nx : ℕ → ℕ → ℕ} {part : ℕ → Part} {kept : List PositionFact} {known : List ℕ} {ct : ℕ → Content} {ls fs : List ℕ}
    {a : Level} {path : List Level} {p count : ℕ} {broken : Option ℕ} (st : Steps nx kept known)
    (g : Spread nx part kept known ct ls fs (a ∷ path) p count broken) (s r : ℕ) (er : r ≡ a.parent) (es : s ≡ nx a.parent p)
    (stop : T (is_record s) → ⊥) where
  abbrev broken' : Option ℕ
  broken' = lesser broken (place (not (eqb s END)) r)

  up : Spread nx part kept known ct ls fs path r count broken'
  up =
      subst (λ (b : ℕ). Spread nx part kept known ct ls fs path b count broken') (sym er)
      (subst (λ (b : Option ℕ). Spread nx part kept known ct ls fs path a.parent count b)
      (λ j. lesser broken (place (not (eqb (sym es j) END)) (sym er j)))
      (spread_up st g (λ k. stop (subst (λ (z : ℕ). T (is_record z)) (sym es) k))))

  stand_up : Stand nx part kept known ct ls fs (field ls fs r PARENT) r count (length path) broken'
  stand_up = record {
    path = path;
    deep = refl;
    at = parent_next r path up (known_low g.rows g.readable r (Memᴰ.cast er (known_parent st g)));
    spread = up;
  }

-- ---- at the start of each turn

pub record Outer (nx : ℕ → ℕ → ℕ) (part : ℕ → Part) (ls₀ fs₀ ls fs : List ℕ) (r p count lists : ℕ) (broken : Option ℕ)
    : Type 0 where
  pub in_room : count < ROOM
  pub few_lists : lists ≤ count + 1
  pub stands : (kept : List PositionFact) (known : List ℕ) → Steps nx kept known → Holds ls₀ fs₀ [] → (ct : ℕ → Content)
      → Stand nx part kept known ct ls fs r p count lists broken

no_rows : Readable []
no_rows = record { distinct = record { once = tt; valid = λ x m. absurd (Memᴰ.not-nil m) }; rooted = tt }

module _ (nx : ℕ → ℕ → ℕ) (part : ℕ → Part) (ls₀ fs₀ : List ℕ) where
  pub begun_at : Outer nx part ls₀ fs₀ ls₀ fs₀ TOP START 0 1 None
  begun_at = record {
    in_room = omega arith;
    few_lists = omega arith;
    stands = λ kept known st h ct. record {
      path = level TOP STEPS ∷ [];
      deep = refl;
      at = refl;
      spread = record {
        rows = [];
        holds = h;
        readable = no_rows;
        size = refl;
        steps = λ a m. absurd (Memᴰ.not-nil m);
        begun = (refl, omega arith, tt);
        once = ((λ m. Memᴰ.not-nil m), tt);
        on_path = λ q m. m;
        done = λ q k l. absurd (l k);
        order = append-nil (numbers_in (walk (follower kept) ct STEPS TOP START));
        filled = λ x m. absurd (Memᴰ.not-nil m);
        placed = λ n m. absurd (Memᴰ.not-nil m);
        within = λ n m. absurd (Memᴰ.not-nil m);
        some_broken = tt;
        least_broken = λ q k l. absurd (l k);
      };
    };
  }

module _ {nx : ℕ → ℕ → ℕ} {part : ℕ → Part} {ls₀ fs₀ ls fs : List ℕ} {r p count lists : ℕ} {broken : Option ℕ}
    (g : Outer nx part ls₀ fs₀ ls fs r p count lists broken) where
  -- ---- one turn

  module _ (s : ℕ) (begun : 0 < lists) (es : s ≡ nx r p) where
    -- s is a record for which there is room
    abbrev Next : Bool
    Next = is_record s && ltb count (ROOM - 1)

    pub turn_down : (ls' fs' : List ℕ) → true ≡ Next → RecordLaid part ls fs ls' fs' (count + 1) s r
        → Outer nx part ls₀ fs₀ ls' fs' s START (count + 1) (lists + 1) broken
    turn_down ls' fs' t w =
        record {
          in_room = omega (arith, ltb→lt count (ROOM - 1) both.1);
          few_lists = omega (arith, g.few_lists);
          stands = λ kept known st h ct.
              let d = g.stands kept known st h ct in go kept known ct st d.path d.deep d.at d.spread;
        }
      where
        both : T (is_record s) × T (ltb count (ROOM - 1))
        both = and_yes (is_record s) (ltb count (ROOM - 1)) (subst T t tt)

        go : (kept : List PositionFact) (known : List ℕ) (ct : ℕ → Content) → Steps nx kept known → (path : List Level)
            → length path ≡ lists → Innermost r path → Spread nx part kept known ct ls fs path p count broken
            → Stand nx part kept known ct ls' fs' s START (count + 1) (lists + 1) broken
        go kept known ct st [] deep at f = absurd (omega arith)
        go kept known ct st (a ∷ path) deep at f =
            let e : s ≡ nx a.parent p = es ∙ ap (λ (q : ℕ). nx q p) at in
            let i : T (is_record (nx a.parent p)) = subst (λ (n : ℕ). T (is_record n)) e both.0 in
            let many : length path + 1 + 1 ≡ lists + 1 = omega arith in
            subst (λ (m : ℕ). Stand nx part kept known ct ls' fs' s START (count + 1) m broken) many
            (stand_on st f i s r ls' fs' at e w)

    pub turn_up : (r' : ℕ) (broken' : Option ℕ) → false ≡ Next → lesser broken (place (not (eqb s END)) r) ≡ broken'
        → field ls fs r PARENT ≡ r' → Outer nx part ls₀ fs₀ ls fs r' r count (lists - 1) broken'
    turn_up r' broken' t eb er =
        record {
          in_room = g.in_room;
          few_lists = omega (arith, g.few_lists);
          stands = λ kept known st h ct.
              let d = g.stands kept known st h ct in go kept known ct st d.path d.deep d.at d.spread;
        }
      where
        -- the room does not end before the lists do
        full : (kept : List PositionFact) (known : List ℕ) (ct : ℕ → Content) → Steps nx kept known → (a : Level) (path : List Level)
            → Spread nx part kept known ct ls fs (a ∷ path) p count broken → s ≡ nx a.parent p → T (is_record s) → ⊥
        full kept known ct st a path f e i =
            let more = room st f (subst (λ (n : ℕ). T (is_record n)) e i) in
            subst T (sym t) (yes_and (is_record s) (ltb count (ROOM - 1)) i (lt→ltb count (ROOM - 1) (omega arith)))

        go : (kept : List PositionFact) (known : List ℕ) (ct : ℕ → Content) → Steps nx kept known → (path : List Level)
            → length path ≡ lists → Innermost r path → Spread nx part kept known ct ls fs path p count broken
            → Stand nx part kept known ct ls fs r' r count (lists - 1) broken'
        go kept known ct st [] deep at f = absurd (omega arith)
        go kept known ct st (a ∷ path) deep at f =
            let e : s ≡ nx a.parent p = es ∙ ap (λ (q : ℕ). nx q p) at in
            let many : length path ≡ lists - 1 = omega arith in
            subst (λ (m : ℕ). Stand nx part kept known ct ls fs r' r count m broken') many
            (subst (λ (b : Option ℕ). Stand nx part kept known ct ls fs r' r count (length path) b) eb
            (subst (λ (q : ℕ). Stand nx part kept known ct ls fs q r count (length path) (lesser broken (place (not (eqb s END)) r)))
            er (stand_up st f s r at e (λ i. full kept known ct st a path f e i))))

  -- ---- no list is left

  pub all_laid : lists ≤ 0 → LaidDown nx part ls₀ fs₀ ls fs count broken
  all_laid over =
      record {
        all = λ kept known st h ct.
            let d = g.stands kept known st h ct in go kept known ct st d.path d.deep d.spread;
      }
    where
      go : (kept : List PositionFact) (known : List ℕ) (ct : ℕ → Content) → Steps nx kept known → (path : List Level)
          → length path ≡ lists → Spread nx part kept known ct ls fs path p count broken
          → Result part kept known ct ls fs count broken
      go kept known ct st (a ∷ path) deep f = absurd (omega arith)
      go kept known ct st [] deep f = record {
        rows = f.rows;
        holds = f.holds;
        readable = f.readable;
        size = f.size;
        order = in_order_lem st f;
        filled = f.filled;
        placed = f.placed;
        within = f.within;
        tree = tree_is st f;
        least_broken = least_is_told st f;
      }
