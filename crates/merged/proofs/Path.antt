-- How far the merged tree is laid down: the lists that are begun and not at their end stand on a path, the innermost first, the top's
-- last. nx says who follows whom, `part` where the content of a record lies, ct what it is; t is the rows so far, ls and fs are the two
-- arrays; r is a parent, p the one before, a a level of the path, `broken` the least parent so far whose list stops before END. Assumes
-- nothing.
use mathlib.Core.Path.{◌≡◌, sym, subst}
use mathlib.Core.Option.{none, some}
use mathlib.Core.List.{List, [], ◌∷◌, ◌++◌, map}
use Prim.Native.Nat.{ℕ, ◌+◌, ◌-◌, ◌≤◌}
use lib.Dec.{T}
use lib.ListN.{length}
use Rattle.std.specs.Prelude.{Option, None, Some}
use Rattle.rules.specs.Lists.{◌∈◌, NoneTwice}
use Rattle.rules.specs.Marks.{TOP, START, END, is_record}
use Rattle.rules.specs.Text.{last}
use Rattle.rules.specs.Line.{Content, Row}
use Rattle.rules.specs.Table.{numbers}
use Rattle.rules.specs.Tree.{STEPS, Tree, child_numbers, numbers_in}
use Rattle.rules.specs.Facts.{PositionFact}
use Rattle.rules.specs.Merge.{follower, walk}
use Rattle.rules.specs.Demands.{Readable}
use Rattle.rules.specs.declared.answers.Part.{Part}
use Rattle.trees.proofs.Marks.{record_low}
use Rattle.trees.proofs.LineByLine.{Open}
use Rattle.trees.proofs.Walk.{step_is, step_none}
use Rattle.facts.specs.Holds.{Holds, part_at}
use Rattle.facts.specs.Order.{numbers_to}
use Rattle.edits.proofs.Best.{AtMost}
use Rattle.merged.specs.Laying.{Steps}

-- ---- the walk along the kept facts

module _ {nx : ℕ → ℕ → ℕ} {kept : List PositionFact} {known : List ℕ} (st : Steps nx kept known) (r p : ℕ) where
  pub step_on : T (is_record (nx r p)) → follower kept r p ≡ some (nx r p)
  step_on h = step_is kept st.calm r p (nx r p) h (st.goes r p (record_low (nx r p) h))

  pub step_off : (T (is_record (nx r p)) → ⊥) → follower kept r p ≡ none
  step_off h = step_none kept r p (λ n i m. h (subst (λ (z : ℕ). T (is_record z)) (sym (st.kept_goes r p n m)) i))

-- ---- the path

-- a list that is begun: its parent, and how many steps the walk has left in it
pub record Level : Type 0 where
  pub parent : ℕ
  pub left : ℕ

abbrev pub level : ℕ → ℕ → Level
level r k = record { parent = r; left = k }

abbrev pub parents : List Level → List ℕ
parents path = map (λ (a : Level). a.parent) path

-- one list more, that of s, for which the walk spends a step
abbrev pub deeper : ℕ → Level → List Level → List Level
deeper s a path = level s (a.left - 1) ∷ level a.parent (a.left - 1) ∷ path

-- p is the last child of the innermost parent, which is the last child of the next, and so on; no walk has spent more steps than there
-- are records
abbrev pub Begun : List Row → ℕ → ℕ → List Level → Type 0
Begun t count p [] = Unit {0}
Begun t count p (a ∷ path) =
    (p ≡ last START (child_numbers a.parent t)) × (STEPS ≤ a.left + count) × Begun t count a.parent path

-- what a walk has still to reach: the rest of each list, the innermost first
abbrev pub to_come : (ℕ → ℕ → ℕ → Tree) → ℕ → List Level → List ℕ
to_come walked p [] = []
to_come walked p (a ∷ path) = numbers_in (walked a.left a.parent p) ++ to_come walked a.parent path

-- no kept fact ends the list of r
abbrev pub Broken : (ℕ → ℕ → ℕ) → List Row → ℕ → Type 0
Broken nx t r = nx r (last START (child_numbers r t)) ≡ END → ⊥

-- a parent off the path whose list is broken, or nobody
abbrev pub BrokenIn : (ℕ → ℕ → ℕ) → List Row → List Level → Option ℕ → Type 0
BrokenIn nx t path None = Unit {0}
BrokenIn nx t path (Some r) = (r ∈ TOP ∷ numbers t) × (r ∈ parents path → ⊥) × Broken nx t r

-- every list so far is a way along the followers, and those that are not on the path go no further; what is laid and what is to come are
-- the walk, in its order
pub record Spread (nx : ℕ → ℕ → ℕ) (part : ℕ → Part) (kept : List PositionFact) (known : List ℕ) (ct : ℕ → Content) (ls fs : List ℕ)
    (path : List Level) (p count : ℕ) (broken : Option ℕ) : Type 0 where
  pub rows : List Row
  pub holds : Holds ls fs rows
  pub readable : Readable rows
  pub size : length rows ≡ count
  pub steps : (a : PositionFact) → Open rows a → nx a.parent a.before ≡ a.after
  pub begun : Begun rows count p path
  pub once : NoneTwice (parents path)
  pub on_path : (r : ℕ) → r ∈ parents path → r ∈ TOP ∷ numbers rows
  pub done : (r : ℕ) → r ∈ TOP ∷ numbers rows → (r ∈ parents path → ⊥) → T (is_record (nx r (last START (child_numbers r rows)))) → ⊥
  pub order : numbers_to fs count ++ to_come (walk (follower kept) ct) p path ≡ numbers_in (walk (follower kept) ct STEPS TOP START)
  pub filled : (x : Row) → x ∈ rows → x.content ≡ ct x.number
  pub placed : (n : ℕ) → n ∈ numbers rows → part_at ls fs n ≡ part n
  pub within : (n : ℕ) → n ∈ numbers rows → n ∈ known
  pub some_broken : BrokenIn nx rows path broken
  pub least_broken : (r : ℕ) → r ∈ TOP ∷ numbers rows → (r ∈ parents path → ⊥) → Broken nx rows r → AtMost broken r
