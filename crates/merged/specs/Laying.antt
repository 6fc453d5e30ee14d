-- The merged tree as one more table in memory: when a record is laid there, and when all of them are. nx says who follows whom, `part`
-- where the content of a record lies; ls and fs are the two arrays, a name with a prime is an array afterwards; r is a parent, p the one
-- before, s the one after, l a line. Assumes nothing.
use Rattle.std.specs.Prelude.{◌≡◌, ◌⊎◌, List, [], ◌∷◌, map, ℕ, ◌<◌, ◌*◌, T, length, Option}
use Rattle.rules.specs.Lists.{◌∈◌}
use Rattle.rules.specs.Marks.{TOP, START, is_record}
use Rattle.rules.specs.Line.{Content, Row}
use Rattle.rules.specs.Table.{numbers}
use Rattle.rules.specs.Tree.{STEPS, tree_of}
use Rattle.rules.specs.Facts.{PositionFact, position, same_position, positions_disagree, lacking, tree_positions}
use Rattle.rules.specs.Merge.{follower, walk}
use Rattle.rules.specs.Demands.{Readable}
use Rattle.rules.specs.declared.answers.Part.{Part}
use Rattle.trees.proofs.Kept.{Coherent}
use Rattle.facts.specs.Memory.{NUMBERS, ROOM, WIDTH, LAST, field, add_line, add_facts}
use Rattle.facts.specs.Holds.{Holds, part_at}
use Rattle.facts.specs.Order.{InWrittenOrder}
use Rattle.edits.specs.Least.{least_or_none}

-- the followers are those of some kept facts that do not disagree, and never leave some numbers that there is room for
pub record Steps (nx : ℕ → ℕ → ℕ) (kept : List PositionFact) (known : List ℕ) : Type 0 where
  pub calm : Coherent positions_disagree kept
  pub goes : (r p : ℕ) → 0 < nx r p → position r p (nx r p) ∈ kept
  pub kept_goes : (r p s : ℕ) → position r p s ∈ kept → nx r p ≡ s
  pub stays : (r p : ℕ) → r ∈ TOP ∷ known → (p ≡ START) ⊎ (p ∈ known) → T (is_record (nx r p)) → nx r p ∈ known
  pub few : length known < ROOM

-- s is on line l, as the last child of r; and the arrays are as long as their types say
pub record RecordLaid (part : ℕ → Part) (ls fs ls' fs' : List ℕ) (l s r : ℕ) : Type 0 where
  pub all_lines : length ls ≡ NUMBERS
  pub all-facts : length fs ≡ ROOM * WIDTH
  pub lines_then : ls' ≡ add_line ls l s
  pub facts_then : fs' ≡ add_facts (add_line ls l s) fs l s r (field ls fs r LAST) (part s).start (part s).length

-- the tree along the followers of some facts is a table in memory, in written order, whatever its contents are, and its least broken list
-- is known
pub record Result (part : ℕ → Part) (kept : List PositionFact) (known : List ℕ) (ct : ℕ → Content) (ls fs : List ℕ)
    (count : ℕ) (broken : Option ℕ) : Type 0 where
  pub rows : List Row
  pub holds : Holds ls fs rows
  pub readable : Readable rows
  pub size : length rows ≡ count
  pub order : InWrittenOrder fs rows
  pub filled : (x : Row) → x ∈ rows → x.content ≡ ct x.number
  pub placed : (n : ℕ) → n ∈ numbers rows → part_at ls fs n ≡ part n
  pub within : (n : ℕ) → n ∈ numbers rows → n ∈ known
  pub tree : walk (follower kept) ct STEPS TOP START ≡ tree_of rows
  pub least_broken :
      broken ≡ least_or_none (map (λ (a : PositionFact). a.parent)
      (lacking same_position (tree_positions TOP START (walk (follower kept) ct STEPS TOP START)) kept))

pub record LaidDown (nx : ℕ → ℕ → ℕ) (part : ℕ → Part) (ls fs ls' fs' : List ℕ) (count : ℕ) (broken : Option ℕ) : Type 0 where
  pub all : (kept : List PositionFact) (known : List ℕ) → Steps nx kept known → Holds ls fs [] → (ct : ℕ → Content)
      → Result part kept known ct ls' fs' count broken
