-- What the code of an end says, and that the answer and the buffers are those of the definitions. n is how many records there are, a and b
-- are the two lengths, ra and rb the room of the two buffers, f is a tree, es are the ledger's entries. Assumes nothing.
use mathlib.Core.Path.{◌≡◌, refl}
use mathlib.Core.Bool.{Bool, true, false, cond, ◌||◌}
use mathlib.Core.List.{List}
use Prim.Native.Nat.{ℕ, ◌≤◌}
use native.Mathlib.Omega.{arith}
use lib.Dec.{eqb, ltb}
use lib.ListN.{length}
use borrow.Author.Tests.{ltb-false}
use Rattle.rules.specs.Limits.{LINES, BYTES}
use Rattle.rules.specs.Codes.{accepted, merged_too_large, table_too_short, ledger_too_short}
use Rattle.rules.specs.Marks.{TOP}
use Rattle.rules.specs.Tree.{Tree, rows}
use Rattle.rules.specs.Written.{written_tree, over}
use Rattle.rules.specs.Ledger.{Entry, ledger}
use Rattle.rules.specs.Calls.{Outcome, too_large, no_room, done, over_limits, packed, answer_of, table_after, ledger_after}
use Rattle.rules.specs.Kinds.{shortage_code}
use Rattle.rules.specs.declared.kinds.Shortage.{Shortage}
use Rattle.rules.specs.declared.kinds.Shortage.TheVariants.{Limits, Table, Ledger}
use Rattle.pack.specs.Packed.{room_code, room_told}

-- ---- the code

module _ (n a b ra rb : ℕ) where
  -- code 0: all is within limits and room
  pub record Fitting : Type 0 where
    pub few : n ≤ LINES
    pub short : a ≤ BYTES
    pub table : a ≤ ra
    pub ledger : b ≤ rb

  pub fitting : room_code n a b ra rb ≡ accepted → Fitting
  fitting e = go (ltb LINES n) (ltb BYTES a) (ltb ra a) (ltb rb b) refl refl refl refl e
    where
      go : (p q r s : Bool) → ltb LINES n ≡ p → ltb BYTES a ≡ q → ltb ra a ≡ r → ltb rb b ≡ s
          → cond (p || q) merged_too_large (cond r table_too_short (cond s ledger_too_short accepted)) ≡ accepted → Fitting
      go true q r s i j k l z = absurd (omega arith)
      go false true r s i j k l z = absurd (omega arith)
      go false false true s i j k l z = absurd (omega arith)
      go false false false true i j k l z = absurd (omega arith)
      go false false false false i j k l z =
          record { few = ltb-false LINES n i; short = ltb-false BYTES a j; table = ltb-false ra a k; ledger = ltb-false rb b l }

-- what is lacked has a code of its own
pub lacks : (shortage : Shortage) → shortage_code shortage ≡ accepted → ⊥
lacks Limits e = omega arith
lacks Table e = omega arith
lacks Ledger e = omega arith

-- ---- as the definitions have them

module _ (f : Tree) (es : List Entry) (ra rb : ℕ) where
  abbrev A : ℕ
  A = length (written_tree f)

  abbrev B : ℕ
  B = length (ledger es)

  abbrev pub code_of : ℕ
  code_of = room_code (length (rows TOP f)) A B ra rb

  -- the tests in their order, whatever they answer
  abbrev end : Bool → Bool → Bool → Outcome
  end large short none =
      cond large too_large (cond short (no_room table_too_short A B) (cond none (no_room ledger_too_short A B) (done (written_tree f) es)))

  abbrev code : Bool → Bool → Bool → ℕ
  code large short none = cond large merged_too_large (cond short table_too_short (cond none ledger_too_short accepted))

  pub room_answer : answer_of (packed f es ra rb) ≡ room_told code_of A B
  room_answer = go (over_limits f) (ltb ra A) (ltb rb B)
    where
      go : (l s n : Bool) → answer_of (end l s n) ≡ room_told (code l s n) A B
      go true s n = refl
      go false true n = refl
      go false false true = refl
      go false false false = refl

  module _ (buffer : List ℕ) where
    pub room_tabled : table_after (packed f es ra rb) buffer ≡ cond (eqb code_of accepted) (over (written_tree f) buffer) buffer
    room_tabled = go (over_limits f) (ltb ra A) (ltb rb B)
      where
        go : (l s n : Bool) → table_after (end l s n) buffer ≡ cond (eqb (code l s n) accepted) (over (written_tree f) buffer) buffer
        go true s n = refl
        go false true n = refl
        go false false true = refl
        go false false false = refl

    pub room_ledgered : ledger_after (packed f es ra rb) buffer ≡ cond (eqb code_of accepted) (over (ledger es) buffer) buffer
    room_ledgered = go (over_limits f) (ltb ra A) (ltb rb B)
      where
        go : (l s n : Bool) → ledger_after (end l s n) buffer ≡ cond (eqb (code l s n) accepted) (over (ledger es) buffer) buffer
        go true s n = refl
        go false true n = refl
        go false false true = refl
        go false false false = refl
