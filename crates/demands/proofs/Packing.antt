-- When a merged tree is written: exactly if it is within the limits and fits with its ledger into the two buffers. f is the tree, es are
-- the ledger's entries, a and b the room of the two buffers. Assumes nothing.
use mathlib.Core.Path.{◌≡◌, refl}
use mathlib.Core.Bool.{Bool, true, false, cond, ◌||◌}
use mathlib.Core.List.{List}
use Prim.Native.Nat.{ℕ, ◌≤◌}
use native.Mathlib.Omega.{arith}
use lib.Dec.{ltb}
use lib.ListN.{length}
use borrow.Author.Tests.{ltb-false, le-ltb}
use Rattle.rules.specs.Limits.{LINES, BYTES}
use Rattle.rules.specs.Codes.{table_too_short, ledger_too_short}
use Rattle.rules.specs.Marks.{TOP}
use Rattle.rules.specs.Tree.{Tree, rows}
use Rattle.rules.specs.Written.{written_tree}
use Rattle.rules.specs.Ledger.{Entry, ledger}
use Rattle.rules.specs.Calls.{Outcome, too_large, no_room, done, packed}

-- `packed` by its three tests, with the ledger's length k
abbrev pub ending : Bool → Bool → Bool → List ℕ → ℕ → List Entry → Outcome
ending large table_short ledger_short table k es =
    cond large too_large
    (cond table_short (no_room table_too_short (length table) k)
    (cond ledger_short (no_room ledger_too_short (length table) k)
    (done table es)))

pub record Packed (f : Tree) (es : List Entry) (a b : ℕ) : Type 0 where
  pub few : length (rows TOP f) ≤ LINES
  pub short : length (written_tree f) ≤ BYTES
  pub table-room : length (written_tree f) ≤ a
  pub ledger-room : length (ledger es) ≤ b

module _ (f : Tree) (es : List Entry) (a b : ℕ) where
  pub packed_done : Packed f es a b → packed f es a b ≡ done (written_tree f) es
  packed_done p =
      rw (
        le-ltb LINES (length (rows TOP f)) p.few,
        le-ltb BYTES (length (written_tree f)) p.short,
        le-ltb a (length (written_tree f)) p.table-room,
        le-ltb b (length (ledger es)) p.ledger-room,
      )

  -- what is written is this tree with these entries
  pub done_packed : (table : List ℕ) (written : List Entry) → packed f es a b ≡ done table written
      → Packed f es a b × (table ≡ written_tree f) × (written ≡ es)
  done_packed table written =
      go (ltb LINES (length (rows TOP f))) (ltb BYTES (length (written_tree f)))
      (ltb a (length (written_tree f))) (ltb b (length (ledger es))) refl refl refl refl
    where
      go : (u v w x : Bool) → ltb LINES (length (rows TOP f)) ≡ u → ltb BYTES (length (written_tree f)) ≡ v
          → ltb a (length (written_tree f)) ≡ w → ltb b (length (ledger es)) ≡ x
          → ending (u || v) w x (written_tree f) (length (ledger es)) es ≡ done table written
          → Packed f es a b × (table ≡ written_tree f) × (written ≡ es)
      go true v w x p q r s e = let o : ◌≡◌ {A = ℕ} 0 1 = cc in absurd (omega arith)
      go false true w x p q r s e = let o : ◌≡◌ {A = ℕ} 0 1 = cc in absurd (omega arith)
      go false false true x p q r s e = let o : ◌≡◌ {A = ℕ} 0 1 = cc in absurd (omega arith)
      go false false false true p q r s e = let o : ◌≡◌ {A = ℕ} 0 1 = cc in absurd (omega arith)
      go false false false false p q r s e = (
        record {
          few = ltb-false LINES (length (rows TOP f)) p;
          short = ltb-false BYTES (length (written_tree f)) q;
          table-room = ltb-false a (length (written_tree f)) r;
          ledger-room = ltb-false b (length (ledger es)) s;
        },
        cc,
        cc,
      )
