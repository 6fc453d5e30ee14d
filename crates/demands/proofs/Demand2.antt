-- Demand 2, beyond the promises themselves: a readable text is a tree with exactly its facts; a merged table, read back, is the same tree;
-- its length is the ledger's byte total plus, for each record, three and the digits of its number and parent. Assumes nothing.
use mathlib.Core.Path.{◌≡◌, refl, sym, ap, ◌∙◌}
use mathlib.Core.List.{List, [], ◌∷◌, map}
use Prim.Native.Nat.{ℕ, ◌+◌}
use lib.ListN.{length}
use Rattle.rules.specs.Lists.{sum}
use Rattle.rules.specs.Marks.{TOP}
use Rattle.rules.specs.Line.{Row}
use Rattle.rules.specs.Table.{readable, verdict}
use Rattle.rules.specs.Tree.{Tree, rows, tree_of}
use Rattle.rules.specs.Facts.{Facts, facts_of}
use Rattle.rules.specs.Written.{written_tree, content_bytes, frame_bytes}
use Rattle.rules.specs.Ledger.{Entry, entries, entries_of}
use Rattle.rules.specs.Demands.{TreeOf, Within}
use Rattle.trees.proofs.TableTree.{tree_of_table}
use Rattle.readback.proofs.Following.{good_readable}
use Rattle.readback.proofs.Accepting.{good}
use Rattle.readback.proofs.ReadBack.{written-length}
use Rattle.readback.proofs.TreesBack.{tree_back, same-tree}

pub text_tree : (text : List ℕ) (t : List Row) → verdict text ≡ readable t → TreeOf (facts_of t) (tree_of t)
text_tree text t e = tree_of_table t (good_readable t (good text t e))

-- the ledger's total counts the contents
pub bytes_total : (old : Facts) (branches : List Facts) (t : List Row)
    → sum (λ (e : Entry). e.bytes) (entries old branches t) ≡ content_bytes t
bytes_total old branches [] = refl
bytes_total old branches (x ∷ t) = ap (λ (k : ℕ). length x.content + k) (bytes_total old branches t)

module _ (f : Tree) where
  -- "A table written and read back is the same tree."
  pub merged_back : Within f → (verdict (written_tree f) ≡ readable (rows TOP f)) × (tree_of (rows TOP f) ≡ f)
  merged_back within = (tree_back f within, same-tree f within)

  -- "The table's length is that byte total plus, for each record, three and the digits of its number and parent."
  pub merged-length : (o : List Row) (bs : List (List Row))
      → length (written_tree f) ≡ sum (λ (e : Entry). e.bytes) (entries_of o bs f) + frame_bytes (rows TOP f)
  merged-length o bs =
      written-length (rows TOP f)
      ∙ ap (λ (k : ℕ). k + frame_bytes (rows TOP f)) (sym (bytes_total (facts_of o) (map facts_of bs) (rows TOP f)))
