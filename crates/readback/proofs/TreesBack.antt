-- A tree within the limits is read back from its written form: accepted, with its rows, whose tree is that tree. f is a tree.
-- Assumes nothing.
use mathlib.Core.Path.{◌≡◌}
use Rattle.rules.specs.Marks.{TOP}
use Rattle.rules.specs.Table.{readable, verdict}
use Rattle.rules.specs.Tree.{Tree, rows, tree_of}
use Rattle.rules.specs.Demands.{Within}
use Rattle.rules.specs.Written.{written_tree}
use Rattle.trees.proofs.RowsBack.{rows_back, rows_readable}
use Rattle.readback.proofs.Following.{rows-good}
use Rattle.readback.proofs.ReadBack.{read_back}

module _ (f : Tree) (w : Within f) where
  -- the written form is accepted, with the rows of the tree
  pub tree_back : verdict (written_tree f) ≡ readable (rows TOP f)
  tree_back = read_back (rows TOP f) (rows-good (rows TOP f) (rows_readable f w.tree) w.contents w.few) w.short

  -- whose tree is the tree
  pub same-tree : tree_of (rows TOP f) ≡ f
  same-tree = rows_back f w.tree
