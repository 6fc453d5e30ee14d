-- Tidy: the tree of an accepted table is within the limits, so its written form is accepted; it is as long as the text, and tidy of
-- it gives the same bytes. t is the table of an accepted text. Assumes nothing.
use mathlib.Core.Path.{◌≡◌, sym, ap, ◌∙◌}
use mathlib.Core.List.{List}
use Prim.Native.Nat.{ℕ, ◌+◌, ◌≤◌}
use native.Mathlib.Omega.{arith}
use lib.ListN.{length}
use borrow.Author.Tests.{le-ltb}
use Rattle.rules.specs.Codes.{accepted}
use Rattle.rules.specs.Marks.{TOP}
use Rattle.rules.specs.Line.{Row}
use Rattle.rules.specs.Table.{Verdict, readable, verdict}
use Rattle.rules.specs.Tree.{rows, tree_of}
use Rattle.rules.specs.Written.{width, written, written_tree, tidied, content_bytes, frame_bytes, over}
use Rattle.rules.specs.Calls.{tidy_told, tidy_of, tidy_answer, tidy_into, tidy_buffer}
use Rattle.rules.specs.Demands.{Readable, Within}
use Rattle.trees.proofs.TableTree.{tree_of_table}
use Rattle.trees.proofs.SameRows.{rows_in, rows-sum, rows-count}
use Rattle.readback.proofs.Following.{good_readable, good_writable, good_few}
use Rattle.readback.proofs.Accepting.{good}
use Rattle.readback.proofs.ReadBack.{written-length}
use Rattle.readback.proofs.Canonical.{canonical}
use Rattle.readback.proofs.TreesBack.{tree_back, same-tree}

-- the same rows in another order make as many bytes
as_long : (t : List Row) → Readable t → length (tidied t) ≡ length (written t)
as_long t h =
    let u = rows TOP (tree_of t) in
    let contents : content_bytes u ≡ content_bytes t = rows-sum t h (λ (x : Row). length x.content) in
    let frames : frame_bytes u ≡ frame_bytes t = rows-sum t h (λ (x : Row). 3 + width x.number + width x.parent) in
    written-length u ∙ ap (λ (k : ℕ). k + frame_bytes u) contents ∙ ap (λ (k : ℕ). content_bytes t + k) frames ∙ sym (written-length t)

module _ (text : List ℕ) (t : List Row) (e : verdict text ≡ readable t) where
  is_readable : Readable t
  is_readable = good_readable t (good text t e)

  -- tidy writes as many bytes as it read
  pub tidied-length : length (tidied t) ≡ length text
  tidied-length = as_long t is_readable ∙ ap length (sym (canonical text t e).0)

  -- "Tidy can't meet 26."
  pub tidied_within : Within (tree_of t)
  tidied_within = record {
    tree = (tree_of_table t is_readable).tree;
    contents = λ x m. good_writable t (good text t e) x (rows_in t is_readable x m);
    few = omega (arith, rows-count t is_readable, good_few t (good text t e));
    short = omega (arith, tidied-length, (canonical text t e).1);
  }

  -- what tidy writes is accepted
  pub tidied_again : verdict (tidied t) ≡ readable (rows TOP (tree_of t))
  tidied_again = tree_back (tree_of t) tidied_within

  -- and is tidy already
  pub tidied-same : tidied (rows TOP (tree_of t)) ≡ tidied t
  tidied-same = ap written_tree (same-tree (tree_of t) tidied_within)

  -- so the call, made on what it wrote, accepts it and writes the same bytes
  module _ (buffer : List ℕ) (room : length (tidied t) ≤ length buffer) where
    pub twice_answer : tidy_answer (tidied t) (length buffer) ≡ tidy_told accepted 0 (length (tidied t))
    twice_answer =
        ap (λ (v : Verdict). tidy_of v (length buffer)) tidied_again ∙ rw (tidied-same, le-ltb (length buffer) (length (tidied t)) room)

    pub twice_buffer : tidy_buffer (tidied t) buffer ≡ over (tidied t) buffer
    twice_buffer =
        ap (λ (v : Verdict). tidy_into v buffer) tidied_again ∙ rw (tidied-same, le-ltb (length buffer) (length (tidied t)) room)
