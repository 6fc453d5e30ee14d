-- Memory that stores a table lays its tree down: following the links from the top's first child on goes through the tree. And what
-- writing a whole table asks and does. texts are those that hold the contents, ls and fs the two arrays, t is the table's rows, f a
-- tree, a and b are facts; r is a parent, p the one before. Assumes nothing.
use mathlib.Core.Path.{◌≡◌, refl, sym, ap, subst, ◌∙◌}
use mathlib.Core.List.Memᴰ
use mathlib.Core.List.Memᴰ.{head as here}
use mathlib.Core.List.Memᴰ.{tail as there}
use mathlib.Core.List.{List}
use Prim.Native.Nat.{ℕ}
use native.Mathlib.Omega.{arith}
use lib.Dec.{T}
use lib.ListN.{length}
use borrow.Author.Rules.{rules}
use borrow.Author.Tests.{ne_eqb}
use Rattle.rules.specs.Lists.{◌∈◌}
use Rattle.rules.specs.Marks.{TOP, START, END, is_record}
use Rattle.rules.specs.Line.{Row}
use Rattle.rules.specs.Tree.{Tree, empty, node, rows, tree_of}
use Rattle.rules.specs.Facts.{PositionFact, ContentFact, position, content_fact, content_of, facts_of, tree_positions, tree_contents}
use Rattle.rules.specs.Written.{tidied, over}
use Rattle.rules.specs.Demands.{TreeOf}
use Rattle.trees.proofs.Marks.{record_high}
use Rattle.trees.proofs.OneTable.{content-row}
use Rattle.trees.proofs.TableTree.{tree_of_table}
use Rattle.trees.proofs.SameRows.{rows-count}
use Rattle.facts.specs.Memory.{FOLLOWER, FIRST, field, who, way}
use Rattle.facts.proofs.Shown.{linked}
use Rattle.bytes_out.proofs.Puts.{put-over}
use Rattle.write.specs.Stored.{HasContent, content_at, Stored}
use Rattle.write.specs.Writing.{Laid, ListReady, Done, ListWritten, TableReady, TableWritten}

module _ (texts : List (List ℕ)) (ls fs : List ℕ) where
  -- ---- from facts to links

  module _
      (positions : List PositionFact) (contents : List ContentFact)
      (goes : (a : PositionFact) → a ∈ positions → field ls fs (who a.parent a.before) (way a.before) ≡ a.after)
      (valid : (a : ContentFact) → a ∈ contents → T (is_record a.number))
      (has : (a : ContentFact) → a ∈ contents → HasContent texts ls fs a.number)
      (reads : (a : ContentFact) → a ∈ contents → a.content ≡ content_at texts ls fs a.number)
    where
      laid_by : (r p : ℕ) (f : Tree) → ((a : PositionFact) → a ∈ tree_positions r p f → a ∈ positions)
          → ((a : ContentFact) → a ∈ tree_contents f → a ∈ contents) → Laid texts ls fs (field ls fs (who r p) (way p)) f
      laid_by r p empty h g = goes (position r p END) (h (position r p END) (here refl))
      laid_by r p (node n c below after) h g =
          subst (λ (k : ℕ). Laid texts ls fs k (node n c below after)) (sym (goes (position r p n) (h (position r p n) (here refl)))) (
            λ e. omega (arith, record_high n (valid fact m), e),
            refl,
            has fact m,
            reads fact m,
            laid_by n START below (λ a i. h a (there (Memᴰ.append_left (tree_positions r n after) i)))
                (λ a i. g a (there (Memᴰ.append_left (tree_contents after) i))),
            subst (λ (k : ℕ). Laid texts ls fs k after) onward
                (laid_by r n after (λ a i. h a (there (Memᴰ.append_right (tree_positions n START below) i)))
                (λ a i. g a (there (Memᴰ.append_right (tree_contents below) i)))),
          )
        where
          fact : ContentFact
          fact = content_fact n c

          m : fact ∈ contents
          m = g fact (here refl)

          onward : field ls fs (who r n) (way n) ≡ field ls fs n FOLLOWER
          onward = rw (ne_eqb n START (λ e. omega (arith, record_high n (valid fact m), e)))

  -- ---- a stored table

  module _ (t : List Row) (s : Stored texts ls fs t) where
    is : TreeOf (facts_of t) (tree_of t)
    is = tree_of_table t s.readable

    module _ (a : ContentFact) (m : a ∈ (facts_of t).contents) where
      row : (x : Row) × (x ∈ t) × (content_of x ≡ a)
      row = content-row t a m

      content_valid : T (is_record a.number)
      content_valid = subst (λ (b : ContentFact). T (is_record b.number)) row.2 (s.readable.distinct.valid row.0 row.1)

      content_has : HasContent texts ls fs a.number
      content_has = subst (λ (b : ContentFact). HasContent texts ls fs b.number) row.2 (s.lies row.0 row.1)

      content_reads : a.content ≡ content_at texts ls fs a.number
      content_reads =
          subst (λ (b : ContentFact). b.content ≡ content_at texts ls fs b.number) row.2 (s.contents row.0 row.1)

    -- the tree that the links lay down is the table's
    pub table-laid : Laid texts ls fs (field ls fs TOP FIRST) (tree_of t)
    table-laid =
        laid_by (facts_of t).positions (facts_of t).contents (linked ls fs t s.holds s.readable) content_valid content_has
        content_reads TOP START (tree_of t) is.positions_in_lem is.contents_in_lem

  -- ---- a whole table written; r is the top, as the code has it

  first-at : {r : ℕ} → r ≡ TOP → field ls fs r FIRST ≡ field ls fs TOP FIRST
  first-at h = ap (λ (k : ℕ). field ls fs k FIRST) h

  pub table-first : (r count room first : ℕ) → TableReady texts ls fs count room → r ≡ TOP → first ≡ field ls fs r FIRST
      → ListReady texts ls fs r first 0 count room
  table-first r count room first w h e = subst (λ (k : ℕ). ListReady texts ls fs k first 0 count room) (sym h) record {
    tree = tree_of w.t;
    laid = subst (λ (k : ℕ). Laid texts ls fs k (tree_of w.t)) (sym (e ∙ first-at h)) (table-laid w.t w.stored);
    few = omega (arith, rows-count w.t w.stored.readable, w.counted);
    fits = omega (arith, w.fits);
  }

  pub table-written : (r count first : ℕ) {out out' : List ℕ} {at' left' : ℕ} → TableReady texts ls fs count (length out) → r ≡ TOP
      → first ≡ field ls fs r FIRST → ListWritten texts ls fs r first out out' 0 count at' left' → TableWritten texts ls fs out out'
  table-written r count first {out} {out'} {at'} {left'} w h e v = record { all = go }
    where
      top : ListWritten texts ls fs TOP first out out' 0 count at' left'
      top = subst (λ (k : ℕ). ListWritten texts ls fs k first out out' 0 count at' left') h v

      done : (t : List Row) → Stored texts ls fs t → Done out out' 0 count at' left' (tidied t) (length (rows TOP (tree_of t)))
      done t s = top.all (tree_of t) (subst (λ (k : ℕ). Laid texts ls fs k (tree_of t)) (sym (e ∙ first-at h)) (table-laid t s))

      go : (t : List Row) → Stored texts ls fs t → out' ≡ over (tidied t) out
      go t s =
          let x = done t s in
          let y = done w.t w.stored in
          put-over x.put (omega (arith, x.put.place, y.put.place, w.fits))

pub ruleset tables = (table-first, table-written, rules)
