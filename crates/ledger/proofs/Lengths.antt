-- The sums over the lines of memory are the lengths of what is written: of the ledger of these lines, and of the table whose records stand
-- there in written order. ls and fs are the two arrays, t is the table's rows, x a row, n a record, l a line, s the sums. Assumes nothing.
use mathlib.Core.Path.{◌≡◌, refl, sym, ap, ◌∙◌}
use mathlib.Core.List.Memᴰ.{head as here}
use mathlib.Core.List.Memᴰ.{tail as there}
use mathlib.Core.List.{List, [], ◌∷◌, ◌++◌, map}
use Prim.Native.Nat.{ℕ, zero, suc, ◌+◌, ◌≤◌}
use native.Mathlib.Omega.{arith}
use lib.ListN.{length, length-append}
use Rattle.rules.specs.Limits.{LINES, BYTES}
use Rattle.rules.specs.Lists.{◌∈◌, sum}
use Rattle.rules.specs.Marks.{TOP}
use Rattle.rules.specs.Line.{Row}
use Rattle.rules.specs.Tree.{rows, tree_of}
use Rattle.rules.specs.Written.{width, tidied, content_bytes, frame_bytes}
use Rattle.rules.specs.Ledger.{Entry, total_line, ledger}
use Rattle.rules.specs.Demands.{Readable}
use Rattle.trees.proofs.Disagreeing.{number_of}
use Rattle.trees.proofs.OneTable.{row_number}
use Rattle.trees.proofs.Trees.{numbers-rows}
use Rattle.trees.proofs.SameRows.{rows_in}
use Rattle.readback.proofs.ReadBack.{written-length}
use Rattle.readback.proofs.Entries.{entry_length}
use Rattle.facts.specs.Memory.{NUMBER, LENGTH, line_at, field_on, field}
use Rattle.facts.specs.Holds.{Holds}
use Rattle.facts.specs.Order.{numbers_to, InWrittenOrder}
use Rattle.facts.proofs.Shown.{row_parent_field}
use Rattle.ledger.specs.declared.Sums.{Sums}
use Rattle.ledger.specs.Entries.{entry_on, entries_to, bytes_in, LedgerReady}
use Rattle.ledger.specs.Sums.{frame_line, ledger_line, line_bytes, sum_to, total_length, sums_of}
use Rattle.ledger.proofs.Lines.{total_length_lem}
use Rattle.ledger.proofs.Going.{written_to, next-length, entries-count}

-- ---- sums

sum-map : {A B : Type 0} (w : B → ℕ) (g : A → B) (xs : List A) → sum w (map g xs) ≡ sum (λ (x : A). w (g x)) xs
sum-map w g [] = refl
sum-map w g (x ∷ xs) = ap (λ (k : ℕ). w (g x) + k) (sum-map w g xs)

sum_same : {A : Type 0} (v w : A → ℕ) (xs : List A) → ((x : A) → x ∈ xs → v x ≡ w x) → sum v xs ≡ sum w xs
sum_same v w [] h = refl
sum_same v w (x ∷ xs) h = omega (arith, h x (here refl), sum_same v w xs (λ y m. h y (there m)))

sum-last : {A : Type 0} (w : A → ℕ) (xs : List A) (x : A) → sum w (xs ++ (x ∷ [])) ≡ sum w xs + w x
sum-last w [] x = omega arith
sum-last w (y ∷ xs) x = omega (arith, sum-last w xs x)

module _ (fs : List ℕ) where
  -- ---- the ledger of the lines

  bytes_to : (l : ℕ) → sum_to (line_bytes fs) l ≡ bytes_in (entries_to fs l)
  bytes_to zero = refl
  bytes_to (suc l) = omega (arith, bytes_to l, sum-last (λ (e : Entry). e.bytes) (entries_to fs l) (entry_on fs (suc l)))

  entries_to_lem : (l : ℕ) → sum_to (ledger_line fs) l ≡ length (written_to fs l)
  entries_to_lem zero = refl
  entries_to_lem (suc l) = omega (arith, entries_to_lem l, next-length fs l, entry_length (entry_on fs (suc l)))

  module _ (count : ℕ) (s : Sums) (q : s ≡ sums_of fs count) where
    -- the content bytes of its last line
    sums_bytes : s.bytes ≡ bytes_in (entries_to fs count)
    sums_bytes = ap (λ (u : Sums). u.bytes) q ∙ bytes_to count

    -- its length
    pub sums_ledger : s.ledger ≡ length (ledger (entries_to fs count))
    sums_ledger =
        let es = entries_to fs count in
        let last : total_length count (sum_to (line_bytes fs) count) ≡ length (total_line es) =
        (λ i. total_length (sym (entries-count fs count) i) (bytes_to count i)) ∙ sym (total_length_lem (length es) (bytes_in es)) in
        ap (λ (u : Sums). u.ledger) q ∙ (λ i. entries_to_lem count i + last i) ∙ sym (length-append (written_to fs count) (total_line es))

    -- no more bytes than the written table has
    sums_low : s.bytes ≤ s.table
    sums_low = omega (arith, ap (λ (u : Sums). u.bytes) q, ap (λ (u : Sums). u.table) q)

    -- so the ledger of a table within the limits can be written, where there is room for it
    pub sums_ready : (room : ℕ) → count ≤ LINES → s.table ≤ BYTES → s.ledger ≤ room → LedgerReady fs count s.bytes room
    sums_ready room few short fits = record {
      total = sums_bytes;
      few = few;
      short = omega (arith, sums_low);
      fits = omega (arith, sums_ledger);
    }

    -- ---- the table

    module _ (ls : List ℕ) (t : List Row) (h : Holds ls fs t) (ok : Readable t) (o : InWrittenOrder fs t) (e : count ≡ length t) where
      by_numbers : (w : ℕ → ℕ) (l : ℕ) → l ≤ length t → sum_to w l ≡ sum (λ (n : ℕ). w (line_at ls n)) (numbers_to fs l)
      by_numbers w zero b = refl
      by_numbers w (suc l) b =
          let v : ℕ → ℕ = λ n. w (line_at ls n) in
          omega (
            arith,
            by_numbers w l (omega arith),
            sum-last v (numbers_to fs l) (field_on fs (suc l) NUMBER),
            ap w (h.lined (suc l) b),
          )

      -- a sum over the lines is one over the rows, in written order
      by_rows : (w : ℕ → ℕ) → sum_to w count ≡ sum (λ (x : Row). w (line_at ls x.number)) (rows TOP (tree_of t))
      by_rows w =
          let v : ℕ → ℕ = λ n. w (line_at ls n) in
          ap (sum_to w) e ∙ by_numbers w (length t) (omega arith) ∙ ap (sum v) (o ∙ sym (numbers-rows TOP (tree_of t)))
          ∙ sum-map v number_of (rows TOP (tree_of t))

      -- its length
      pub sums_table : ((x : Row) → x ∈ t → field ls fs x.number LENGTH ≡ length x.content) → s.table ≡ length (tidied t)
      sums_table long =
          let u = rows TOP (tree_of t) in
          let contents : sum_to (line_bytes fs) count ≡ content_bytes u =
          by_rows (line_bytes fs)
          ∙ sum_same (λ (x : Row). line_bytes fs (line_at ls x.number)) (λ (x : Row). length x.content) u
          (λ x m. long x (rows_in t ok x m)) in
          let frames : sum_to (frame_line fs) count ≡ frame_bytes u =
          by_rows (frame_line fs)
          ∙ sum_same (λ (x : Row). frame_line fs (line_at ls x.number)) (λ (x : Row). 3 + width x.number + width x.parent) u
          (λ x m. framed x (rows_in t ok x m)) in
          ap (λ (k : Sums). k.table) q ∙ (λ i. contents i + frames i) ∙ sym (written-length u)
        where
          framed : (x : Row) → x ∈ t → frame_line fs (line_at ls x.number) ≡ 3 + width x.number + width x.parent
          framed x m =
              omega (arith, ap width (h.named x.number (there (row_number t x m))), ap width (row_parent_field ls fs t h ok x m))
