-- The end of a merge with the table that memory holds: its lengths are the sums, so the code is the definitions', and what is written is
-- its written form and its ledger. T holds the contents, L and F are the two arrays, t is the table's rows, s are the sums; a prime marks
-- a buffer afterwards. Assumes nothing.
use mathlib.Core.Path.{◌≡◌, refl, sym, ap, ◌∙◌}
use mathlib.Core.Bool.{Bool, cond}
use mathlib.Core.List.{List}
use Prim.Native.Nat.{ℕ}
use native.Mathlib.Omega.{arith}
use lib.Dec.{eqb}
use lib.ListN.{length}
use borrow.Author.Tests.{eq-eqb, ne_eqb}
use Rattle.rules.specs.Codes.{accepted}
use Rattle.rules.specs.Kinds.{shortage_code}
use Rattle.rules.specs.declared.kinds.Shortage.{Shortage}
use Rattle.rules.specs.Line.{Row}
use Rattle.rules.specs.Tree.{tree_of}
use Rattle.rules.specs.Written.{tidied, over}
use Rattle.rules.specs.Ledger.{Entry, ledger}
use Rattle.trees.proofs.SameRows.{rows-count}
use Rattle.facts.specs.Order.{InWrittenOrder}
use Rattle.write.specs.Stored.{Stored}
use Rattle.write.proofs.Parts.{stored_length}
use Rattle.write.specs.Writing.{TableReady, TableWritten}
use Rattle.ledger.specs.declared.Sums.{Sums}
use Rattle.ledger.specs.Sums.{sums_of}
use Rattle.ledger.specs.Entries.{entries_in, entries_to, LedgerReady}
use Rattle.ledger.proofs.Ordered.{entries_ordered}
use Rattle.ledger.proofs.Lengths.{sums_table, sums_ledger, sums_ready}
use Rattle.pack.specs.Packed.{room_code, room_told, PackReady, Packs}
use Rattle.pack.proofs.Rooms.{lacks, code_of, Fitting, fitting, room_answer, room_tabled, room_ledgered}

module _ (F : List ℕ) (count : ℕ) (s : Sums) (q : s ≡ sums_of F count) (table book : List ℕ) (code : ℕ)
    (e : code ≡ room_code count s.table s.ledger (length table) (length book)) where
  module _ (fine : code ≡ accepted) where
    fits : Fitting count s.table s.ledger (length table) (length book)
    fits = fitting count s.table s.ledger (length table) (length book) (sym e ∙ fine)

    pub pack-ledger : LedgerReady F count s.bytes (length book)
    pack-ledger = sums_ready F count s q (length book) fits.few fits.short fits.ledger

  module _ (T : List (List ℕ)) (L : List ℕ) where
    module _ (t : List Row) (h : Stored T L F t) (o : InWrittenOrder F t) (n : count ≡ length t) where
      table-long : s.table ≡ length (tidied t)
      table-long = sums_table F count s q L t h.holds h.readable o n (stored_length T L F t h)

      -- the table's entries are those of its lines
      entries_are : entries_in L F t ≡ entries_to F count
      entries_are = entries_ordered L F t h.holds o count n

      ledger-long : s.ledger ≡ length (ledger (entries_in L F t))
      ledger-long = sums_ledger F count s q ∙ ap (λ (es : List Entry). length (ledger es)) (sym entries_are)

      -- the code is the definitions'
      code_is : code ≡ code_of (tree_of t) (entries_in L F t) (length table) (length book)
      code_is =
          e
          ∙ (λ i. room_code ((n ∙ sym (rows-count t h.readable)) i) (table-long i) (ledger-long i) (length table) (length book))

      answer_is : room_told code s.table s.ledger
          ≡ room_told (code_of (tree_of t) (entries_in L F t) (length table) (length book)) (length (tidied t))
          (length (ledger (entries_in L F t)))
      answer_is = λ i. room_told (code_is i) (table-long i) (ledger-long i)

      code-test : (b : Bool) → eqb code accepted ≡ b
          → eqb (code_of (tree_of t) (entries_in L F t) (length table) (length book)) accepted ≡ b
      code-test b w = ap (λ (k : ℕ). eqb k accepted) (sym code_is) ∙ w

    pub pack_refused : (code ≡ accepted → ⊥) → Packs T L F count table book (room_told code s.table s.ledger) table book
    pack_refused f = record {
      all = λ t h o n.
          let es = entries_in L F t in
          let no_test = code-test t h o n _ (ne_eqb code accepted f) in
          record {
            answered = answer_is t h o n ∙ sym (room_answer (tree_of t) es (length table) (length book));
            tabled =
                sym (room_tabled (tree_of t) es (length table) (length book) table
                ∙ ap (λ (b : Bool). cond b (over (tidied t) table) table) no_test);
            ledgered =
                sym (room_ledgered (tree_of t) es (length table) (length book) book
                ∙ ap (λ (b : Bool). cond b (over (ledger es) book) book) no_test);
          };
    }

    module _ (fine : code ≡ accepted) where
      pub pack-table : PackReady T L F count → TableReady T L F count (length table)
      pack-table w = record {
        t = w.t;
        stored = w.stored;
        counted = w.counted;
        fits = omega (arith, table-long w.t w.stored w.order w.counted, (fits fine).table);
      }

      pub pack_done : {table' book' : List ℕ} → TableWritten T L F table table' → book' ≡ over (ledger (entries_to F count)) book
          → Packs T L F count table book (room_told code s.table s.ledger) table' book'
      pack_done v w = record {
        all = λ t h o n.
            let es = entries_in L F t in
            let test = code-test t h o n _ (eq-eqb code accepted fine) in
            record {
              answered = answer_is t h o n ∙ sym (room_answer (tree_of t) es (length table) (length book));
              tabled =
                  v.all t h
                  ∙ sym (room_tabled (tree_of t) es (length table) (length book) table
                  ∙ ap (λ (b : Bool). cond b (over (tidied t) table) table) test);
              ledgered =
                  w ∙ ap (λ (k : List Entry). over (ledger k) book) (sym (entries_are t h o n))
                  ∙ sym (room_ledgered (tree_of t) es (length table) (length book) book
                  ∙ ap (λ (b : Bool). cond b (over (ledger es) book) book) test);
            };
      }

-- ---- the ways through `fill`, by what `room` answers there

module _ (T : List (List ℕ)) (L F : List ℕ) (count : ℕ) (s : Sums) (q : s ≡ sums_of F count) (table book : List ℕ) where
  pub fill_refused : (z : Shortage) → shortage_code z ≡ room_code count s.table s.ledger (length table) (length book)
      → Packs T L F count table book (room_told (shortage_code z) s.table s.ledger) table book
  fill_refused z e = pack_refused F count s q table book (shortage_code z) e T L (lacks z)

  module _ (e : accepted ≡ room_code count s.table s.ledger (length table) (length book)) where
    pub fill-table : PackReady T L F count → TableReady T L F count (length table)
    fill-table w = pack-table F count s q table book accepted e T L refl w

    pub fill-ledger : LedgerReady F count s.bytes (length book)
    fill-ledger = pack-ledger F count s q table book accepted e refl

    pub fill_done : (table' book' : List ℕ) → TableWritten T L F table table' → book' ≡ over (ledger (entries_to F count)) book
        → Packs T L F count table book (room_told accepted s.table s.ledger) table' book'
    fill_done table' book' v w = pack_done F count s q table book accepted e T L refl v w

pub ruleset fills = (fill-ledger, fill_done)
