-- Writing the ledger, line after line of memory: the entries so far lie in the buffer, and then the total behind them. fs is the array of
-- facts, l and k are lines; o₀ is the buffer at the start, o the buffer, with a prime for its next state; `at` is the place of the next
-- byte. Assumes nothing.
use mathlib.Core.Path.{◌≡◌, refl, sym, ap, ◌∙◌, subst}
use mathlib.Core.List.{List, [], ◌∷◌, ◌++◌, append_assoc, append-nil}
use Prim.Native.Nat.{ℕ, zero, suc, ◌+◌, ◌<◌, ◌≤◌}
use native.Mathlib.Omega.{arith}
use native.Mathlib.Decide.{le_ind}
use native.Mathlib.Numerals.{add-one}
use lib.ListN.{length, length-append}
use Rattle.rules.specs.Lists.{flat}
use Rattle.rules.specs.Written.{over}
use Rattle.rules.specs.Ledger.{Entry, entry_line, ledger}
use Rattle.facts.specs.Table.{FactsAt}
use Rattle.facts.specs.declared.Facts.{Facts}
use Rattle.bytes_out.specs.Put.{Put}
use Rattle.bytes_out.proofs.Puts.{put_then, put-over}
use Rattle.ledger.specs.Entries.{entry_of, entry_on, entries_to, total_of, LedgerReady}
use Rattle.ledger.specs.Sums.{total_length}
use Rattle.ledger.proofs.Lines.{total_length_lem}

flat-last : (es : List Entry) (e : Entry) → flat entry_line (es ++ (e ∷ [])) ≡ flat entry_line es ++ entry_line e
flat-last [] e = append-nil (entry_line e)
flat-last (x ∷ es) e =
    ap (λ (s : List ℕ). entry_line x ++ s) (flat-last es e) ∙ sym (append_assoc (entry_line x) (flat entry_line es) (entry_line e))

module _ (fs : List ℕ) where
  -- the entries of these lines, written
  abbrev pub written_to : ℕ → List ℕ
  written_to l = flat entry_line (entries_to fs l)

  -- with one line more
  pub next-length : (l : ℕ) → length (written_to (suc l)) ≡ length (written_to l) + length (entry_line (entry_on fs (suc l)))
  next-length l =
      ap length (flat-last (entries_to fs l) (entry_on fs (suc l))) ∙ length-append (written_to l) (entry_line (entry_on fs (suc l)))

  written_next : (l : ℕ) → written_to l ++ entry_line (entry_on fs (l + 1)) ≡ written_to (l + 1)
  written_next l = rw add-one (sym (flat-last (entries_to fs l) (entry_on fs (suc l))))

  -- more lines are no shorter
  further : (l k : ℕ) → l ≤ k → length (written_to l) ≤ length (written_to k)
  further l = le_ind (λ (k : ℕ). length (written_to l) ≤ length (written_to k)) (omega arith) (λ k h less. omega (arith, next-length k))

  pub entries-count : (l : ℕ) → length (entries_to fs l) ≡ l
  entries-count zero = refl
  entries-count (suc l) = length-append (entries_to fs l) (entry_on fs (suc l) ∷ []) ∙ omega (arith, entries-count l)

  module _ (o₀ : List ℕ) (count bytes : ℕ) where
    -- the entries of these lines lie from byte 0 on
    pub record Going (o : List ℕ) (at l : ℕ) : Type 0 where
      pub ready : LedgerReady fs count bytes (length o₀)
      pub put : Put o₀ o 0 at (written_to l)

    module _ {o : List ℕ} {at l : ℕ} (g : Going o at l) where
      ledger_is : written_to count ++ total_of count bytes ≡ ledger (entries_to fs count)
      ledger_is = λ i. written_to count ++ total_of (sym (entries-count count) i) (g.ready.total i)

      room : length (written_to count) + total_length count bytes ≤ length o₀
      room =
          omega (
            arith,
            ap length ledger_is,
            length-append (written_to count) (total_of count bytes),
            total_length_lem count bytes,
            g.ready.fits,
          )

      -- ---- one line more

      module _ (h : l < count) {f : Facts} (told : FactsAt fs (l + 1) f) where
        entry_is : entry_on fs (l + 1) ≡ entry_of f
        entry_is = rw (← told.number, ← told.place, ← told.length)

        pub going_room : at + length (entry_line (entry_of f)) ≤ length o
        going_room =
            let e : length (entry_line (entry_of f)) ≡ length (entry_line (entry_on fs (suc l))) =
            ap (λ (x : Entry). length (entry_line x)) (sym entry_is) ∙ ap (λ (k : ℕ). length (entry_line (entry_on fs k))) (add-one l) in
            omega (arith, e, g.put.place, g.put.long, next-length l, further (suc l) count h, room)

        pub going_on : {o' : List ℕ} {at' : ℕ} → Put o o' at at' (entry_line (entry_of f)) → Going o' at' (l + 1)
        going_on {o'} {at'} p = record {
          ready = g.ready;
          put =
              subst (Put o₀ o' 0 at') (ap (λ (e : Entry). written_to l ++ entry_line e) (sym entry_is) ∙ written_next l)
              (put_then g.put p);
        }

      -- ---- the last line

      module _ (e : l ≡ count) where
        all : written_to l ≡ written_to count
        all = ap written_to e

        pub last-room : at + total_length count bytes ≤ length o
        last-room = omega (arith, g.put.place, g.put.long, ap length all, room)

        pub going_end : {o' : List ℕ} {at' : ℕ} → Put o o' at at' (total_of count bytes) → o' ≡ over (ledger (entries_to fs count)) o₀
        going_end {o'} {at'} p =
            let is : written_to l ++ total_of count bytes ≡ ledger (entries_to fs count) =
            ap (λ (s : List ℕ). s ++ total_of count bytes) all ∙ ledger_is in
            put-over (subst (Put o₀ o' 0 at') is (put_then g.put p)) g.ready.fits
