-- The demonstration's output, read back: its first line has five fields, the digits of the five numbers in document 01's order, and behind
-- it stand the table and the ledger if the merge is done, and nothing if it is not. k is a number. Assumes nothing.
use mathlib.Core.Path.{◌≡◌, refl, sym, ap, ◌∙◌}
use mathlib.Core.List.{List, [], ◌∷◌, ◌++◌, map, append-nil}
use Prim.Native.Nat.{ℕ, ◌<◌}
use lib.Seq.{append_snoc}
use Rattle.rules.specs.Lists.{◌∈◌}
use Rattle.rules.specs.Text.{LF, before, after, fields, value}
use Rattle.rules.specs.Written.{digits}
use Rattle.rules.specs.Ledger.{ledger}
use Rattle.rules.specs.Calls.{Outcome, not_read, clash, too_large, no_room, done, answer_of, five_numbers, shown}
use Rattle.rules.specs.declared.answers.Merged.{Merged}
use Rattle.readback.proofs.Splitting.{before_at, after-at}
use Rattle.demands.proofs.NumberLines.{numbers_back, number_line, line-fields, one_line, line-followed}

-- ---- the output

-- "the five answer numbers parted by tabs, in the order of the merge call": code, table, place, table length, ledger length
abbrev pub in_order : Merged → List ℕ
in_order m = m.code ∷ m.table ∷ m.place ∷ m.table_length ∷ m.ledger_length ∷ []

-- "then the table, then the ledger; on refusal that line alone"
abbrev pub behind : Outcome → List ℕ
behind (not_read table code line) = []
behind (clash code place) = []
behind too_large = []
behind (no_room code table_length ledger_length) = []
behind (done table es) = table ++ ledger es

abbrev others : Merged → List ℕ
others m = m.table ∷ m.place ∷ m.table_length ∷ m.ledger_length ∷ []

abbrev first_line : Merged → List ℕ
first_line m = number_line m.code (others m)

five-line : (m : Merged) → five_numbers m ≡ first_line m ++ (LF ∷ [])
five-line m = line-followed (LF ∷ []) m.code (others m)

shown_parts : (end : Outcome) → shown end ≡ five_numbers (answer_of end) ++ behind end
shown_parts (not_read table code line) = sym (append-nil (five_numbers (answer_of (not_read table code line))))
shown_parts (clash code place) = sym (append-nil (five_numbers (answer_of (clash code place))))
shown_parts too_large = sym (append-nil (five_numbers (answer_of too_large)))
shown_parts (no_room code table_length ledger_length) =
    sym (append-nil (five_numbers (answer_of (no_room code table_length ledger_length))))
shown_parts (done table es) = refl

module _ (end : Outcome) where
  abbrev m : Merged
  m = answer_of end

  parts : shown end ≡ first_line m ++ (LF ∷ behind end)
  parts = shown_parts end ∙ ap (λ (s : List ℕ). s ++ behind end) (five-line m) ∙ append_snoc (first_line m) LF (behind end)

  -- the first line's fields are the five numbers' digits
  pub printed-fields : fields (before LF (shown end)) ≡ map digits (in_order (answer_of end))
  printed-fields =
      ap fields (ap (before LF) parts ∙ before_at LF (first_line m) (behind end) (one_line m.code (others m)))
      ∙ line-fields m.code (others m)

  -- and their values are the five numbers
  pub printed-numbers : ((k : ℕ) → k ∈ in_order (answer_of end) → k < 1000000)
      → map value (fields (before LF (shown end))) ≡ in_order (answer_of end)
  printed-numbers h = ap (map value) printed-fields ∙ numbers_back (in_order m) h

  -- what stands behind it
  pub printed-behind : after LF (shown end) ≡ behind end
  printed-behind = ap (after LF) parts ∙ after-at LF (first_line m) (behind end) (one_line m.code (others m))
