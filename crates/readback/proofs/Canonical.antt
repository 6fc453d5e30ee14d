-- An accepted text is the written form of its rows, in line order: no other text is accepted with these rows. t is a table, l a line,
-- `seen` are the rows of the lines before. Assumes nothing.
use mathlib.Core.Path.{◌≡◌, refl, sym, ap, ◌∙◌}
use mathlib.Core.List.{List, [], ◌∷◌, ◌++◌, map}
use Prim.Native.Nat.{ℕ, ◌≤◌}
use native.Mathlib.Omega.{arith}
use lib.ListN.{length}
use lib.Dec.{leb}
use mir.Facts.{and_yes, leb_yes}
use Rattle.rules.specs.Limits.{BYTES, GREATEST}
use Rattle.rules.specs.Marks.{is_record}
use Rattle.rules.specs.Text.{TAB, after, lines, decimal, value}
use Rattle.rules.specs.Line.{Row, number_part, parent_part, content_part, row_of}
use Rattle.rules.specs.Table.{readable, verdict}
use Rattle.rules.specs.Written.{digits, body, written}
use Rattle.trees.proofs.Marks.{record_high}
use Rattle.readback.proofs.Splitting.{rejoin, count-after, ended_line, joined, lines-joined}
use Rattle.readback.proofs.Decimals.{decimal-digits}
use Rattle.readback.proofs.Faults.{KeepsRules, fault_rules}
use Rattle.readback.proofs.Accepting.{Faultless, accepted_text}

module _ (l : List ℕ) (k : KeepsRules l) where
  number_digits : digits (row_of l).number ≡ number_part l
  number_digits =
      let a = and_yes (decimal (number_part l)) (is_record (value (number_part l))) k.number in
      decimal-digits (number_part l) a.0 (omega (arith, record_high (value (number_part l)) a.1))

  parent_digits : digits (row_of l).parent ≡ parent_part l
  parent_digits =
      let a = and_yes (decimal (parent_part l)) (leb (value (parent_part l)) GREATEST) k.parent in
      let high : value (parent_part l) ≤ GREATEST = leb_yes a.1 in
      decimal-digits (parent_part l) a.0 (omega arith)

  first_tab : l ≡ number_part l ++ (TAB ∷ after TAB l)
  first_tab = rejoin TAB l (omega (arith, k.tabs))

  second_tab : after TAB l ≡ parent_part l ++ (TAB ∷ content_part l)
  second_tab = rejoin TAB (after TAB l) (omega (arith, k.tabs, count-after TAB l))

  -- a line that keeps its rules is the written line of its row
  pub line_canonical : body (row_of l) ≡ l
  line_canonical =
      ap (λ (s : List ℕ). s ++ (TAB ∷ (digits (row_of l).parent ++ (TAB ∷ content_part l)))) number_digits
      ∙ ap (λ (s : List ℕ). number_part l ++ (TAB ∷ (s ++ (TAB ∷ content_part l)))) parent_digits
      ∙ ap (λ (s : List ℕ). number_part l ++ (TAB ∷ s)) (sym second_tab) ∙ sym first_tab

pub lines_canonical : (seen : List Row) (ls : List (List ℕ)) → Faultless seen ls → written (map row_of ls) ≡ joined ls
lines_canonical seen [] f = refl
lines_canonical seen (l ∷ ls) f =
    ap (λ (s : List ℕ). ended_line s ++ written (map row_of ls)) (line_canonical l (fault_rules seen l f.0))
    ∙ ap (λ (s : List ℕ). ended_line l ++ s) (lines_canonical (seen ++ (row_of l ∷ [])) ls f.1)

-- an accepted text is the written form of its rows
pub canonical : (text : List ℕ) (t : List Row) → verdict text ≡ readable t → (text ≡ written t) × (length text ≤ BYTES)
canonical text t e =
    let a = accepted_text text t e in
    (sym (ap written a.rows ∙ lines_canonical [] (lines text) a.faultless ∙ lines-joined text a.whole), a.short)
