-- How long the line of the five numbers is, and that it has at most 35 bytes. m are the five numbers. Assumes nothing.
use mathlib.Core.Path.{◌≡◌, ◌∙◌}
use mathlib.Core.Bool.{Bool, true, false, cond}
use mathlib.Core.List.{List, [], ◌∷◌, ◌++◌}
use Prim.Native.Nat.{ℕ, ◌+◌, ◌≤◌}
use native.Mathlib.Omega.{arith}
use lib.Dec.{ltb}
use lib.ListN.{length, length-append}
use Rattle.rules.specs.Text.{TAB, LF}
use Rattle.rules.specs.Written.{width, digits}
use Rattle.rules.specs.Calls.{five_numbers}
use Rattle.rules.specs.declared.answers.Merged.{Merged}
use Rattle.readback.proofs.Decimals.{digits-length}
use Rattle.demonstration.specs.Printed.{numbers_length}

width_few : (n : ℕ) → width n ≤ 6
width_few n = go (ltb n 10) (ltb n 100) (ltb n 1000) (ltb n 10000) (ltb n 100000)
  where
    go : (a b c d e : Bool) → cond a 1 (cond b 2 (cond c 3 (cond d 4 (cond e 5 6)))) ≤ 6
    go true b c d e = omega arith
    go false true c d e = omega arith
    go false false true d e = omega arith
    go false false false true e = omega arith
    go false false false false true = omega arith
    go false false false false false = omega arith

pub numbers_few : (m : Merged) → numbers_length m ≤ 35
numbers_few m =
    omega (
      arith,
      width_few m.code,
      width_few m.table,
      width_few m.place,
      width_few m.table_length,
      width_few m.ledger_length,
    )

field-long : (n x : ℕ) (s : List ℕ) → length (digits n ++ (x ∷ s)) ≡ width n + (length s + 1)
field-long n x s = length-append (digits n) (x ∷ s) ∙ omega (arith, digits-length n)

pub numbers-long : (m : Merged) → length (five_numbers m) ≡ numbers_length m
numbers-long m =
    let e = digits m.ledger_length ++ (LF ∷ []) in
    let d = digits m.table_length ++ (TAB ∷ e) in
    let c = digits m.place ++ (TAB ∷ d) in
    let b = digits m.table ++ (TAB ∷ c) in
    omega (
      arith,
      field-long m.code TAB b,
      field-long m.table TAB c,
      field-long m.place TAB d,
      field-long m.table_length TAB e,
      field-long m.ledger_length LF [],
    )

pub ruleset lengths = (numbers-long)
