-- The run of plain bytes that a text starts with. s is a part of a text, x a byte. Assumes nothing.
use mathlib.Core.Path.{◌≡◌, refl, sym, ap}
use mathlib.Core.Bool.{Bool, true, false, cond, ◌&&◌, true≢false}
use mathlib.Core.List.{List, [], ◌∷◌}
use Prim.Native.Nat.{ℕ, suc, ◌+◌, ◌≤◌}
use native.Mathlib.Omega.{arith}
use lib.ListN.{length}
use Rattle.std.specs.List.{prefix_len}
use Rattle.text.specs.Reads.{plain, plain_run}

-- ---- two tests

pub both : (a b : Bool) → (a && b) ≡ true → (a ≡ true) × (b ≡ true)
both true b q = (refl, q)
both false b q = absurd (true≢false (sym q))

-- ---- the run

pub run_le : (s : List ℕ) → plain_run s ≤ length s
run_le [] = omega arith
run_le (x ∷ s) = go (plain x) (run_le s)
  where
    go : (u : Bool) → plain_run s ≤ length s → cond u (suc (plain_run s)) 0 ≤ suc (length s)
    go true h = omega arith
    go false h = omega arith

pub run_prefix : (s : List ℕ) → prefix_len plain s ≡ plain_run s
run_prefix [] = refl
run_prefix (x ∷ s) =
    let e : 1 + prefix_len plain s ≡ suc (plain_run s) = omega (arith, run_prefix s) in
    ap (λ (n : ℕ). cond (plain x) n 0) e
