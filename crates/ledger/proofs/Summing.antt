-- The sums over the lines of memory, line after line. fs is the array of facts, l a line, f what a line tells. Assumes nothing.
use mathlib.Core.Path.{◌≡◌}
use mathlib.Core.List.{List}
use Prim.Native.Nat.{ℕ, ◌+◌, ◌*◌, ◌<◌, ◌≤◌}
use native.Mathlib.Omega.{arith}
use native.Mathlib.Numerals.{add-one}
use Rattle.rules.specs.Written.{width}
use Rattle.facts.specs.Memory.{origin_of}
use Rattle.facts.specs.Table.{FactsAt}
use Rattle.facts.specs.declared.Facts.{Facts}
use Rattle.ledger.specs.Sums.{frame_line, ledger_line, line_bytes, sum_to}

pub record Summing (fs : List ℕ) (frames entries bytes l : ℕ) : Type 0 where
  pub framed : frames ≡ sum_to (frame_line fs) l
  pub entered : entries ≡ sum_to (ledger_line fs) l
  pub counted : bytes ≡ sum_to (line_bytes fs) l
  pub few_frames : frames ≤ l * 15
  pub few_entries : entries ≤ l * 21
  pub few_bytes : bytes ≤ l * 4294967295

-- one line more
sum-next : (w : ℕ → ℕ) (l s k : ℕ) → s ≡ sum_to w l → k ≡ w (l + 1) → s + k ≡ sum_to w (l + 1)
sum-next w l s k e f = rw (f, add-one, e)

module _ {fs : List ℕ} {frames entries bytes l : ℕ} (s : Summing fs frames entries bytes l) where
  pub sum-on : {f : Facts} {a e : ℕ} → FactsAt fs (l + 1) f
      → a ≡ 3 + width f.number.number + width f.parent.number → a ≤ 15
      → e ≡ 3 + width f.number.number + width (origin_of f.place) + width f.length → e ≤ 21
      → f.length < 4294967296 → Summing fs (frames + a) (entries + e) (bytes + f.length) (l + 1)
  sum-on {f} {a} {e} t i j k m o = record {
    framed = sum-next (frame_line fs) l frames a s.framed (rw (← t.number, ← t.parent) i);
    entered = sum-next (ledger_line fs) l entries e s.entered (rw (← t.number, ← t.place, ← t.length) k);
    counted = sum-next (line_bytes fs) l bytes f.length s.counted t.length;
    few_frames = omega (arith, s.few_frames);
    few_entries = omega (arith, s.few_entries);
    few_bytes = omega (arith, s.few_bytes);
  }
