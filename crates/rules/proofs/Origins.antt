-- The marks of the ledger: what each says, and that they trade places when the desks do, and nothing else does. Assumes nothing.
use mathlib.Core.Path.{◌≡◌, refl, ap₂}
use mathlib.Core.Bool.{Bool, true, false, cond}
use mathlib.Core.List.{List, [], ◌∷◌, map}
use Prim.Native.Nat.{ℕ}
use lib.ListN.{length}
use Rattle.rules.specs.Lists.{put, sum}
use Rattle.rules.specs.Line.{Row}
use Rattle.rules.specs.Facts.{Facts}
use Rattle.rules.specs.Ledger.{Entry, holds, origin, entries}
use Rattle.rules.specs.Demands.{traded, traded_entry}

-- ---- the sum of the desks' numbers, by who holds the content: old, first, second

abbrev marked : Bool → Bool → Bool → ℕ
marked old first second = cond old 0 (sum (λ (k : ℕ). k) (put first 1 (put second 2 [])))

-- document 01's four cases; a content that no table holds is no merged one
abbrev pub mark : Bool → Bool → Bool → ℕ
mark true first second = 0
mark false true false = 1
mark false false true = 2
mark false true true = 3
mark false false false = 0

marked_is : (old first second : Bool) → marked old first second ≡ mark old first second
marked_is true first second = refl
marked_is false true false = refl
marked_is false false true = refl
marked_is false true true = refl
marked_is false false false = refl

marked_trades : (old first second : Bool) → marked old second first ≡ traded (marked old first second)
marked_trades true first second = refl
marked_trades false true false = refl
marked_trades false false true = refl
marked_trades false true true = refl
marked_trades false false false = refl

-- ---- of a merged row

abbrev entry_of : Row → ℕ → Entry
entry_of x m = record { number = x.number; origin = m; bytes = length x.content }

module _ (old first second : Facts) where
  -- "0 if the content equals old's for that number; otherwise 1 if only first has it, 2 if only second, 3 if both"
  pub origin_is : (x : Row) → origin old (first ∷ second ∷ []) x ≡ mark (holds old x) (holds first x) (holds second x)
  origin_is x = marked_is (holds old x) (holds first x) (holds second x)

  pub origin_trades : (x : Row) → origin old (second ∷ first ∷ []) x ≡ traded (origin old (first ∷ second ∷ []) x)
  origin_trades x = marked_trades (holds old x) (holds first x) (holds second x)

  -- "in the ledger only the desk marks trade places"
  pub entries_trade : (t : List Row) → entries old (second ∷ first ∷ []) t ≡ map traded_entry (entries old (first ∷ second ∷ []) t)
  entries_trade [] = refl
  entries_trade (x ∷ t) = ap₂ (λ (m : ℕ) (es : List Entry). entry_of x m ∷ es) (origin_trades x) (entries_trade t)
