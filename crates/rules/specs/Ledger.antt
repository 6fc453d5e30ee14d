-- The ledger: where each merged record's content came from. `old` and `branches` are the tables or their facts, x is a merged row, es
-- are the ledger's entries. Assumes nothing.
use Rattle.std.specs.Prelude.{Bool, cond, List, [], ◌∷◌, ◌++◌, map, ℕ, suc, length}
use Rattle.rules.specs.Lists.{put, any, flat, sum}
use Rattle.rules.specs.Quoted.{bytes}
use Rattle.rules.specs.Marks.{TOP}
use Rattle.rules.specs.Text.{TAB, LF}
use Rattle.rules.specs.Line.{Row}
use Rattle.rules.specs.Tree.{Tree, rows}
use Rattle.rules.specs.Facts.{Facts, facts_of, content_of, same_content_fact}
use Rattle.rules.specs.Written.{digits}

-- ---- origins

-- the table has this content under this number
abbrev pub holds : Facts → Row → Bool
holds t x = any (same_content_fact (content_of x)) t.contents

-- the numbers of the branches that hold it, the first of them being number k
abbrev pub holders : ℕ → List Facts → Row → List ℕ
holders k [] x = []
holders k (b ∷ bs) x = put (holds b x) k (holders (suc k) bs x)

-- "Origin is 0 if the content equals old's for that number; otherwise 1 if only first has it, 2 if only second, 3 if both": the sum
-- of the desks' numbers
abbrev pub origin : Facts → List Facts → Row → ℕ
origin old branches x = cond (holds old x) 0 (sum (λ (k : ℕ). k) (holders 1 branches x))

-- ---- lines

-- "`number␉origin␉bytes`"
pub record Entry : Type 0 where
  pub number : ℕ
  pub origin : ℕ
  pub bytes : ℕ

-- "One line for each merged record in written order"; "Bytes is the length of that content"
abbrev pub entries : Facts → List Facts → List Row → List Entry
entries old branches t = map (λ (x : Row). record { number = x.number; origin = origin old branches x; bytes = length x.content }) t

-- those of a merged tree
abbrev pub entries_of : List Row → List (List Row) → Tree → List Entry
entries_of old branches f = entries (facts_of old) (map facts_of branches) (rows TOP f)

abbrev pub entry_line : Entry → List ℕ
entry_line e = digits e.number ++ (TAB ∷ (digits e.origin ++ (TAB ∷ (digits e.bytes ++ (LF ∷ [])))))

-- "Last line: `total␉records␉bytes`, the sums over the origin tables."
abbrev pub total_line : List Entry → List ℕ
total_line es = bytes "total" ++ (TAB ∷ (digits (length es) ++ (TAB ∷ (digits (sum (λ (e : Entry). e.bytes) es) ++ (LF ∷ [])))))

abbrev pub ledger : List Entry → List ℕ
ledger es = flat entry_line es ++ total_line es
