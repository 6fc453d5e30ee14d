-- Bytes out: decimals, a row's line, the written table, and a lent buffer afterwards. Assumes nothing.
use Rattle.std.specs.Prelude.{cond, List, [], ◌∷◌, ◌++◌, ℕ, zero, suc, ◌+◌, ◌/◌, ◌%◌, ltb, length, drop}
use Rattle.rules.specs.Lists.{sum, flat}
use Rattle.rules.specs.Marks.{TOP}
use Rattle.rules.specs.Text.{TAB, LF}
use Rattle.rules.specs.Line.{Row}
use Rattle.rules.specs.Tree.{Tree, rows, tree_of}

-- ---- decimals

-- the last k digits of n
abbrev pub last_digits : ℕ → ℕ → List ℕ
last_digits zero n = []
last_digits (suc k) n = last_digits k (n / 10) ++ ((48 + n % 10) ∷ [])

-- how many digits n has; no number that is written has more than six
abbrev pub width : ℕ → ℕ
width n =
    cond (ltb n 10) 1 (cond (ltb n 100) 2 (cond (ltb n 1000) 3 (cond (ltb n 10000) 4 (cond (ltb n 100000) 5 6))))

unfoldable pub digits : ℕ → List ℕ
digits n = last_digits (width n) n

-- ---- the table

-- `number␉parent␉content`
abbrev pub body : Row → List ℕ
body x = digits x.number ++ (TAB ∷ (digits x.parent ++ (TAB ∷ x.content)))

-- "each ended by LF"
abbrev pub line : Row → List ℕ
line x = body x ++ (LF ∷ [])

abbrev pub written : List Row → List ℕ
written t = flat line t

-- the written form of a tree
abbrev pub written_tree : Tree → List ℕ
written_tree f = written (rows TOP f)

-- the written form of a table
abbrev pub tidied : List Row → List ℕ
tidied t = written_tree (tree_of t)

-- ---- lengths

-- the bytes of the contents
abbrev pub content_bytes : List Row → ℕ
content_bytes t = sum (λ (x : Row). length x.content) t

-- "for each record, three and the digits of its number and parent"
abbrev pub frame_bytes : List Row → ℕ
frame_bytes t = sum (λ (x : Row). 3 + width x.number + width x.parent) t

-- ---- a lent buffer

-- "Accepted calls write from byte 0 of a buffer; bytes past the length stay."
abbrev pub over : List ℕ → List ℕ → List ℕ
over bytes buffer = bytes ++ drop (length bytes) buffer
