-- The ledger, read back: split at LF and TAB again, what an accepted merge wrote has one line for each record of the table that it wrote,
-- in that order, "`number␉origin␉bytes`", and a last one, "`total␉records␉bytes`". e is an entry, es are a ledger's entries, x is a row, t
-- are the rows of the merged table, f is its tree, o and bs are the tables of old and of the branches, O and B their facts. Assumes
-- nothing.
use mathlib.Core.Path.{◌≡◌, refl, sym, ap, ap₂, ◌∙◌, subst}
use mathlib.Core.List.Memᴰ
use mathlib.Core.List.Memᴰ.{head as here}
use mathlib.Core.List.Memᴰ.{tail as there}
use mathlib.Core.List.{List, [], ◌∷◌, ◌++◌, map, append_assoc}
use Prim.Native.Nat.{ℕ, ◌<◌}
use native.Mathlib.Omega.{arith}
use lib.Dec.{leb}
use lib.ListN.{length, length-map, take, drop}
use lib.Seq.{append_snoc, take-append_seam, drop-append_seam}
use Rattle.rules.specs.Lists.{◌∈◌, flat, sum}
use Rattle.rules.specs.Quoted.{bytes}
use Rattle.rules.specs.Marks.{TOP}
use Rattle.rules.specs.Text.{TAB, LF, lines, fields, value}
use Rattle.rules.specs.Line.{Row}
use Rattle.rules.specs.Table.{numbers, readable, verdict}
use Rattle.rules.specs.Tree.{Tree, rows}
use Rattle.rules.specs.Facts.{Facts, facts_of}
use Rattle.rules.specs.Written.{digits, content_bytes}
use Rattle.rules.specs.Ledger.{Entry, origin, entries, entries_of, entry_line, total_line, ledger as ledger_of}
use Rattle.rules.specs.Promises.{Merges}
use Rattle.rules.specs.Demands.{Answered, Tables}
use Rattle.rules.specs.declared.answers.Merged.{Merged}
use Rattle.trees.proofs.Marks.{record_high}
use Rattle.trees.proofs.Trees.{tree_distinct}
use Rattle.readback.proofs.Splitting.{every_in, lines_at}
use Rattle.readback.proofs.Decimals.{digits_value}
use Rattle.readback.proofs.ReadBack.{written-length}
use Rattle.demands.proofs.NumberLines.{numbers_back, number_line, line-fields, one_line, line-followed}
use Rattle.demands.proofs.NumberLines.{word_line, word_fields, word_one_line}
use Rattle.demands.proofs.Demand2.{bytes_total}
use Rattle.demands.proofs.Bounds.{content_few, origin_few}
use Rattle.demands.proofs.OnTheCall.{Wrote, demand3, demand3_written}

-- ---- of any entries

-- "`number␉origin␉bytes`"
abbrev pub entry_fields : Entry → List (List ℕ)
entry_fields e = digits e.number ∷ digits e.origin ∷ digits e.bytes ∷ []

-- "`total␉records␉bytes`"
abbrev pub total_fields : ℕ → ℕ → List (List ℕ)
total_fields records byte_total = bytes "total" ∷ digits records ∷ digits byte_total ∷ []

abbrev entry_body : Entry → List ℕ
entry_body e = number_line e.number (e.origin ∷ e.bytes ∷ [])

entry_parts : (e : Entry) (rest : List ℕ) → entry_line e ++ rest ≡ entry_body e ++ (LF ∷ rest)
entry_parts e rest =
    ap (λ (s : List ℕ). s ++ rest) (line-followed (LF ∷ []) e.number (e.origin ∷ e.bytes ∷ [])) ∙ append_snoc (entry_body e) LF rest

-- what is split behind the entries' lines is split as if they did not stand before it
entries-fields : (es : List Entry) (rest : List ℕ)
    → map fields (lines (flat entry_line es ++ rest)) ≡ map entry_fields es ++ map fields (lines rest)
entries-fields [] rest = refl
entries-fields (e ∷ es) rest =
    ap (λ (s : List ℕ). map fields (lines s))
    (append_assoc (entry_line e) (flat entry_line es) rest ∙ entry_parts e (flat entry_line es ++ rest))
    ∙ ap (map fields) (lines_at (entry_body e) (flat entry_line es ++ rest) (one_line e.number (e.origin ∷ e.bytes ∷ [])))
    ∙ ap₂ (λ (l : List (List ℕ)) (ls : List (List (List ℕ))). l ∷ ls) (line-fields e.number (e.origin ∷ e.bytes ∷ []))
    (entries-fields es rest)

no_tab_in_total : TAB ∈ bytes "total" → ⊥
no_tab_in_total m = every_in (leb 97) (bytes "total") tt m

total_fields_lem : (es : List Entry)
    → map fields (lines (total_line es)) ≡ total_fields (length es) (sum (λ (e : Entry). e.bytes) es) ∷ []
total_fields_lem es =
    let n : ℕ = length es in
    let k : ℕ = sum (λ (e : Entry). e.bytes) es in
    ap (λ (s : List ℕ). map fields (lines (bytes "total" ++ (TAB ∷ s)))) (line-followed (LF ∷ []) n (k ∷ []))
    ∙ ap (map fields) (lines_at (word_line (bytes "total") n (k ∷ [])) [] (word_one_line (bytes "total") n (k ∷ []) tt))
    ∙ ap (λ (l : List (List ℕ)). l ∷ []) (word_fields (bytes "total") n (k ∷ []) no_tab_in_total)

-- a line for each entry in order, and the last line: their number and the sum of their bytes
pub ledger-fields : (es : List Entry) → map fields (lines (ledger_of es))
    ≡ map entry_fields es ++ (total_fields (length es) (sum (λ (e : Entry). e.bytes) es) ∷ [])
ledger-fields es =
    entries-fields es (total_line es) ∙ ap (λ (ls : List (List (List ℕ))). map entry_fields es ++ ls) (total_fields_lem es)

-- ---- of a merged tree: "One line for each merged record in written order"

module _ (O : Facts) (B : List Facts) where
  -- "Bytes is the length of that content"
  abbrev pub row_numbers : Row → List ℕ
  row_numbers x = x.number ∷ origin O B x ∷ length x.content ∷ []

  abbrev pub row_fields : Row → List (List ℕ)
  row_fields x = map digits (row_numbers x)

  numbers-same : (t : List Row) → map (λ (e : Entry). e.number) (entries O B t) ≡ numbers t
  numbers-same [] = refl
  numbers-same (x ∷ t) = ap (λ (ns : List ℕ). x.number ∷ ns) (numbers-same t)

  origins_same : (t : List Row) → map (λ (e : Entry). e.origin) (entries O B t) ≡ map (origin O B) t
  origins_same [] = refl
  origins_same (x ∷ t) = ap (λ (ns : List ℕ). origin O B x ∷ ns) (origins_same t)

  bytes_same : (t : List Row) → map (λ (e : Entry). e.bytes) (entries O B t) ≡ map (λ (x : Row). length x.content) t
  bytes_same [] = refl
  bytes_same (x ∷ t) = ap (λ (ns : List ℕ). length x.content ∷ ns) (bytes_same t)

  fields-same : (t : List Row) → map entry_fields (entries O B t) ≡ map row_fields t
  fields-same [] = refl
  fields-same (x ∷ t) = ap (λ (ls : List (List (List ℕ))). row_fields x ∷ ls) (fields-same t)

module _ (o : List Row) (bs : List (List Row)) (f : Tree) where
  pub entry_numbers : map (λ (e : Entry). e.number) (entries_of o bs f) ≡ numbers (rows TOP f)
  entry_numbers = numbers-same (facts_of o) (map facts_of bs) (rows TOP f)

  pub entry_origins : map (λ (e : Entry). e.origin) (entries_of o bs f) ≡ map (origin (facts_of o) (map facts_of bs)) (rows TOP f)
  entry_origins = origins_same (facts_of o) (map facts_of bs) (rows TOP f)

  pub entry_bytes : map (λ (e : Entry). e.bytes) (entries_of o bs f) ≡ map (λ (x : Row). length x.content) (rows TOP f)
  entry_bytes = bytes_same (facts_of o) (map facts_of bs) (rows TOP f)

  pub entry_count : length (entries_of o bs f) ≡ length (rows TOP f)
  entry_count = length-map (rows TOP f) _

  pub tree_fields : map fields (lines (ledger_of (entries_of o bs f)))
      ≡ map (row_fields (facts_of o) (map facts_of bs)) (rows TOP f)
      ++ (total_fields (length (rows TOP f)) (content_bytes (rows TOP f)) ∷ [])
  tree_fields =
      ledger-fields (entries_of o bs f)
      ∙ ap₂ (λ (ls : List (List (List ℕ))) (l : List (List ℕ)). ls ++ (l ∷ []))
      (fields-same (facts_of o) (map facts_of bs) (rows TOP f))
      (ap₂ total_fields entry_count (bytes_total (facts_of o) (map facts_of bs) (rows TOP f)))

-- ---- the numbers that a ledger's fields write

module _ (O : Facts) (B : List Facts) where
  -- the lines of records write their numbers
  rows_back : (t : List Row) → ((x : Row) → x ∈ t → (k : ℕ) → k ∈ row_numbers O B x → k < 1000000)
      → map (map value) (map (row_fields O B) t) ≡ map (row_numbers O B) t
  rows_back [] h = refl
  rows_back (x ∷ t) h =
      ap₂ (λ (l : List ℕ) (ls : List (List ℕ)). l ∷ ls) (numbers_back (row_numbers O B x) (h x (here refl)))
      (rows_back t (λ y m. h y (there m)))

all_three : (P : ℕ → Type 0) (a b c : ℕ) → P a → P b → P c → (k : ℕ) → k ∈ a ∷ b ∷ c ∷ [] → P k
all_three P a b c p q r k (here e) = subst P (sym e) p
all_three P a b c p q r k (there (here e)) = subst P (sym e) q
all_three P a b c p q r k (there (there (here e))) = subst P (sym e) r
all_three P a b c p q r k (there (there (there m))) = absurd (Memᴰ.not-nil m)

-- two branches leave an origin of one digit
two-branches : (first second : List ℕ) (o : List Row) (bs : List (List Row)) → map verdict (first ∷ second ∷ []) ≡ map readable bs
    → (x : Row) → origin (facts_of o) (map facts_of bs) x < 10
two-branches first second o [] e x = let z : ◌≡◌ {A = ℕ} 0 1 = cc in absurd (omega arith)
two-branches first second o (p ∷ []) e x = let z : ◌≡◌ {A = ℕ} 0 1 = cc in absurd (omega arith)
two-branches first second o (p ∷ q ∷ []) e x = origin_few (facts_of o) (facts_of p) (facts_of q) x
two-branches first second o (p ∷ q ∷ u ∷ us) e x = let z : ◌≡◌ {A = ℕ} 0 1 = cc in absurd (omega arith)

-- ---- on the call

-- the bytes written are the ledger of the entries
pub written-ledger : (table ledger : List ℕ) (answer : Merged) (table' ledger' : List ℕ) (f : Tree) (es : List Entry)
    → Wrote table ledger answer table' ledger' f es → take answer.ledger_length ledger' ≡ ledger_of es
written-ledger table ledger answer table' ledger' f es w =
    ap (λ (m : Merged). take m.ledger_length ledger') w.answer_is
    ∙ ap (take (length (ledger_of es))) w.ledger_is
    ∙ take-append_seam (ledger_of es) (drop (length (ledger_of es)) ledger)

module _ (old first second table ledger : List ℕ) (answer : Merged) (table' ledger' : List ℕ)
    (call : Merges old first second table ledger answer table' ledger') (z : answer.code ≡ 0)
    (o : List Row) (bs : List (List Row)) (read : Tables old (first ∷ second ∷ []) o bs) (t : List Row)
    (wrote : verdict (take answer.table_length table') ≡ readable t) where
  abbrev O : Facts
  O = facts_of o

  abbrev B : List Facts
  B = map facts_of bs

  -- they are the rows of the tree that was written
  tree-written : (f : Tree) × Answered o bs (length table) (length ledger) f
      × Wrote table ledger answer table' ledger' f (entries_of o bs f) × (t ≡ rows TOP f)
  tree-written =
      let w = (demand3 old first second table ledger answer table' ledger' call o bs read).0 z in
      let v = demand3_written old first second table ledger answer table' ledger' call o bs read w.0 w.1 in
      let e : readable t ≡ readable (rows TOP w.0) = sym wrote ∙ v.read_back in
      (w.0, w.1, v, cc)

  -- the table written has the rows t: the ledger written has a line for each of them in that order, and their total
  pub demand2_ledger : map fields (lines (take answer.ledger_length ledger'))
      ≡ map (row_fields (facts_of o) (map facts_of bs)) t ++ (total_fields (length t) (content_bytes t) ∷ [])
  demand2_ledger =
      let w = tree-written in
      ap (λ (s : List ℕ). map fields (lines s))
      (written-ledger table ledger answer table' ledger' w.0 (entries_of o bs w.0) w.2)
      ∙ tree_fields o bs w.0
      ∙ ap (λ (r : List Row). map (row_fields O B) r ++ (total_fields (length r) (content_bytes r) ∷ [])) (sym w.3)

  few_digits : (x : Row) → x ∈ t → (k : ℕ) → k ∈ row_numbers O B x → k < 1000000
  few_digits x m =
      let w = tree-written in
      let i : x ∈ rows TOP w.0 = subst (λ (r : List Row). x ∈ r) w.3 m in
      all_three (λ (k : ℕ). k < 1000000) x.number (origin O B x) (length x.content)
      (omega (arith, record_high x.number ((tree_distinct w.0 w.1.within.tree).valid x i)))
      (omega (arith, two-branches first second o bs read.branches_read x))
      (omega (arith, content_few x.content (w.1.within.contents x i)))

  total_few : (length t < 1000000) × (content_bytes t < 1000000)
  total_few =
      let w = tree-written in
      subst (λ (r : List Row). (length r < 1000000) × (content_bytes r < 1000000)) (sym w.3)
      (omega (arith, w.1.within.few), omega (arith, w.1.within.short, written-length (rows TOP w.0)))

  seam : length t ≡ length (map (row_fields O B) t)
  seam = sym (length-map t (row_fields O B))

  -- the same in numbers: as many lines as the table has records write number, origin and bytes of one record each
  pub demand2_records : map (map value) (take (length t) (map fields (lines (take answer.ledger_length ledger'))))
      ≡ map (row_numbers (facts_of o) (map facts_of bs)) t
  demand2_records =
      ap (map (map value)) (ap₂ take seam demand2_ledger
      ∙ take-append_seam (map (row_fields O B) t) (total_fields (length t) (content_bytes t) ∷ []))
      ∙ rows_back O B t few_digits

  -- and the one line behind them, behind its word, the number of records and their bytes
  pub demand2_total : map (λ (l : List (List ℕ)). map value (drop 1 l))
      (drop (length t) (map fields (lines (take answer.ledger_length ledger')))) ≡ (length t ∷ content_bytes t ∷ []) ∷ []
  demand2_total =
      ap (map (λ (l : List (List ℕ)). map value (drop 1 l))) (ap₂ drop seam demand2_ledger
      ∙ drop-append_seam (map (row_fields O B) t) (total_fields (length t) (content_bytes t) ∷ []))
      ∙ ap₂ (λ (a b : ℕ). (a ∷ b ∷ []) ∷ []) (digits_value (length t) total_few.0) (digits_value (content_bytes t) total_few.1)
