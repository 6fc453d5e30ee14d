-- How long a ledger can be: 512 lines of at most 12 bytes and a last line of at most 16. o, p and q are the tables of old, first and
-- second, f is a tree that answers their merge, within the limits; t are its rows. Assumes nothing.
use mathlib.Core.Path.{◌≡◌, refl, sym, subst}
use mathlib.Core.Bool.{Bool, true, false}
use mathlib.Core.List.Memᴰ.{head as here}
use mathlib.Core.List.Memᴰ.{tail as there}
use mathlib.Core.List.{List, [], ◌∷◌, map}
use Prim.Native.Nat.{ℕ, ◌*◌, ◌<◌, ◌≤◌}
use native.Mathlib.Omega.{arith}
use lib.Dec.{T, leb}
use lib.ListN.{length, length-append, length-map}
use mir.Facts.{and_yes, leb_yes}
use Rattle.rules.specs.Limits.{CONTENT}
use Rattle.rules.specs.Lists.{◌∈◌, every, flat, sum}
use Rattle.rules.specs.Marks.{TOP, is_record}
use Rattle.rules.specs.Text.{filled, fields}
use Rattle.rules.specs.Line.{Row}
use Rattle.rules.specs.Table.{readable, verdict}
use Rattle.rules.specs.Tree.{Tree, rows}
use Rattle.rules.specs.Facts.{Facts, facts_of}
use Rattle.rules.specs.Ledger.{Entry, holds, origin, entries, entry_line, total_line, entries_of, ledger}
use Rattle.rules.specs.Demands.{Writable, Tables}
use Rattle.rules.specs.Room.{Sized}
use Rattle.rules.proofs.Origins.{mark, origin_is}
use Rattle.trees.proofs.Marks.{record_high}
use Rattle.trees.proofs.Trees.{tree_distinct}
use Rattle.readback.proofs.Entries.{width_one, width_three, width-five, entry_length, total_length_lem}
use Rattle.demands.proofs.Demand2.{merged-length}
use Rattle.demands.proofs.Demand3.{answer_writable}

-- ---- one line

mark_few : (old first second : Bool) → mark old first second < 10
mark_few true first second = omega arith
mark_few false true false = omega arith
mark_few false false true = omega arith
mark_few false true true = omega arith
mark_few false false false = omega arith

pub content_few : (c : List ℕ) → Writable c → length c ≤ 120
content_few c w =
    let a = and_yes (leb 1 (length c)) _ w.rule in
    leb_yes (and_yes (leb (length c) CONTENT) (every filled (fields c)) a.1).0

-- a row whose entry has at most 12 bytes
record Short (x : Row) : Type 0 where
  number : T (is_record x.number)
  content : Writable x.content

module _ (old first second : Facts) where
  abbrev entries_here : List Row → List Entry
  entries_here t = entries old (first ∷ second ∷ []) t

  pub origin_few : (x : Row) → origin old (first ∷ second ∷ []) x < 10
  origin_few x =
      subst (λ (k : ℕ). k < 10) (sym (origin_is old first second x)) (mark_few (holds old x) (holds first x) (holds second x))

  lines_few : (t : List Row) → ((x : Row) → x ∈ t → Short x) → length (flat entry_line (entries_here t)) ≤ length t * 12
  lines_few [] h = omega arith
  lines_few (x ∷ t) h =
      let e : Entry = record {
        number = x.number;
        origin = origin old (first ∷ second ∷ []) x;
        bytes = length x.content;
      } in
      let s = h x (here refl) in
      omega (
        arith,
        length-append (entry_line e) (flat entry_line (entries_here t)),
        entry_length e,
        width-five x.number (omega (arith, record_high x.number s.number)),
        width_one e.origin (origin_few x),
        width_three (length x.content) (omega (arith, content_few x.content s.content)),
        lines_few t (λ y m. h y (there m)),
      )

-- ---- the ledger

module _ (old first second : List ℕ) (o p q : List Row) (read : Tables old (first ∷ second ∷ []) o (p ∷ q ∷ [])) (f : Tree)
    (sized : Sized o (p ∷ q ∷ []) f) where
  abbrev es : List Entry
  es = entries_of o (p ∷ q ∷ []) f

  short_rows : (x : Row) → x ∈ rows TOP f → Short x
  short_rows x m =
      record {
        number = (tree_distinct f sized.answers.tree).valid x m;
        content = answer_writable old (first ∷ second ∷ []) o (p ∷ q ∷ []) read f sized.answers x m;
      }

  ledger_few : length (ledger es) ≤ 6160
  ledger_few =
      let count : length es ≡ length (rows TOP f) = length-map (rows TOP f) _ in
      let bytes : ℕ = sum (λ (e : Entry). e.bytes) es in
      omega (
        arith,
        length-append (flat entry_line es) (total_line es),
        lines_few (facts_of o) (facts_of p) (facts_of q) (rows TOP f) short_rows,
        total_length_lem es,
        count,
        sized.few,
        width_three (length es) (omega (arith, count, sized.few)),
        width-five bytes (omega (arith, merged-length f o (p ∷ q ∷ []), sized.short)),
      )

-- whichever the list of the branches' tables: it has two, first's and second's
pub ledger_bound : (old first second : List ℕ) (o : List Row) (bs : List (List Row)) → Tables old (first ∷ second ∷ []) o bs → (f : Tree)
    → Sized o bs f → length (ledger (entries_of o bs f)) ≤ 6160
ledger_bound old first second o bs read f sized = go bs read.branches_read read sized
  where
    go : (bs : List (List Row)) → map verdict (first ∷ second ∷ []) ≡ map readable bs → Tables old (first ∷ second ∷ []) o bs
        → Sized o bs f → length (ledger (entries_of o bs f)) ≤ 6160
    go [] e r s = let z : ◌≡◌ {A = ℕ} 0 1 = cc in absurd (omega arith)
    go (p ∷ []) e r s = let z : ◌≡◌ {A = ℕ} 0 1 = cc in absurd (omega arith)
    go (p ∷ q ∷ []) e r s = ledger_few old first second o p q r f s
    go (p ∷ q ∷ t ∷ ts) e r s = let z : ◌≡◌ {A = ℕ} 0 1 = cc in absurd (omega arith)
