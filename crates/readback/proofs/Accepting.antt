-- What an accepted text is: short and ended, no line with a fault, its rows the rows of its lines. And the code of a refused text is
-- not 0. t is a table, ls are lines, `seen` are the rows of the lines before. Assumes nothing.
use mathlib.Core.Path.{◌≡◌, refl, sym, ap, ◌∙◌, subst}
use mathlib.Core.Bool.{Bool, true, false, cond, not}
use mathlib.Core.List.{List, [], ◌∷◌, ◌++◌, map, append-nil}
use Prim.Native.Nat.{ℕ, ◌+◌, ◌≤◌}
use native.Mathlib.Omega.{arith}
use lib.ListN.{length}
use lib.Seq.{append_snoc}
use lib.Dec.{eqb, ltb}
use borrow.Author.Tests.{eqb-true, eqb-false, ltb-false, le-ltb, not-false}
use Rattle.rules.specs.Limits.{BYTES}
use Rattle.rules.specs.Codes.{accepted, text_too_long, unended}
use Rattle.rules.specs.Text.{LF, count, lines, ended}
use Rattle.rules.specs.Line.{Row, row_of}
use Rattle.rules.specs.Table.{fault, Verdict, readable, unreadable, read_lines, verdict}
use Rattle.readback.proofs.Following.{Good}
use Rattle.readback.proofs.Faults.{fault_follows}

-- ---- one test before others

-- what is readable was not refused
not_refused : (b : Bool) (code place : ℕ) (rest : Verdict) (t : List Row) → cond b (unreadable code place) rest ≡ readable t
    → (b ≡ false) × (rest ≡ readable t)
not_refused true code place rest t e = let o : ◌≡◌ {A = ℕ} 0 1 = cc in absurd (omega arith)
not_refused false code place rest t e = (refl, e)

not-faulty : (code place : ℕ) (rest : Verdict) (t : List Row) → cond (eqb code accepted) rest (unreadable code place) ≡ readable t
    → (code ≡ accepted) × (rest ≡ readable t)
not-faulty code place rest t e = go (eqb code accepted) refl e
  where
    go : (b : Bool) → eqb code accepted ≡ b → cond b rest (unreadable code place) ≡ readable t → (code ≡ accepted) × (rest ≡ readable t)
    go true q e = (eqb-true code accepted q, e)
    go false q e = let o : ◌≡◌ {A = ℕ} 0 1 = cc in absurd (omega arith)

-- ---- lines

-- none of the lines has a fault
abbrev pub Faultless : List Row → List (List ℕ) → Type 0
Faultless seen [] = Unit {0}
Faultless seen (l ∷ ls) = (fault seen l ≡ accepted) × Faultless (seen ++ (row_of l ∷ [])) ls

read_lines_lem : (seen : List Row) (ls : List (List ℕ)) (t : List Row) → read_lines seen ls ≡ readable t
    → (t ≡ seen ++ map row_of ls) × Faultless seen ls
read_lines_lem seen [] t e = let q : t ≡ seen = cc in (q ∙ sym (append-nil seen), tt)
read_lines_lem seen (l ∷ ls) t e =
    let a = not-faulty (fault seen l) (length seen + 1) (read_lines (seen ++ (row_of l ∷ [])) ls) t e in
    let w = read_lines_lem (seen ++ (row_of l ∷ [])) ls t a.1 in
    (w.0 ∙ append_snoc seen (row_of l) (map row_of ls), (a.0, w.1))

lines_read : (seen : List Row) (ls : List (List ℕ)) → Faultless seen ls → read_lines seen ls ≡ readable (seen ++ map row_of ls)
lines_read seen [] f = ap readable (sym (append-nil seen))
lines_read seen (l ∷ ls) f =
    rw f.0 (lines_read (seen ++ (row_of l ∷ [])) ls f.1 ∙ ap readable (append_snoc seen (row_of l) (map row_of ls)))

-- ---- the text

pub record AcceptedText (text : List ℕ) (t : List Row) : Type 0 where
  pub short : length text ≤ BYTES
  pub whole : ended text ≡ true
  pub rows : t ≡ map row_of (lines text)
  pub faultless : Faultless [] (lines text)

pub accepted_text : (text : List ℕ) (t : List Row) → verdict text ≡ readable t → AcceptedText text t
accepted_text text t e =
    let a = not_refused (ltb BYTES (length text)) text_too_long 0 _ t e in
    let b = not_refused (not (ended text)) unended (count LF text + 1) _ t a.1 in
    let w = read_lines_lem [] (lines text) t b.1 in
    record { short = ltb-false BYTES (length text) a.0; whole = not-false (ended text) b.0; rows = w.0; faultless = w.1 }

pub text_readable : (text : List ℕ) (t : List Row) → AcceptedText text t → verdict text ≡ readable t
text_readable text t a =
    rw (le-ltb BYTES (length text) a.short, a.whole) (lines_read [] (lines text) a.faultless ∙ ap readable (sym a.rows))

pub faultless_good : (seen : List Row) (ls : List (List ℕ)) → Faultless seen ls → Good seen (map row_of ls)
faultless_good seen [] f = tt
faultless_good seen (l ∷ ls) f = (fault_follows seen l f.0, faultless_good (seen ++ (row_of l ∷ [])) ls f.1)

-- the rows of an accepted text may follow one another
pub good : (text : List ℕ) (t : List Row) → verdict text ≡ readable t → Good [] t
good text t e =
    let a = accepted_text text t e in
    subst (Good []) (sym a.rows) (faultless_good [] (lines text) a.faultless)

-- ---- a refused text

-- a refusal has a code
abbrev HasCode : Verdict → Type 0
HasCode (readable t) = Unit {0}
HasCode (unreadable code line) = code ≡ accepted → ⊥

fault-code : (code place : ℕ) (rest : Verdict) → HasCode rest → HasCode (cond (eqb code accepted) rest (unreadable code place))
fault-code code place rest h = go (eqb code accepted) refl
  where
    go : (b : Bool) → eqb code accepted ≡ b → HasCode (cond b rest (unreadable code place))
    go true q = h
    go false q = eqb-false code accepted q

lines_code : (seen : List Row) (ls : List (List ℕ)) → HasCode (read_lines seen ls)
lines_code seen [] = tt
lines_code seen (l ∷ ls) =
    fault-code (fault seen l) (length seen + 1) (read_lines (seen ++ (row_of l ∷ [])) ls) (lines_code (seen ++ (row_of l ∷ [])) ls)

first_code : (b : Bool) (code place : ℕ) (rest : Verdict) → (code ≡ accepted → ⊥) → HasCode rest
    → HasCode (cond b (unreadable code place) rest)
first_code true code place rest f h = f
first_code false code place rest f h = h

text_code : (text : List ℕ) → HasCode (verdict text)
text_code text =
    first_code (ltb BYTES (length text)) text_too_long 0 _ (omega arith)
    (first_code (not (ended text)) unended (count LF text + 1) _ (omega arith) (lines_code [] (lines text)))

-- so code 0 means that the text was read
pub refused_code : (text : List ℕ) (code line : ℕ) → verdict text ≡ unreadable code line → code ≡ accepted → ⊥
refused_code text code line e = subst HasCode e (text_code text)
