-- What a caller may conclude from what is told of a line: its fault, its row, where its content lies, and the place behind it. `rest` is
-- what is left of a text from the line's start on; a line told with code 0 has no fault. Assumes nothing.
use mathlib.Core.Path.{◌≡◌, refl, sym, ◌∙◌}
use mathlib.Core.Bool.{Bool, true, false, cond, not}
use mathlib.Core.List.{List}
use Prim.Native.Nat.{ℕ}
use lib.Dec.{eqb, ltb}
use borrow.Author.Tests.{eqb-true}
use Rattle.std.specs.Prelude.{Ok, Err}
use Rattle.rules.specs.Codes.{accepted, byte_not_allowed, few_tabs, bad_number, bad_parent, bad_content}
use Rattle.rules.specs.Kinds.{fault_code}
use Rattle.rules.specs.Lists.{every}
use Rattle.rules.specs.Line.{number_part, parent_part, content_part, number_ok, parent_ok, line_fault}
use Rattle.rules.specs.Text.{TAB, LF, allowed, count, before, content_ok}
use Rattle.line.specs.Told.{good, fault_of, line_told, code_told, next_line}
use Rattle.line.proofs.Judging.{told-good}

-- a fault has the code that it is told by
abbrev lowest : Bool → Bool → Bool → Bool → Bool → ℕ
lowest bytes tabs number parent content =
    cond bytes byte_not_allowed (cond tabs few_tabs (cond number bad_number (cond parent bad_parent (cond content bad_content accepted))))

fault_known : (a b c d e : Bool) → eqb (lowest a b c d e) accepted ≡ false → fault_code (fault_of (lowest a b c d e)) ≡ lowest a b c d e
fault_known true b c d e q = refl
fault_known false true c d e q = refl
fault_known false false true d e q = refl
fault_known false false false true e q = refl
fault_known false false false false true q = refl
fault_known false false false false false q = cc

-- the code that is told is the line's fault
line-fault : (l : List ℕ) → code_told (line_told l) ≡ line_fault l
unfolding line_told
line-fault l = go (eqb (line_fault l) accepted) refl
  where
    go : (u : Bool) → eqb (line_fault l) accepted ≡ u
        → code_told (cond u (Ok (good l)) (Err (fault_of (line_fault l)))) ≡ line_fault l
    go true q = sym (eqb-true (line_fault l) accepted q)
    go false q =
        fault_known (not (every allowed l)) (ltb (count TAB l) 2) (not (number_ok (number_part l))) (not (parent_ok (parent_part l)))
        (not (content_ok (content_part l))) q

pub told-fault : (rest : List ℕ) → code_told (next_line rest) ≡ line_fault (before LF rest)
told-fault rest = line-fault (before LF rest)

-- a line without a fault tells its row
pub told-row : (rest : List ℕ) → code_told (next_line rest) ≡ 0 → next_line rest ≡ Ok (good (before LF rest))
told-row rest e = sym (told-good (before LF rest) (sym (told-fault rest) ∙ e))
