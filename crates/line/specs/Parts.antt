-- The parts of one line, and how its content's fields are looked at. s is what is left of a text, l a line without its LF, x a byte, y
-- the byte before it. Assumes nothing.
use Rattle.std.specs.Prelude.{Bool, true, false, cond, not, ◌&&◌, ◌||◌, List, [], ◌∷◌, ℕ, zero, suc, ◌+◌, ◌-◌, eqb, leb, ltb, length}
use Rattle.std.specs.Prelude.{take, drop, Result, Ok, Err}
use Rattle.rules.specs.Limits.{CONTENT}
use Rattle.rules.specs.Lists.{every}
use Rattle.rules.specs.Line.{number_part, parent_part, content_part}
use Rattle.rules.specs.Text.{TAB, LF, allowed, count, fields, filled}
use Rattle.rules.specs.declared.kinds.Fault.{Fault}
use Rattle.rules.specs.declared.kinds.Fault.TheVariants.{ByteNotAllowed, FewTabs}
use Rattle.text.specs.Reads.{byte_at, plain, number_in}
use Rattle.line.specs.declared.Fields.{Fields}
use Rattle.line.specs.declared.Parts.{Parts}

-- the fault of a line that ends, with the byte x, before its second tab
abbrev pub short_fault : ℕ → Fault
short_fault x = cond (eqb x LF) FewTabs ByteNotAllowed

-- ---- the content's fields

-- how many bytes from the first on are allowed
abbrev pub allowed_run : List ℕ → ℕ
allowed_run [] = 0
allowed_run (x ∷ s) = cond (allowed x) (suc (allowed_run s)) 0

-- whether none of the fields is empty that the allowed bytes of s make
abbrev pub all_filled : List ℕ → Bool
all_filled s = every filled (fields (take (allowed_run s) s))

-- the fields of s from a place on
abbrev pub fields_from : List ℕ → ℕ → Fields
fields_from s place = record { end = place + allowed_run (drop place s); filled = all_filled (drop place s) }

-- x may stand behind y in fields that are filled: it is plain, or a tab behind no tab
abbrev pub good_after : ℕ → ℕ → Bool
good_after y x = (eqb x TAB && not (eqb y TAB)) || plain x

-- n bytes stand behind y, each good after the one before it
abbrev pub good_bytes : ℕ → ℕ → List ℕ → Bool
good_bytes zero y s = true
good_bytes (suc n) y [] = false
good_bytes (suc n) y (x ∷ s) = good_after y x && good_bytes n x s

-- so do n bytes of s from a place on
abbrev pub good_from : ℕ → List ℕ → ℕ → Bool
good_from n s place = good_bytes n (byte_at s (place - 1)) (drop place s)

-- whether the field that y belongs to, or that y opens if it is a tab, is filled, and those behind it that the allowed bytes of s make
abbrev pub rest_filled : ℕ → List ℕ → Bool
rest_filled y [] = not (eqb y TAB)
rest_filled y (x ∷ s) = cond (eqb x TAB) (not (eqb y TAB) && rest_filled x s) (cond (plain x) (rest_filled x s) (not (eqb y TAB)))

-- the fields of what is left behind y from a place on, behind others that are filled or not
abbrev pub rest_from : Bool → ℕ → ℕ → List ℕ → Fields
rest_from others y place s = record { end = place + allowed_run s; filled = others && rest_filled y s }

-- the fields of s from a place on, which the byte before it may belong to
abbrev pub fields_at : List ℕ → ℕ → Fields
fields_at s place = rest_from true (byte_at s (place - 1)) place (drop place s)

-- the rule of a content, by its length and whether all its fields are filled
abbrev pub content_fits : ℕ → Bool → Bool
content_fits long filled = leb 1 long && (leb long CONTENT && filled)

-- ---- the parts of a line

-- the numbers that the first two parts write, and the content's place
abbrev pub good_parts : List ℕ → Parts
good_parts l =
    record {
      number = number_in (number_part l);
      parent = number_in (parent_part l);
      start = length (number_part l) + 1 + length (parent_part l) + 1;
      end = length l;
      filled = every filled (fields (content_part l));
    }

-- the fault of its bytes or tabs, or its parts
abbrev pub parts_of : List ℕ → Result Parts Fault
parts_of l =
    cond (not (every allowed l)) (Err ByteNotAllowed) (cond (ltb (count TAB l) 2) (Err FewTabs) (Ok (good_parts l)))
