-- The line of a record, made with the part of a text that its place tells. texts are the texts, ls and fs the two arrays, r is a parent, n
-- a record. Assumes nothing.
use mathlib.Core.Path.{◌≡◌, sym, ap, ◌∙◌, subst}
use mathlib.Core.List.{List}
use Prim.Native.Nat.{ℕ, ◌+◌, ◌≤◌}
use native.Mathlib.Omega.{arith}
use lib.ListN.{length, drop, length-drop}
use lib.Seq.{length-take-le}
use borrow.Author.Rules.{rules}
use Rattle.rules.specs.Lists.{◌∈◌}
use Rattle.rules.specs.Line.{Row}
use Rattle.rules.specs.Written.{width, line}
use Rattle.readback.proofs.ReadBack.{line-length}
use Rattle.facts.specs.Memory.{PLACE, LENGTH, start_of, field}
use Rattle.bytes_out.specs.Put.{Put}
use Rattle.write.specs.Stored.{text_at, part_in, content_at, Stored}
use Rattle.write.specs.Writing.{row_at}

-- ---- the record's line

module _ (texts : List (List ℕ)) (ls fs : List ℕ) (r n place long : ℕ) (p : place ≡ field ls fs n PLACE)
    (k : long ≡ field ls fs n LENGTH) where
  module _ (content : List ℕ) (e : content ≡ part_in texts place long) where
    is : content ≡ content_at texts ls fs n
    is = rw (e, p, k)

    pub row_room : (at room : ℕ) → at + length (line (row_at texts ls fs r n)) ≤ room
        → at + (length content + (3 + width n + width r)) ≤ room
    row_room at room h = omega (arith, ap length is, line-length (row_at texts ls fs r n))

    pub row_put : {o o' : List ℕ} {at next : ℕ} → Put o o' at next (line (record { number = n; parent = r; content = content }))
        → Put o o' at next (line (row_at texts ls fs r n))
    row_put {o} {o'} {at} {next} w = subst (λ (c : List ℕ). Put o o' at next (line (record { number = n; parent = r; content = c }))) is w

pub ruleset rowings = (row_room, row_put, rules)

-- ---- a stored table

-- a record's content is as long as its line says
pub stored_length : (texts : List (List ℕ)) (ls fs : List ℕ) (t : List Row) → Stored texts ls fs t → (x : Row) → x ∈ t
    → field ls fs x.number LENGTH ≡ length x.content
stored_length texts ls fs t s x m =
    let place = field ls fs x.number PLACE in
    let long = field ls fs x.number LENGTH in
    let rest = drop (start_of place) (text_at texts place) in
    let left : long ≤ length rest = omega (arith, (s.lies x m).within, length-drop (start_of place) (text_at texts place)) in
    sym (ap length (s.contents x m) ∙ length-take-le long rest left)
