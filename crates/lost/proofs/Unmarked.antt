-- Lines on which nothing is new, or only a content: no edit of a position is lost there. k is a table, i a line, n the record on it, v the
-- line's mark, c what was answered of its content. Assumes nothing.
use mathlib.Core.Path.{◌≡◌, refl, sym, ap, ◌∙◌}
use mathlib.Core.Bool.{Bool, false, not, ◌&&◌, and-false}
use mathlib.Core.List.{List}
use Prim.Native.Nat.{ℕ, ◌<◌}
use native.Mathlib.Omega.{arith}
use lib.Dec.{eqb}
use Rattle.std.specs.Prelude.{Option, None}
use Rattle.rules.specs.Marks.{START}
use Rattle.facts.specs.Asked.{Asked, asked}
use Rattle.edits.specs.Least.{place, lesser}
use Rattle.edits.specs.Memory.{ask, number_on}
use Rattle.edits.specs.Positions.{fresh_after}
use Rattle.edits.proofs.Unmoved.{none_behind, none_first}
use Rattle.contents.specs.Contents.{Told, fresh_content}
use Rattle.contents.specs.Memory.{tell}
use Rattle.contents.specs.Marks.{Lined, mark_on, Marked, NoneUnmarked}
use Rattle.contents.proofs.Marking.{marked-alike, marked_none}
use Rattle.lost.specs.Lost.{lost_after, lost_position, lost_content, lost_on}

not_after : (q : ℕ → Asked) (m : Asked) (k r p : ℕ) → fresh_after q k r p ≡ false → lost_after q m k r p ≡ false
not_after q m k r p e = ap (λ (b : Bool). b && not (eqb ((q k).after r p) (m.after r p))) e

no_content : (w : ℕ → Told) (has : ℕ → Bool) (k n : ℕ) → fresh_content w k n ≡ false → lost_content w has k n ≡ None
no_content w has k n e = ap (λ (b : Bool). place (not (has n) && b) n) e ∙ ap (λ (b : Bool). place b n) (and-false (not (has n)))

module _ (texts lines facts : List (List ℕ)) (ls fs : List ℕ) (k i v : ℕ) (low : number_on facts k i < START)
    (e : v ≡ mark_on texts lines facts k i) where
  abbrev n : ℕ
  n = number_on facts k i

  abbrev q : ℕ → Asked
  q = ask lines facts

  abbrev m : Asked
  m = asked ls fs

  no_position : v < 2 → lost_position q m k n ≡ None
  no_position h =
      let alike = marked-alike texts lines facts k i v e h in
      let r = (q k).up n in
      λ j. lesser (place (not_after q m k r n (none_behind lines facts k n low alike r) j) r)
      (place (not_after q m k n START (none_first lines facts k n low alike) j) n)

  -- only its content is asked for
  pub content_only : (l : ℕ) (c : Option ℕ) → v < 2 → l ≡ number_on facts k i → c ≡ lost_content (tell texts lines facts) m.has k l
      → c ≡ lost_on texts lines facts ls fs k i
  content_only l c h g f =
      let content = lost_content (tell texts lines facts) m.has k n in
      f ∙ ap (lost_content (tell texts lines facts) m.has k) g ∙ ap (λ (x : Option ℕ). lesser x content) (sym (no_position h))

  pub nothing_new : v ≡ 0 → lost_on texts lines facts ls fs k i ≡ None
  nothing_new h =
      sym (content_only n None (omega arith) refl
      (sym (no_content (tell texts lines facts) m.has k n (marked_none texts lines facts k i v e h))))

-- no place on the lines that have no mark
pub none_unmarked : (texts lines facts : List (List ℕ)) (ls fs counts : List ℕ) (marks : List (List ℕ)) → Lined lines facts counts
    → Marked texts lines facts counts marks → NoneUnmarked (lost_on texts lines facts ls fs) marks counts
none_unmarked texts lines facts ls fs counts marks lined marked k i low high few e =
    nothing_new texts lines facts ls fs k i _ ((lined.tables k high).low i few) ((marked.branches k low high).on i few) e
