-- Lines on which nothing is new, or only a content: nothing else clashes there. k is a table, i a line, n the record on it, v the line's
-- mark, c what was answered of its content. Assumes nothing.
use mathlib.Core.Path.{◌≡◌, refl, sym, ap, ◌∙◌}
use mathlib.Core.Bool.{Bool, false, ◌&&◌}
use mathlib.Core.List.{List}
use Prim.Native.Nat.{ℕ, ◌<◌}
use native.Mathlib.Omega.{arith}
use Rattle.rules.specs.Marks.{START}
use Rattle.std.specs.Prelude.{Option, None}
use Rattle.edits.specs.Least.{place}
use Rattle.edits.specs.Memory.{number_on}
use Rattle.edits.proofs.Unmoved.{no_parents, no_neighbours}
use Rattle.contents.specs.Contents.{fresh_content, content_place}
use Rattle.contents.specs.Memory.{tell}
use Rattle.contents.specs.Marks.{Lined, mark_on, Marked, NoneUnmarked}
use Rattle.contents.proofs.Marking.{marked-alike, marked_none}
use Rattle.clashes.specs.Clashes.{Places, no_clash, clashes_on}

no_place : (a b : Bool) (n : ℕ) → a ≡ false → place (a && b) n ≡ None
no_place a b n e = ap (λ (c : Bool). place (c && b) n) e

module _ (texts lines facts : List (List ℕ)) (k i v : ℕ) (low : number_on facts k i < START) (e : v ≡ mark_on texts lines facts k i) where
  -- only its content is asked for
  pub content_only : (m : ℕ) (c : Option ℕ) → v < 2 → m ≡ number_on facts k i → c ≡ content_place (tell texts lines facts) k m
      → record { content = c; parent = None; neighbour = None } ≡ clashes_on texts lines facts k i
  content_only m c h g f =
      let alike = marked-alike texts lines facts k i v e h in
      λ j. record {
        content = (f ∙ ap (content_place (tell texts lines facts) k) g) j;
        parent = sym (no_parents lines facts k (number_on facts k i) low alike) j;
        neighbour = sym (no_neighbours lines facts k (number_on facts k i) low alike) j;
      }

  pub nothing_new : v ≡ 0 → clashes_on texts lines facts k i ≡ no_clash
  nothing_new h =
      sym (content_only (number_on facts k i) None (omega arith) refl
      (sym (no_place (fresh_content (tell texts lines facts) k (number_on facts k i)) _ _ (marked_none texts lines facts k i v e h))))

-- no kind of place on the lines that have no mark
pub none_unmarked : (texts lines facts : List (List ℕ)) (counts : List ℕ) (marks : List (List ℕ)) → Lined lines facts counts
    → Marked texts lines facts counts marks → (kind : Places → Option ℕ) → kind no_clash ≡ None
    → NoneUnmarked (λ k i. kind (clashes_on texts lines facts k i)) marks counts
none_unmarked texts lines facts counts marks lined marked kind none k i low high few e =
    ap kind (nothing_new texts lines facts k i _ ((lined.tables k high).low i few) ((marked.branches k low high).on i few) e) ∙ none
