-- What each question answers, way by way through its code: the premises are what the code has tested and read. texts, lines and facts
-- are those of all tables, n is a record, t and k are tables; v, z are answers. Assumes nothing.
use mathlib.Core.Path.{◌≡◌, sym, ap, ◌∙◌}
use mathlib.Core.Bool.{Bool, true, false, not, ◌&&◌}
use mathlib.Core.List.{List, []}
use Prim.Native.Nat.{ℕ, ◌+◌, ◌*◌, ◌<◌}
use lib.ListN.{get_or}
use borrow.Author.Rules.{rules}
use Rattle.rules.specs.Facts.{same_content}
use Rattle.facts.specs.Memory.{TABLES, PLACE, LENGTH, SPAN, TEXTS, start_of, line_at, field}
use Rattle.edits.specs.Branches.{first_branch, sum_branches}
use Rattle.trees.proofs.Lists.{is_true}
use Rattle.contents.specs.Contents.{Told, fresh_content, content_source, two_contents, content_origin}
use Rattle.contents.specs.Memory.{content_on, tell, source_of, kept_place, kept_length}
use Rattle.contents.specs.Marks.{edited_in, Noted}
use Rattle.contents.proofs.Comparing.{equal_same}
use Rattle.contents.proofs.Sources.{first-same, sum_same}

-- ---- what a record holds

module _ (texts lines facts : List (List ℕ)) (t n : ℕ) where
  pub content-line : (c : List ℕ) (l : ℕ) → l ≡ line_at (get_or lines t []) n → c ≡ content_on texts facts t l
      → c ≡ (tell texts lines facts t).content n
  content-line c l e h = h ∙ ap (content_on texts facts t) e

pub ruleset tells = (content-line, rules)

-- ---- two tests

-- the second is asked only where the first passed
pub then_not : (a b y z : Bool) → y ≡ a → y ≡ true → z ≡ b → not z ≡ (a && not b)
then_not a b y z e t f = rw (← e, t, f)

-- ---- a clash

-- what is marked as an edit is one
module _ (texts lines facts marks : List (List ℕ)) (o : Noted texts lines facts marks) (n : ℕ) where
  abbrev told : ℕ → Told
  told = tell texts lines facts

  abbrev test : ℕ → Bool
  test k = edited_in lines marks k n

  pub noted_source : first_branch test ≡ content_source told n
  noted_source = first-same test (λ k. fresh_content told k n) (λ k l h. o.edits k l h n)

  pub noted_origin : sum_branches test ≡ content_origin told n
  noted_origin = sum_same test (λ k. fresh_content told k n) (λ k l h. o.edits k l h n)

  module _ (t : ℕ) (low : 0 < t) (high : t < TABLES) (y : Bool) (e : y ≡ edited_in lines marks t n) where
    edit : y ≡ fresh_content told t n
    edit = e ∙ o.edits t low high n

    pub two-asked : (k : ℕ) (z : Bool) → y ≡ true → k ≡ first_branch test
        → z ≡ same_content ((told t).content n) ((told k).content n) → not z ≡ two_contents told t n
    two-asked k z f s h =
        then_not (fresh_content told t n) (same_content ((told t).content n) ((told (content_source told n)).content n)) y z edit f
        (h ∙ ap (λ (j : ℕ). same_content ((told t).content n) ((told j).content n)) (s ∙ noted_source))

    -- the first branch's own edit
    pub two-first : (k : ℕ) → y ≡ true → k ≡ first_branch test → k ≡ t → false ≡ two_contents told t n
    two-first k f s q =
        two-asked k true f s
        (sym (is_true _ (equal_same ((told t).content n) ((told k).content n) (ap (λ (j : ℕ). (told j).content n) (sym q)))))

-- ---- where the kept content lies

module _ (texts lines facts marks : List (List ℕ)) (n k : ℕ) (o : Noted texts lines facts marks)
    (e : k ≡ first_branch (λ j. edited_in lines marks j n)) where
  s : k ≡ source_of texts lines facts n
  s = e ∙ noted_source texts lines facts marks o n

  pub kept-place : (sum start : ℕ) → sum ≡ sum_branches (λ j. edited_in lines marks j n)
      → start ≡ field (get_or lines k []) (get_or facts k []) n PLACE
      → (sum * TEXTS + k) * SPAN + start_of start ≡ kept_place texts lines facts n
  kept-place sum start f g =
      (λ i. ((f ∙ noted_origin texts lines facts marks o n) i * TEXTS + s i) * SPAN + start_of (g i))
      ∙ ap (λ (j : ℕ). (content_origin (tell texts lines facts) n * TEXTS + source_of texts lines facts n) * SPAN
      + start_of (field (get_or lines j []) (get_or facts j []) n PLACE)) s

  pub kept-length : (long : ℕ) → long ≡ field (get_or lines k []) (get_or facts k []) n LENGTH → long ≡ kept_length texts lines facts n
  kept-length long g = g ∙ ap (λ (j : ℕ). field (get_or lines j []) (get_or facts j []) n LENGTH) s

pub ruleset keeps = (kept-place, kept-length, rules)
