-- The proof of `least_clashes`: a kind at a time, and nothing clashes where nothing is new (Unmarked). Assumes nothing.
use Rattle.std.proofs.Common.{refl, rules, ℕ}
use Rattle.facts.specs.Inputs.{texts_of, lines_of, facts_of, counts_of}
use Rattle.edits.specs.Least.{numbered}
use Rattle.contents.specs.Marks.{marks_of}
use Rattle.clashes.specs.Clashes.{Places, clashes_on}
use Rattle.clashes.proofs.Unmarked.{none_unmarked}
use Rattle.clashes.proofs.least_clashes.Goals as goal

pub returns : goal.returns
returns c =
    let m = c.args.marked in
    let n = m.news.inputs.now in
    let on : ℕ → ℕ → Places = clashes_on (texts_of n) (lines_of n) (facts_of n) in
    let none = none_unmarked (texts_of n) (lines_of n) (facts_of n) (counts_of n) (marks_of m.news.marks.now) m.lined m.marked in
    λ j. record {
      content =
          c.fold.ensures (λ a. numbered a.content) (λ k i. (on k i).content) refl (λ a t l b h. search rules)
          (none (λ p. p.content) refl) j;
      parent =
          c.fold.ensures (λ a. numbered a.parent) (λ k i. (on k i).parent) refl (λ a t l b h. search rules)
          (none (λ p. p.parent) refl) j;
      neighbour =
          c.fold.ensures (λ a. numbered a.neighbour) (λ k i. (on k i).neighbour) refl (λ a t l b h. search rules)
          (none (λ p. p.neighbour) refl) j;
    }
