-- The proof of `two_parents`: the first branch that claims the record is asked for its parent. Assumes nothing.
use Rattle.std.proofs.Common.{rules, ap, ◌∙◌, ◌≡◌, true, not, ℕ}
use lib.Dec.{eqb}
use Rattle.facts.specs.Asked.{Asked}
use Rattle.facts.specs.Inputs.{lines_of, facts_of}
use Rattle.edits.specs.Memory.{ask}
use Rattle.edits.specs.Positions.{claims, parent_source}
use Rattle.edits.proofs.Ways.{and_then}
use Rattle.edits.proofs.clash.two_parents.Goals as goal

pub returns : goal.returns
returns c =
    let n = c.args.n.number in
    let q : ℕ → Asked = ask (lines_of c.args.inputs.now) (facts_of c.args.inputs.now) in
    let first = c.first_branch-first.ensures (λ k. claims q k n) (λ k y h. search rules) in
    let here : c.claims.result ≡ true = search rules in
    let differ : c.ne.result ≡ not (eqb c.parent_in.result.number c.parent_in-2.result.number) = search rules in
    let own = c.parent_in.ensures in
    let its : c.parent_in-2.result.number ≡ (q (parent_source q n)).up n = c.parent_in-2.ensures ∙ ap (λ (k : ℕ). (q k).up n) first in
    and_then (claims q c.args.t.index n) (not (eqb ((q c.args.t.index).up n) ((q (parent_source q n)).up n))) c.claims.result c.ne.result
    c.claims.ensures here (differ ∙ (λ i. not (eqb (own i) (its i))))
