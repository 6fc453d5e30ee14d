-- The proof of `two_neighbours`: the first branch is asked as this one is. Assumes nothing.
use Rattle.std.proofs.Common.{rules, ◌∙◌, ◌≡◌, true, not}
use lib.Dec.{eqb}
use Rattle.edits.specs.Positions.{fresh}
use Rattle.edits.proofs.Ways.{first_differs, not_new}
use Rattle.edits.proofs.clash.two_neighbours.Goals as goal

pub returns-then-not-fresh : goal.returns-then-not-fresh
returns-then-not-fresh g c v h =
    not_new (v 0) (v c.args.t.index) _ c.neighbour-o.result.number c.neighbour-s.result.number c.fresh.result
    (h _ _ c.neighbour-o.ensures) (h _ _ c.neighbour-s.ensures) c.fresh.ensures (search rules)

pub returns : goal.returns
returns g c v h =
    let o = c.neighbour-o.result.number in
    let s = c.neighbour-s.result.number in
    let new : c.fresh.result ≡ true = search rules in
    let ne : c.ne.result ≡ not (eqb s c.neighbour.result.number) = search rules in
    ne ∙ first_differs v o c.args.t.index s c.first_branch-first.result.index c.neighbour.result.number c.fresh.result
    (h _ _ c.neighbour-o.ensures) (h _ _ c.neighbour-s.ensures) c.fresh.ensures new
    (c.first_branch-first.ensures (λ j. fresh o (v j)) (λ t y p. search rules)) (h _ _ c.neighbour.ensures)
