-- The proof of `content`: the part that is cut out is the part that was told, and lies in the text. Assumes nothing.
use Rattle.std.proofs.Common.{refl, arith}
use Rattle.brooksaddle.proofs.Told.{part_in_lem, hands_back}
use Rattle.brooksaddle.proofs.content.Goals as goal

pub overflow_add-end : goal.overflow_add-end
overflow_add-end c =
    let s = c.args in
    let within = part_in_lem s.text.now s.number _ c.content_part-part.ensures in
    record { fits = omega (arith, within) }

pub slice_bounds-result-end : goal.slice_bounds-result-end
slice_bounds-result-end c =
    let s = c.args in
    part_in_lem s.text.now s.number _ c.content_part-part.ensures

pub returns : goal.returns
returns c =
    let s = c.args in
    hands_back s.text _ s.number _ c.content_part-part.ensures refl refl refl
