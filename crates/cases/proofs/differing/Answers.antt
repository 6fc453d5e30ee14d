-- `differing` meets its contract: nothing is counted once one of the two has no more. Assumes nothing.
use Rattle.std.proofs.Common.{◌==◌, not, zip, arith}
use Rattle.std.proofs.lemmas.List.Sums.{count_by-le-length}
use Rattle.std.proofs.lemmas.Slice.Zip.{length-zip}
use Rattle.cases.proofs.differing.Goals as goal

pub returns : goal.returns
returns c =
    let a = c.loop-byte.byte-iterator.a.rest.now in
    let b = c.loop-byte.byte-iterator.b.rest.now in
    grind (arith, c.in-None.ensures.steps, length-zip a b, count_by-le-length (λ pair. not (pair.0 == pair.1)) (zip a b))
