-- The proof of `write_numbers`: what was put, one after the other, is the line (Shows). Assumes nothing.
use Rattle.demonstration.proofs.Shows.{shows}
use Rattle.demonstration.proofs.write_numbers.Goals as goal

pub returns : goal.returns
returns c = search shows
