-- The proof of `write_done`: what was put, one after the other, is the whole (Shows). Assumes nothing.
use Rattle.demonstration.proofs.Shows.{shows}
use Rattle.demonstration.proofs.write_done.Goals as goal

pub returns : goal.returns
returns c = search shows
