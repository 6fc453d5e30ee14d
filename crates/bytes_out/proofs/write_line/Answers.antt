-- The proof of `write_line`: what was put, one after the other, is what is wanted (Puts). Assumes nothing.
use Rattle.bytes_out.proofs.Puts.{puts}
use Rattle.bytes_out.proofs.write_line.Goals as goal

pub returns : goal.returns
returns c = search puts
