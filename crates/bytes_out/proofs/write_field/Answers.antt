-- The proof of `write_field`: what was put, one after the other, is what is wanted (Puts). Assumes nothing.
use Rattle.bytes_out.proofs.Puts.{puts}
use Rattle.bytes_out.proofs.write_field.Goals as goal

pub returns-clause-put : goal.returns-clause-put
returns-clause-put c = search puts
