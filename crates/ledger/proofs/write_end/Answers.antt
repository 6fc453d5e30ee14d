-- The proof of `write_end`: what was put, one after the other, is what is wanted (Lines). Assumes nothing.
use Rattle.ledger.proofs.Lines.{end-put}
use Rattle.ledger.proofs.write_end.Goals as goal

pub returns : goal.returns
returns c = end-put _ _ c.write_field-p.ensures.put c.write_digits-q.ensures.put
