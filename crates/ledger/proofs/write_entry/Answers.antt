-- The proof of `write_entry`: what was put, one after the other, is what is wanted (Lines). Assumes nothing.
use Rattle.ledger.proofs.Lines.{entry_put}
use Rattle.ledger.proofs.write_entry.Goals as goal

pub returns : goal.returns
returns c = rw (← c.origin-origin.ensures) (entry_put _ _ _ c.write_field-p.ensures.put c.write_end.ensures)
