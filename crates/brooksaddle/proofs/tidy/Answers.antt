-- The proof of `tidy`: what was read, and what was written of it, is what the call promises (Told). Assumes nothing.
use Rattle.std.proofs.Common.{refl}
use Rattle.brooksaddle.proofs.Told.{tidy_short, tidy_ready, tidy_accepted}
use Rattle.brooksaddle.proofs.tidy.Goals as goal

pub returns-then-buffer-length : goal.returns-then-buffer-length
returns-then-buffer-length c = tidy_short _ _ _ _ c.in-Ok.ensures refl _ c.if-buffer-length.true

pub write_table-requires : goal.write_table-requires
write_table-requires c = tidy_ready _ _ _ _ c.in-Ok.ensures refl _ c.if-buffer-length.false

pub returns : goal.returns
returns c = tidy_accepted _ _ _ _ c.in-Ok.ensures refl _ _ _ refl c.if-buffer-length.false c.write_table.ensures
