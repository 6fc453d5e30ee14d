-- The proof of `read_files`: one file more in each turn (Filling). Assumes nothing.
use Rattle.demonstration.specs.Files.{buffers, lengths, which_read}
use Rattle.demonstration.proofs.Filling.{Going, Known}
use Rattle.demonstration.proofs.read_files.Given as goal

abbrev pub invariant-loop-t : goal.invariant-loop-t
invariant-loop-t g l = Going (buffers l.files) (lengths l.files) l.t × Known (which_read l.files) l.t
