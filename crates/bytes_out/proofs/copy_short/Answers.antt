use Rattle.bytes_out.proofs.Copies.{shorts}
use Rattle.bytes_out.proofs.copy_short.Goals as goal

pub loop-left-preserved : goal.loop-left-preserved
loop-left-preserved c = search shorts
