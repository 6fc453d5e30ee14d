use Rattle.std.proofs.Common.{refl, arith}
use Rattle.depth.proofs.Climbs.{noted_none}
use Rattle.depth.proofs.deepest.Goals as goal

pub loop-l-init : goal.loop-l-init
loop-l-init c = record { within = omega arith; greatest = refl; noted = noted_none _ _ }
