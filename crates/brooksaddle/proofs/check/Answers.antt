-- The proof of `check`: what reading told, and the greatest depth, are what the call promises (Told). Assumes nothing.
use Rattle.std.proofs.Common.{refl}
use Rattle.brooksaddle.proofs.Told.{check_climbs, check_accepted}
use Rattle.brooksaddle.proofs.check.Goals as goal

pub deepest-requires : goal.deepest-requires
deepest-requires c = check_climbs _ _ _ _ c.in-Ok.ensures refl

pub returns-in-Ok : goal.returns-in-Ok
returns-in-Ok c = check_accepted _ _ _ _ c.in-Ok.ensures refl _ _ _ refl refl c.deepest.ensures
