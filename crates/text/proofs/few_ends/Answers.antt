-- `few_ends` meets its contract. Assumes nothing.
use Rattle.std.proofs.Common.{arith}
use Rattle.std.proofs.lemmas.Grind.{common_steps}
use Rattle.text.proofs.Endings.{counted}
use Rattle.text.proofs.few_ends.Goals as goal

pub returns : goal.returns
returns c = grind (arith, common_steps, counted c.args.s.now)
