-- `plain_run` meets its contract. Assumes nothing.
use Rattle.std.proofs.Common.{rules, ◌∙◌}
use Rattle.std.proofs.lemmas.Iterator.{YieldsList-from_slice}
use Rattle.std.proofs.lemmas.Iterator.Consumers.{count_from_yields_List}
use Rattle.std.proofs.lemmas.Iterator.Search.{YieldsList-from_take_while}
use Rattle.std.proofs.lemmas.List.Folds.{length-prefix_len}
use Rattle.text.specs.Reads.{plain}
use Rattle.text.proofs.Runs.{run_prefix}
use Rattle.text.proofs.plain_run.Goals as goal

pub returns : goal.returns
returns c =
    let s = c.args.s.now in
    count_from_yields_List c.take_while.result _ c.count.ensures.ran
    (YieldsList-from_take_while _ plain (YieldsList-from_slice s (cc)) (cc) (cc) (λ x b q k. search rules))
    ∙ length-prefix_len plain s
    ∙ run_prefix s
