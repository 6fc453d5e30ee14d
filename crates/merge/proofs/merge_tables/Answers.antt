-- The proof of `merge_tables`: marked, judged, then refused or packed (Merging). Assumes nothing.
use Rattle.std.proofs.Common.{List, ℕ, subst}
use Rattle.facts.specs.Table.{lines_in, facts_in}
use Rattle.facts.specs.Inputs.{texts_of, lines_of, facts_of, counts_of}
use Rattle.pack.specs.Packed.{Packs}
use Rattle.merge.proofs.Merging.{ready_few, ready_lined, merge_refused, pack_ready, merge-packed}
use Rattle.merge.proofs.merge_tables.Goals as goal

pub mark_branches-requires-clause-lined : goal.mark_branches-requires-clause-lined
mark_branches-requires-clause-lined c =
    let i = c.args.inputs.now in
    ready_lined (texts_of i) (lines_of i) (facts_of i) (counts_of i) c.requires

pub judge-requires-clause-few : goal.judge-requires-clause-few
judge-requires-clause-few c =
    let i = c.args.inputs.now in
    ready_few (texts_of i) (lines_of i) (facts_of i) (counts_of i) c.requires

pub judge-requires-clause-lined : goal.judge-requires-clause-lined
judge-requires-clause-lined c =
    let i = c.args.inputs.now in
    ready_lined (texts_of i) (lines_of i) (facts_of i) (counts_of i) c.requires

pub pack-requires : goal.pack-requires
pack-requires c =
    let i = c.args.inputs.now in
    rw c.texts-texts.ensures.value (pack_ready (texts_of i) (lines_of i) (facts_of i) (counts_of i)
    (lines_in c.judge.new.merged) (facts_in c.judge.new.merged) c.in-Ok.count c.in-Ok.ensures.judges c.in-Ok.ensures.count_bound c.requires)

pub returns-in-Ok : goal.returns-in-Ok
returns-in-Ok c =
    let i = c.args.inputs.now in
    merge-packed (texts_of i) (lines_of i) (facts_of i) (counts_of i)
    (lines_in c.judge.new.merged) (facts_in c.judge.new.merged) c.in-Ok.count c.in-Ok.ensures.judges c.in-Ok.ensures.count_bound
    c.args.table.now c.args.ledger.now c.pack.result c.pack.new.out_table c.pack.new.ledger
    (subst (λ (ts : List (List ℕ)). Packs ts (lines_in c.judge.new.merged) (facts_in c.judge.new.merged) c.in-Ok.count
    c.args.table.now c.args.ledger.now c.pack.result c.pack.new.out_table c.pack.new.ledger) c.texts-texts.ensures.value c.pack.ensures)

pub returns-in-Err : goal.returns-in-Err
returns-in-Err c =
    let i = c.args.inputs.now in
    rw (c.refused.ensures, c.from.ensures) (merge_refused (texts_of i) (lines_of i) (facts_of i) (counts_of i)
    (lines_in c.judge.new.merged) (facts_in c.judge.new.merged) c.args.table.now c.args.ledger.now c.in-Err.why c.in-Err.ensures.judges)
