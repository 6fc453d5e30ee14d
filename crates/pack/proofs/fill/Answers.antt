-- The proof of `fill`: what the search does not find alone. That there is room is sought, not named, so that where the table is written
-- before this is known the check says what it lacks. Assumes nothing.
use Rattle.std.proofs.Common.{rules}
use Rattle.std.proofs.lemmas.Result.{err_from_is_err_and}
use Rattle.pack.proofs.Packing.{fill_refused, fill-table}
use Rattle.pack.proofs.fill.Goals as goal

pub returns-in_err-room : goal.returns-in_err-room
returns-in_err-room c =
    let p = err_from_is_err_and c.from_residual.result c.from_residual.ensures.1 in
    rw (p.1, p.2) (fill_refused _ _ _ _ _ c.requires.1 _ _ c.in_err-room.field-0.0 c.in_err-room.ensures)

pub write_table-requires : goal.write_table-requires
write_table-requires c = fill-table _ _ _ _ _ c.requires.1 _ c.args.ledger.now (search rules) (search rules)
