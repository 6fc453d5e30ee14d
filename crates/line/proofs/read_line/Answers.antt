-- `read_line` meets its contract. Assumes nothing.
use native.Mathlib.Omega.{arith}
use Rattle.std.proofs.Common.{◌≡◌, ◌-◌}
use Rattle.std.proofs.lemmas.Result.{err_from_is_err_and}
use Rattle.line.proofs.Judging.{Numbered, Parented, judges}
use Rattle.line.proofs.read_line.Goals as goal

pub returns-in_err-ok_or : goal.returns-in_err-ok_or
returns-in_err-ok_or c =
    let p = c.in_ok-parts.ensures in
    let n = c.in_err-ok_or.was in
    let f = err_from_is_err_and c.from_residual-in_err-ok_or.result c.from_residual-in_err-ok_or.ensures.1 in
    rw (f.1, f.2) (search judges)

pub returns-then-not-is_record : goal.returns-then-not-is_record
returns-then-not-is_record c = let p = c.in_ok-parts.ensures in let n = c.in_ok-ok_or.was in search judges

pub returns-in_err-ok_or-2 : goal.returns-in_err-ok_or-2
returns-in_err-ok_or-2 c =
    let p = c.in_ok-parts.ensures in
    let n = c.in_ok-ok_or.was in
    let m = c.in_err-ok_or-2.was in
    let a : Numbered c.args.rest.now c.in_ok-parts.parts c.in_ok-ok_or.field-0 = search judges in
    let f = err_from_is_err_and c.from_residual-in_err-ok_or-2.result c.from_residual-in_err-ok_or-2.ensures.1 in
    rw (f.1, f.2) (search judges)

pub returns-then-not-content_fits : goal.returns-then-not-content_fits
returns-then-not-content_fits c =
    let p = c.in_ok-parts.ensures in
    let n = c.in_ok-ok_or.was in
    let m = c.in_ok-ok_or-2.was in
    let d : c.saturating_sub-length.result ≡ c.in_ok-parts.parts.end - c.in_ok-parts.parts.start = omega arith in
    let a : Parented c.args.rest.now c.in_ok-parts.parts c.in_ok-ok_or.field-0 c.in_ok-ok_or-2.field-0 = search judges in
    search judges

pub returns : goal.returns
returns c =
    let p = c.in_ok-parts.ensures in
    let n = c.in_ok-ok_or.was in
    let m = c.in_ok-ok_or-2.was in
    let d : c.saturating_sub-length.result ≡ c.in_ok-parts.parts.end - c.in_ok-parts.parts.start = omega arith in
    search judges
