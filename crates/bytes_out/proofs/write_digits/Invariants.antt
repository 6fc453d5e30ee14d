-- The proof of `write_digits`: with the digits still to be put, all lie there (Digits). Assumes nothing.
use Rattle.std.proofs.Common.{◌≡◌, ◌-◌}
use Rattle.std.proofs.lemmas.List.Edits.{sets}
use Rattle.rules.specs.Written.{last_digits, digits}
use Rattle.bytes_out.proofs.write_digits.Given as goal

abbrev pub invariant-loop-to : goal.invariant-loop-to
invariant-loop-to l = sets l.out l.at (last_digits (l.to - l.at) l.rest) ≡ sets l.fn.out l.at (digits l.n)
