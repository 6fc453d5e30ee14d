-- `differing` meets its contract: what is left of the two goes on behind what was passed over. Assumes nothing.
use Rattle.std.proofs.Common.{◌≡◌, ◌==◌, not, count_by, zip, ◌+◌, ◌≤◌, length}
use Rattle.cases.proofs.differing.Given as goal

abbrev pub invariant-loop-byte : goal.invariant-loop-byte
invariant-loop-byte l =
    (l.count + length l.byte-iterator.a.rest.now ≤ length l.buffer)
    × (l.count + count_by (λ pair. not (pair.0 == pair.1)) (zip l.byte-iterator.a.rest.now l.byte-iterator.b.rest.now)
    ≡ count_by (λ pair. not (pair.0 == pair.1)) (zip l.buffer l.expected))
