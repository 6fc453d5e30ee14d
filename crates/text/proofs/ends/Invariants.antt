-- `ends` meets its contract: the ends of what is left go on behind those of the parts passed over. Assumes nothing.
use Rattle.std.proofs.Common.{◌≡◌, ◌+◌, ◌≤◌, length}
use Rattle.rules.specs.Text.{LF, count}
use Rattle.text.proofs.ends.Given as goal

abbrev pub invariant-loop-part : goal.invariant-loop-part
invariant-loop-part l =
    (l.part-iterator.size ≡ 128)
    × (l.count + length l.part-iterator.rest.now ≤ length l.s)
    × (l.count + count LF l.part-iterator.rest.now ≡ count LF l.s)
