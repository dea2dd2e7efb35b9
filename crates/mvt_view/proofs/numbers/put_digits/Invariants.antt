use Rattle.std.proofs.Common.{◌≡◌, ◌≤◌, ◌+◌, ◌++◌, length, drop}
use Rattle.std.specs.Fmt.{decimal}
use Rattle.mvt_view.proofs.numbers.put_digits.Given as goal

abbrev pub invariant-loop-left : goal.invariant-loop-left
invariant-loop-left l =
    (l.left ≤ l.number) × (l.at ≤ l.end) × (l.at + length (decimal l.number) ≡ l.end + length (decimal l.left))
    × (length l.buffer ≡ length l.initial.buffer)
    × (decimal l.left ++ drop l.at l.buffer ≡ decimal l.number ++ drop l.end l.initial.buffer)

abbrev pub decreases-loop-left : goal.decreases-loop-left
decreases-loop-left l = l.left
