use Rattle.std.proofs.Common.{arith, ◌≡◌, ◌+◌, ◌-◌, ◌++◌, drop, ap, to_z-of_z}
use Rattle.std.proofs.lemmas.List.{drop-set}
use Rattle.itoa.proofs.Decimal.{minus_first}
use Rattle.mvt_view.proofs.numbers.put_signed.Goals as goal

pub returns-clause-written : goal.returns-clause-written
returns-clause-written c =
    let w = c.put_digits-start in
    let e : w.result - 1 + 1 ≡ w.result = omega (arith, w.ensures.most) in
    let back = to_z-of_z c.ranges.number in
    rw (drop-set w.new.buffer (w.result - 1) 45 (omega (arith, w.ensures)), e, w.ensures.written, c.unsigned_abs.ensures.value, back)
    (ap (λ xs. xs ++ drop c.args.end c.args.buffer.now) (minus_first c.args.number (rw back at c.if-number-ge0.false)))
