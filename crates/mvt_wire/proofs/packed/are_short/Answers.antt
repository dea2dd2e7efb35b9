use Rattle.std.proofs.Common.{◌≤◌, length, arith}
use Rattle.std.proofs.lemmas.Bool.{not-true}
use Rattle.mvt_wire.proofs.LongLemmas.{packed_short}
use Rattle.mvt_wire.proofs.packed.are_short.Goals as goal

pub returns : goal.returns
returns c = λ short numbers are.
    let within : length c.args.bytes.now ≤ c.loop-i.i = c.loop-i-test.false in
    packed_short c.args.bytes.now numbers (λ k. omega (arith, c.type_inv.bytes k))
    (λ k lt on. c.loop-i.invariant (not-true c.loop-i.is_long short) k (omega (arith, within, lt)) on) are
