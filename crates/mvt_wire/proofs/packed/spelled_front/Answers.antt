use Rattle.std.proofs.Common.{sym, inl, inr, arith}
use Rattle.std.proofs.lemmas.Bool.Decides.{nat_tests}
use Rattle.mvt_wire.proofs.LongLemmas.{front_short}
use Rattle.mvt_wire.proofs.PackedLemmas.{packed_large, packed_more, packed_none, read_smaller}
use Rattle.mvt_wire.proofs.VarintLemmas.{number_seen}
use Rattle.mvt_wire.proofs.packed.spelled_front.Goals as goal
use Rattle.mvt_wire.proofs.packed.spelled_front.Goals.{then-size-eq1, else-size-eq1}

pub overflow_sub-result : goal.overflow_sub-result
overflow_sub-result c = (number_seen c.args.bytes.now c.in-Ok.number c.in-Ok.size (sym c.in-Ok.ensures.number)).0

pub bounds-bytes-size : goal.bounds-bytes-size
bounds-bytes-size c =
    let seen = number_seen c.args.bytes.now c.in-Ok.number c.in-Ok.size (sym c.in-Ok.ensures.number) in
    omega (arith, seen.0, seen.1)

pub returns-after-size-eq1-clause-number : goal.returns-after-size-eq1-clause-number
returns-after-size-eq1-clause-number c = λ ns are.
    packed_more c.args.bytes.now ns c.in-Ok.number c.in-Ok.size (sym c.in-Ok.ensures.number) c.if-number.false are

pub returns-after-size-eq1-clause-short : goal.returns-after-size-eq1-clause-short
returns-after-size-eq1-clause-short c = λ short.
    let front = front_short c.args.bytes.now c.in-Ok.number c.in-Ok.size (λ k. omega (arith, c.type_inv.bytes k)) (sym c.in-Ok.ensures.number) in
    elim c.if-size-eq1.branch [
      | then-size-eq1 w ↦ front (inl w.if-size-eq1.true)
      | else-size-eq1 w ↦ front (inr (let is = w.result-is in let t = short in grind (arith, nat_tests)))
    ]

pub returns-after-size-eq1-clause-shorter : goal.returns-after-size-eq1-clause-shorter
returns-after-size-eq1-clause-shorter c = read_smaller c.args.bytes.now c.in-Ok.number c.in-Ok.size (sym c.in-Ok.ensures.number)

pub returns-then-number-clause-none : goal.returns-then-number-clause-none
returns-then-number-clause-none c = λ ns are.
    packed_large c.args.bytes.now ns c.in-Ok.number c.in-Ok.size (sym c.in-Ok.ensures.number) c.if-number.true are

pub returns-in-Err-clause-none : goal.returns-in-Err-clause-none
returns-in-Err-clause-none c = λ ns are. packed_none c.args.bytes.now ns _ (sym c.in-Err.ensures.number) are
