use Rattle.std.proofs.Common.{arith, vec_len, vec_capacity}
use Rattle.std.proofs.lemmas.Bool.{false≢true}
use Rattle.mvt_wire.proofs.PackedLemmas.{never_full}
use Rattle.mvt_wire.proofs.packed.put_packed_bytes.Goals as goal

pub returns-in_err-put_varint-3-clause-err : goal.returns-in_err-put_varint-3-clause-err
returns-in_err-put_varint-3-clause-err c =
    let l = c.loop-number in
    let room = never_full c.reserve.new.self.items l.out.items c.args.numbers.now l.number-index c.from-in-loop-number.result
    (vec_capacity c.reserve.new.self) (vec_capacity l.out) c.packed_len-len.result (vec_len c.reserve.new.self) (vec_len l.out)
    c.loop-number-test.true c.from-in-loop-number.ensures l.invariant.items (omega (arith, c.reserve.new.self.ok.0))
    (omega (arith, l.out.ok.0)) c.packed_len-len.ensures
    c.in_ok-reserve.ensures.ok l.invariant.capacity in
    absurd (false≢true (c.in_err-put_varint-3.ensures.room room))

pub returns-in_err-put_varint-3-clause-room : goal.returns-in_err-put_varint-3-clause-room
returns-in_err-put_varint-3-clause-room c =
    let l = c.loop-number in
    let room = never_full c.reserve.new.self.items l.out.items c.args.numbers.now l.number-index c.from-in-loop-number.result
    (vec_capacity c.reserve.new.self) (vec_capacity l.out) c.packed_len-len.result (vec_len c.reserve.new.self) (vec_len l.out)
    c.loop-number-test.true c.from-in-loop-number.ensures l.invariant.items (omega (arith, c.reserve.new.self.ok.0))
    (omega (arith, l.out.ok.0)) c.packed_len-len.ensures
    c.in_ok-reserve.ensures.ok l.invariant.capacity in
    absurd (false≢true (c.in_err-put_varint-3.ensures.room room))
