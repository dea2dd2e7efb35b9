use Rattle.std.proofs.Common.{◌≡◌, ◌<◌, ◌^◌, [], ◌∷◌, ◌++◌, subst, arith}
use Rattle.std.specs.Prelude.{OnOk}
use Rattle.mvt_wire.specs.Packed.{packed}
use Rattle.mvt_wire.proofs.PackedNumbersLemmas.{more_short, more_seen}
use Rattle.mvt_wire.proofs.packed_numbers.PackedNumbers.push.Goals as goal

pub invariant_of-self : goal.invariant_of-self
invariant_of-self c =
    let small : c.from.result < 2 ^ 32 = omega (arith, c.ranges.number.fits, c.from.ensures) in
    let e = c.put_varint.ensures in
    more_short c.put_varint.result c.self.inside.bytes.items c.put_varint.new.out.items c.from.result small c.self.invariant e.ok e.err

pub returns-clause-ok : goal.returns-clause-ok
returns-clause-ok c =
    let small : c.from.result < 2 ^ 32 = omega (arith, c.ranges.number.fits, c.from.ensures) in
    let more =
    more_seen c.put_varint.result c.self.inside.bytes.items c.put_varint.new.out.items c.args.self.now c.from.result small
    c.self.invariant c.self.view_is c.put_varint.ensures.ok in
    subst (λ n. OnOk c.put_varint.result ((packed c.put_varint.new.out.items).numbers ≡ c.args.self.now ++ n ∷ [])) c.from.ensures more
