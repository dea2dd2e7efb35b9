use Rattle.std.proofs.Common.{ap, arith, get_or, length}
use Rattle.mvt_wire.specs.Varint.{short}
use Rattle.mvt_wire.proofs.PackedLemmas.{length_step, short_most_small}
use Rattle.mvt_wire.proofs.ShortLemmas.{short_length_one}
use Rattle.mvt_wire.proofs.packed.packed_len.Goals as goal
use Rattle.mvt_wire.proofs.packed.packed_len.Goals.{then-number, else-number}

pub loop-number-preserved : goal.loop-number-preserved
loop-number-preserved c =
    let ns = c.args.numbers.now in
    let i = c.loop-number.number-index in
    let inv = c.loop-number.invariant in
    let step = length_step ns i c.loop-number-test.true in
    elim c.if-number.branch [
      | then-number w ↦
          let here = ap (λ n. length (short n)) w.from.ensures in
          let fits = c.type_inv.numbers i in
          let most = short_most_small (get_or ns i 0) (omega (arith, fits)) in
          record {
            sum = omega (arith, step, here, inv.sum, w.len-is, w.varint_len.ensures.len, w.varint_len.ensures.some);
            fits = omega (arith, here, most, inv.fits, w.len-is, w.varint_len.ensures.len);
          }
      | else-number w ↦
          let one = short_length_one (get_or ns i 0) w.if-number.false in
          record {
            sum = omega (arith, step, one, inv.sum, w.len-is);
            fits = omega (arith, inv.fits, w.len-is);
          }
    ]
