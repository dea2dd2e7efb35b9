use Rattle.std.proofs.Common.{length, ap, arith, length-append}
use Rattle.mvt_tile_value.proofs.WritingLemmas.{written, field_of, written_after, encoded_after}
use Rattle.mvt_tile_value.proofs.encoding.encode_payload.Goals as goal

pub returns-then-len-gt-LIMIT : goal.returns-then-len-gt-LIMIT
returns-then-len-gt-LIMIT c = λ items item are is.
    let old = rw c.in-Some.is at are in
    let made = encoded_after items item old.0 is c.in_ok-put_field.ensures.ok in
    omega (arith, ap length made, c.put_field.new.out.ok.0)

pub returns : goal.returns
returns c = λ items item are is.
    let old = rw c.in-Some.is at are in
    let made = encoded_after items item old.0 is c.in_ok-put_field.ensures.ok in
    (made, omega (arith, ap length made, c.put_field.new.out.ok.0))

pub returns-in_default : goal.returns-in_default
returns-in_default c = λ items item are is.
    let old = rw c.in_default.is at are in
    omega (arith, old, ap length (written_after items item), length-append (written items) (field_of item))
