use Rattle.std.proofs.Common.{◌≡◌, ◌-◌, ap, arith, length, take, subst, ◌∙◌}
use Rattle.std.proofs.Math.Seq.{take-length}
use Rattle.mvt_wire.specs.Field.{IsFieldAt, entry_of}
use Rattle.mvt_feature.proofs.KindLemmas.{only_meant}
use Rattle.mvt_feature.proofs.value.only_field.Goals as goal

pub returns-in-Ok : goal.returns-in-Ok
returns-in-Ok c =
    let payload = c.args.payload.now in
    let x = entry_of c.in-Ok-Some.field in
    let next = rw c.in-Ok-Some.field-0-is at c.in-Ok-Some.ensures.next in
    let size : c.in-Ok-Some.after - 0 ≡ length payload = omega (arith, c.if-after-payload.false) in
    let whole : take (c.in-Ok-Some.after - 0) payload ≡ payload = ap (λ n. take n payload) size ∙ take-length payload in
    only_meant payload x c.in-Ok.meaning (subst (λ b. IsFieldAt 0 b x) whole next.2) c.in-Ok.ensures.ok c.in-Ok.ensures.means
