use Rattle.std.proofs.Common.{arith, ◌-◌, length, drop, length-drop, ◌∙◌}
use Rattle.std.proofs.lemmas.List.{take_all}
use Rattle.mvt_tile_value.proofs.BeginningLemmas.{front_field, front_sound, front_there}
use Rattle.mvt_tile_value.proofs.beginning.first_field.Goals as goal

pub returns-in-Ok-Some : goal.returns-in-Ok-Some
returns-in-Ok-Some c = λ field more fit is.
    let b = c.args.bytes.now in
    let end = c.in-Ok-Some.end in
    let found = front_field b more field (c.in-Ok-Some.field, end) fit is (rw c.in-Ok-Some.field-0-is at c.in-Ok-Some.ensures.next) in
    (found.0, found.1, take_all (length b - end) (drop end b) (omega (arith, length-drop end b)) ∙ found.2)

pub returns-in-Ok-None : goal.returns-in-Ok-None
returns-in-Ok-None c = λ field more fit is.
    absurd (front_there c.args.bytes.now more field is (rw c.in-Ok-None.field-0-is at c.in-Ok-None.ensures.next))

pub returns-in-Err : goal.returns-in-Err
returns-in-Err c = λ field more fit is. absurd (front_sound c.args.bytes.now more field _ fit is c.in-Err.ensures.next)
