use Rattle.std.proofs.Common.{List, ap, sym, ◌∙◌}
use Rattle.mvt_wire.specs.Field.{Entry}
use Rattle.mvt_wire.specs.Split.{split}
use Rattle.mvt_mend.proofs.FieldsLemmas.{kind_from, kind_of_all}
use Rattle.mvt_mend.proofs.features.kind_of.Goals as goal

pub returns : goal.returns
returns c =
    sym (ap (λ (xs : List Entry). kind_from c.loop-field.kind xs) c.in-None.ensures.steps.0.0) ∙ c.loop-field.invariant
    ∙ kind_of_all (split c.args.payload.now).fields
