use Rattle.mvt_feature.specs.Forms.{string}
use Rattle.mvt_feature.proofs.FormLemmas.{form_clean, text_broken}
use Rattle.mvt_wire.specs.Field.{bytes}
use Rattle.mvt_feature.proofs.value.text_of.Goals as goal

pub returns-in-Ok-clause-ok : goal.returns-in-Ok-clause-ok
returns-in-Ok-clause-ok c = rw c.in-Len.is (form_clean string (bytes _) c.in-Ok.ensures.cases.1)

pub returns-in-Err-clause-err : goal.returns-in-Err-clause-err
returns-in-Err-clause-err c = rw c.in-Len.is (text_broken _ c.in-Err.ensures.cases.0)
