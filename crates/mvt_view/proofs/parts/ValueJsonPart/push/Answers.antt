use Rattle.std.proofs.Common.{◌∙◌, ap}
use Rattle.serde_json.specs.Data.{boolean, number, string}
use Rattle.serde_json.specs.Find.{of_integer}
use Rattle.mvt_view.specs.JsonForms.{number_json, value_json}
use Rattle.serde_json.specs.Written.{compact_text}
use Rattle.mvt_view.proofs.JsonTexts.{named, bool_begins, double_begins, float_begins, int_begins, sint_begins, string_begins, uint_begins}
use Rattle.mvt_view.proofs.parts.ValueJsonPart.push.Goals as goal

pub returns-in-Text : goal.returns-in-Text
returns-in-Text c =
    named c.push_alone.result _ _ _ _ c.push_alone.ensures
    (ap (λ v. compact_text (value_json v)) c.in-Text.is ∙ string_begins (string c.in-Text.string))

pub returns-in-Float : goal.returns-in-Float
returns-in-Float c =
    named c.push_alone-in-Float.result _ _ _ _ c.push_alone-in-Float.ensures
    (ap (λ v. compact_text (value_json v)) c.in-Float.is ∙ float_begins (number_json c.in-Float.bits))

pub returns-in-Double : goal.returns-in-Double
returns-in-Double c =
    named c.push_alone-in-Double.result _ _ _ _ c.push_alone-in-Double.ensures
    (ap (λ v. compact_text (value_json v)) c.in-Double.is ∙ double_begins (number_json c.in-Double.bits))

pub returns-in-Int : goal.returns-in-Int
returns-in-Int c =
    named c.push_alone-in-Int.result _ _ _ _ c.push_alone-in-Int.ensures
    (ap (λ v. compact_text (value_json v)) c.in-Int.is ∙ int_begins (number (of_integer c.in-Int.number)))

pub returns-in-Uint : goal.returns-in-Uint
returns-in-Uint c =
    named c.push_alone-in-Uint.result _ _ _ _ c.push_alone-in-Uint.ensures
    (ap (λ v. compact_text (value_json v)) c.in-Uint.is ∙ uint_begins (number_json c.in-Uint.number))

pub returns-in-Sint : goal.returns-in-Sint
returns-in-Sint c =
    named c.push_alone-in-Sint.result _ _ _ _ c.push_alone-in-Sint.ensures
    (ap (λ v. compact_text (value_json v)) c.in-Sint.is ∙ sint_begins (number (of_integer c.in-Sint.number)))

pub returns-in-Bool : goal.returns-in-Bool
returns-in-Bool c =
    named c.push_alone-in-Bool.result _ _ _ _ c.push_alone-in-Bool.ensures
    (ap (λ v. compact_text (value_json v)) c.in-Bool.is ∙ bool_begins (boolean c.in-Bool.truth))
