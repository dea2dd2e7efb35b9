use Rattle.std.proofs.Common.{Bool, Some, None, ap, sym, ◌∙◌, if◌then◌else◌}
use Rattle.std.specs.Option.{option_and_then}
use Rattle.std.proofs.lemmas.Str.{is_utf8-from_IsUtf8, IsUtf8-from_is_utf8}
use Rattle.std.proofs.lemmas.Bool.{false_from_ne_true}
use Rattle.mvt_rows.specs.TileRows.{utf8_of}
use Rattle.mvt_rows.proofs.writing.parts.text.Goals as goal

pub returns-in-Ok-clause-text : goal.returns-in-Ok-clause-text
returns-in-Ok-clause-text c =
    let bytes = c.in_ok-part.field-0.now in
    ap (option_and_then utf8_of) c.in_ok-part.ensures.part
    ∙ ap (λ (b : Bool). if b then Some bytes else None) (is_utf8-from_IsUtf8 bytes c.in-Ok.ensures.cases.1)
    ∙ ap Some (sym c.in-Ok.ensures.cases.0)

pub returns-in-Err-clause-none : goal.returns-in-Err-clause-none
returns-in-Err-clause-none c =
    let bytes = c.in_ok-part.field-0.now in
    ap (option_and_then utf8_of) c.in_ok-part.ensures.part
    ∙ ap (λ (b : Bool). if b then Some bytes else None) (false_from_ne_true _ (λ e. c.in-Err.ensures.cases.0 (IsUtf8-from_is_utf8 bytes e)))
