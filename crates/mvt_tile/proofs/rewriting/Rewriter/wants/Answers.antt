use Rattle.std.proofs.Common.{◌∙◌}
use Rattle.mvt_message.specs.ItemRules.{payload_names}
use Rattle.mvt_message.proofs.MessageLaws.{item_names}
use Rattle.mvt_tile.proofs.WantedLemmas.{name_is_text, wants_name, wants_nothing}
use Rattle.mvt_tile.proofs.rewriting.Rewriter.wants.Goals as goal

pub returns-in_default-name_in : goal.returns-in_default-name_in
returns-in_default-name_in c = λ item is valid.
    rw c.in-Some.is
    (wants_nothing c.in-Some.names.keys (payload_names c.args.payload.now) item c.in_default-name_in.ensures
    (item_names c.args.payload.now item is))

pub returns-in_ok-from_str-in-Ok : goal.returns-in_ok-from_str-in-Ok
returns-in_ok-from_str-in-Ok c = λ item is valid.
    rw c.in-Some.is
    (wants_name c.in-Some.names.keys (payload_names c.args.payload.now) c.in_ok-from_str-in-Ok.field-0 c.in-Some-name_in.name.now item
    c.holds_name-in-Ok.result c.holds_name-in-Ok.ensures (c.in_ok-from_str-in-Ok.ensures.same ∙ c.in-Ok.ensures.cases.0)
    c.in-Some-name_in.ensures (item_names c.args.payload.now item is))

pub returns-in-Err : goal.returns-in-Err
returns-in-Err c = λ item is valid.
    absurd (c.in-Err.ensures.cases.0 (name_is_text (payload_names c.args.payload.now) c.in-Some-name_in.name.now item
    c.in-Some-name_in.ensures (item_names c.args.payload.now item is) valid))
