use Rattle.std.proofs.Common.{ap, sym, ◌∙◌}
use Rattle.std.proofs.Math.Facts.{Fits-lt-pow}
use Rattle.std.specs.Option.{option_to_list}
use Rattle.mvt_message.proofs.MessageLaws.{item_names, item_or_fault_there, read_items_are_valid}
use Rattle.mvt_tile.proofs.judging.ItemJudgeTileVisitor.visit_item.Goals as goal

pub returns-in_ok-text_of-in-Ok-clause-item : goal.returns-in_ok-text_of-in-Ok-clause-item
returns-in_ok-text_of-in-Ok-clause-item c = λ given payloads items has.
    let d = c.args.payload.now in
    let (item, is) = item_or_fault_there d c.args.payload_at c.args.tag_at c.in-Ok.ensures.ok in
    let named = item_names d item is ∙ sym (ap option_to_list c.in_ok-text_of-in-Ok.ensures ∙ c.in-Ok.ensures.names) in
    (item, is, read_items_are_valid d item (λ k. Fits-lt-pow (c.type_inv.payload k)) is, named, tt)
