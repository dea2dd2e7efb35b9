use Rattle.std.proofs.Common.{[], ◌∷◌, ◌++◌, refl, sym, ◌∙◌}
use Rattle.std.proofs.lemmas.Result.{IfErr-weaker, on_ok_weaker}
use Rattle.mvt_base.proofs.ListLemmas.{all_joined}
use Rattle.mvt_message.specs.ValidItems.{ValidItem}
use Rattle.mvt_message.proofs.MessageLaws.{item_names, item_or_fault_clean}
use Rattle.mvt_tile.proofs.JudgeLemmas.{reports_name}
use Rattle.mvt_tile.proofs.walking.Taken.take_item.Goals as goal

pub returns-in-Ok-clause-item : goal.returns-in-Ok-clause-item
returns-in-Ok-clause-item g c = λ input payloads items has.
    let (item, is, valid, named, new) = c.in-Ok.ensures.item input payloads items has.2 in
    on_ok_weaker c.add.result
    (λ added. let fresh = added items item has.0 named in (
      items ++ item ∷ [],
      (fresh.0, all_joined ValidItem items (item ∷ []) has.1 (valid, tt), new),
      (item, refl, is, fresh.1),
    )) c.add.ensures.added

pub returns-in-Ok-clause-fault : goal.returns-in-Ok-clause-fault
returns-in-Ok-clause-fault g c = λ input payloads items has.
    let d = c.args.payload.now in
    let (item, is, valid, named, new) = c.in-Ok.ensures.item input payloads items has.2 in
    IfErr-weaker c.add.result _ _
    (λ e reported. reports_name e _ _ _ d _ _ (item_or_fault_clean d c.args.payload_at c.args.tag_at item is)
    (sym named ∙ item_names d item is)
    (reported items has.0)) c.add.ensures.fault
