use Rattle.mvt_view.proofs.SvgLemmas.{items_more}
use Rattle.mvt_view.proofs.svg.push_items.Goals as goal

pub loop-index-preserved : goal.loop-index-preserved
loop-index-preserved c =
    items_more c.args.items.now c.loop-index.index c.index-items-index.result _ _ _ c.loop-index-test.true
    c.index-items-index.is c.loop-index.invariant c.in_ok-push_item.ensures
