use Rattle.std.proofs.Common.{[], ◌∷◌, sym, subst}
use Rattle.std.specs.List.{AllByRecursion}
use Rattle.mvt_base.proofs.ListLemmas.{all_joined}
use Rattle.mvt_feature.specs.Valid.{ValidValue}
use Rattle.mvt_rows.specs.TileRows.{value_of}
use Rattle.mvt_rows.proofs.EachLemmas.{each_more, each_stops}
use Rattle.mvt_rows.proofs.TileLemmas.{fails_in}
use Rattle.mvt_rows.proofs.writing.values.values.Goals as goal

pub returns-in_err-value-clause-none : goal.returns-in_err-value-clause-none
returns-in_err-value-clause-none c =
    fails_in c.from_residual-in_err-value.result _ _ _ c.from_residual-in_err-value.ensures.1 c.in_err-value.ensures.none
    (each_stops (value_of c.args.texts.now) c.args.rows.now c.loop-row.row-index _ c.loop-row-test.true)

pub loop-row-preserved : goal.loop-row-preserved
loop-row-preserved c = record {
  made = each_more (value_of c.args.texts.now) c.args.rows.now c.loop-row.row-index _ _ _ _ c.loop-row.invariant.made
      c.loop-row-test.true c.in_ok-value.ensures.value c.in_ok-push.ensures.items;
  valid = subst (AllByRecursion ValidValue) (sym c.in_ok-push.ensures.items)
      (all_joined ValidValue c.loop-row.values.items (_ ∷ []) c.loop-row.invariant.valid (c.in_ok-value.ensures.valid, tt));
}
