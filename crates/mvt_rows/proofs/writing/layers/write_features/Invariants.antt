use Rattle.std.proofs.Common.{◌≡◌, List, [], take}
use Rattle.mvt_attrs.specs.FirstUses.{lent}
use Rattle.mvt_base.specs.declared.TheConstants.{LIMIT}
use Rattle.mvt_base.specs.Related.{AreRelated}
use Rattle.mvt_attrs.specs.Values.{Value}
use Rattle.mvt_feature.specs.declared.feature.Feature.{Feature}
use Rattle.mvt_message.specs.Rewriting.{HasWrittenUpTo}
use Rattle.mvt_rows.specs.Lent.{table_of}
use Rattle.mvt_rows.specs.RowsFaults.{IsValidFeatureOf}
use Rattle.mvt_rows.specs.Writing.{AreInRange}
use Rattle.mvt_rows.proofs.writing.layers.write_features.Given as goal

abbrev pub invariant-loop-index : goal.invariant-loop-index
invariant-loop-index l = record {
  same : l.layer_keys ≡ lent l.fn.keys;
  done : (values : List Value) → AreInRange (lent l.fn.keys) values → HasWrittenUpTo LIMIT (lent l.fn.keys) values l.fn.writer []
      → (features : List Feature) × AreRelated (IsValidFeatureOf (table_of l.rows) (lent l.fn.keys) values) (take l.index l.of_layer) features
      × HasWrittenUpTo LIMIT (lent l.fn.keys) values l.writer features;
}
