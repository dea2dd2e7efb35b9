use Rattle.std.proofs.Common.{[], arith, subst, sym, ◌∙◌}
use Rattle.std.proofs.lemmas.List.{take_all}
use Rattle.mvt_attrs.specs.FirstUses.{lent}
use Rattle.mvt_base.specs.declared.TheConstants.{LIMIT}
use Rattle.mvt_base.specs.Related.{AreRelated}
use Rattle.mvt_message.specs.Rewriting.{HasWrittenUpTo}
use Rattle.mvt_rows.specs.Lent.{table_of}
use Rattle.mvt_rows.specs.RowsFaults.{IsValidFeatureOf}
use Rattle.mvt_rows.specs.Writing.{AreInRange}
use Rattle.mvt_rows.proofs.FaultLemmas.{feature_blamed}
use Rattle.mvt_rows.proofs.WritingLemmas.{features_written}
use Rattle.mvt_rows.proofs.writing.layers.write_features.Goals as goal

pub loop-index-init : goal.loop-index-init
loop-index-init c = record { same = c.new-layer_keys.ensures; done = λ values range has. ([], tt, has) }

pub returns-in-Err-clause-wrong : goal.returns-in-Err-clause-wrong
returns-in-Err-clause-wrong c = λ values range has.
    let (features, so_far, written) = c.loop-index.invariant.done values range has in
    rw c.at_feature.ensures
    (feature_blamed (table_of c.args.rows.now) (lent c.args.keys.now) c.loop-index.layer_keys values c.args.of_layer.now
    c.loop-index.index _ features c.in-Err.error c.loop-index.invariant.same so_far c.loop-index-test.true
    (c.in-Err.ensures.wrong values features
    (subst (λ keys. HasWrittenUpTo LIMIT keys values c.loop-index.writer features) (sym c.loop-index.invariant.same) written)))

pub loop-index-preserved : goal.loop-index-preserved
loop-index-preserved c = record {
  same = c.write_feature.ensures.same ∙ c.loop-index.invariant.same;
  done = λ values range has.
      let (features, so_far, written) = c.loop-index.invariant.done values range has in
      let same = c.loop-index.invariant.same in
      let next = c.in-Ok.ensures.written values features (subst (λ keys. AreInRange keys values) (sym same) range)
      (subst (λ keys. HasWrittenUpTo LIMIT keys values c.loop-index.writer features) (sym same) written) in
      features_written (table_of c.args.rows.now) (lent c.args.keys.now) c.loop-index.layer_keys values c.args.of_layer.now
      c.loop-index.index _ features
      c.write_feature.new.writer same so_far c.loop-index-test.true next;
}

pub returns-clause-written : goal.returns-clause-written
returns-clause-written c = λ values range has.
    let (features, so_far, written) = c.loop-index.invariant.done values range has in (
      features,
      subst (λ rows. AreRelated (IsValidFeatureOf (table_of c.args.rows.now) (lent c.args.keys.now) values) rows features)
          (take_all c.loop-index.index c.args.of_layer.now (omega arith)) so_far,
      written,
    )
