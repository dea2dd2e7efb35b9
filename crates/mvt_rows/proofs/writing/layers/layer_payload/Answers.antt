use Rattle.std.proofs.Common.{[], ap, arith, refl}
use Rattle.mvt_attrs.specs.FirstUses.{lent}
use Rattle.mvt_base.specs.declared.TheConstants.{LIMIT}
use Rattle.mvt_message.specs.declared.item.Layer.{Layer as ALayer}
use Rattle.mvt_rows.specs.Lent.{table_of}
use Rattle.mvt_rows.proofs.FaultLemmas.{features_wrong, part_wrong, wrong_in}
use Rattle.mvt_rows.proofs.WritingLemmas.{layer_made, nothing_written, parts_range, utf8_there}
use Rattle.mvt_rows.proofs.writing.layers.layer_payload.Goals as goal

pub returns-in_err-parts-clause-wrong : goal.returns-in_err-parts-clause-wrong
returns-in_err-parts-clause-wrong c =
    wrong_in c.from_residual.result _ _ _ c.from_residual.ensures.1 c.in_err-parts.ensures.wrong
    (part_wrong (table_of c.args.rows.now) c.args.row.now)

pub returns-in_err-write_features-clause-wrong : goal.returns-in_err-write_features-clause-wrong
returns-in_err-write_features-clause-wrong c =
    let t = table_of c.args.rows.now in
    let parts = c.in_ok-parts.parts in
    let are = c.in_ok-parts.ensures.parts in
    let keys = lent c.as_slice-keys.result.now in
    let values = parts.values.items in
    let keys_are = ap lent c.as_slice-keys.ensures.value in
    let range = parts_range t c.args.row.now parts keys values are keys_are refl in
    let written = c.in_ok-add_keys.ensures values (c.in_ok-take_values.ensures [] c.new-writer.ensures) in
    wrong_in c.from_residual-in_err-write_features.result _ _ _ c.from_residual-in_err-write_features.ensures.1
    (c.in_err-write_features.ensures.wrong values range (nothing_written LIMIT keys values _ written))
    (features_wrong t c.args.row.now parts keys values are c.in_ok-parts.ensures.clean keys_are refl)

pub returns-clause-payload : goal.returns-clause-payload
returns-clause-payload c =
    let t = table_of c.args.rows.now in
    let parts = c.in_ok-parts.parts in
    let are = c.in_ok-parts.ensures.parts in
    let keys = lent c.as_slice-keys.result.now in
    let values = parts.values.items in
    let keys_are = ap lent c.as_slice-keys.ensures.value in
    let range = parts_range t c.args.row.now parts keys values are keys_are refl in
    let written = c.in_ok-add_keys.ensures values (c.in_ok-take_values.ensures [] c.new-writer.ensures) in
    let (features, related, has) = c.in_ok-write_features.ensures.written values range (nothing_written LIMIT keys values _ written) in
    let layer : ALayer = record { name = c.args.name.now; extent = c.args.row.now.extent; features = features } in (
      layer,
      layer_made t c.args.row.now parts c.args.name.now features keys values c.requires
          (utf8_there t.texts c.args.row.now.name c.args.name.now c.requires) (omega arith) are keys_are refl related,
      c.in_ok-payload.ensures keys values layer has refl refl,
    )
