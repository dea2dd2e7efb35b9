use Rattle.std.proofs.Common.{rules, arith, ◌<◌, ◌^◌, length}
use Rattle.mvt_wire.specs.Field.{bytes}
use Rattle.mvt_feature.specs.Canonical.{plain}
use Rattle.mvt_message.specs.declared.item.Item.TheVariants.{Layer}
use Rattle.mvt_message.specs.CanonicalItems.{canonical_item}
use Rattle.mvt_tile_value.specs.declared.numbers.tile.TheConstants.{LAYERS}
use Rattle.mvt_tile_value.proofs.BeginningLemmas.{fits_bytes}
use Rattle.mvt_tile_value.proofs.beginning.begins_layer.Goals as goal

pub returns-in-Some : goal.returns-in-Some
returns-in-Some c = λ no layer more valid is.
    let d = canonical_item (Layer layer) in
    let few : length c.args.bytes.now < 2 ^ 64 = search rules in
    let fits = fits_bytes LAYERS c.args.bytes.now d more (omega arith) (omega arith) few is in
    let payload = rw c.in-Some.is at c.layer_of.ensures d more (c.first_field.ensures (plain LAYERS (bytes d)) more fits.0 is) in
    c.begins_payload.ensures no layer valid payload

pub returns-in-None : goal.returns-in-None
returns-in-None c = λ no layer more valid is.
    let d = canonical_item (Layer layer) in
    let few : length c.args.bytes.now < 2 ^ 64 = search rules in
    let fits = fits_bytes LAYERS c.args.bytes.now d more (omega arith) (omega arith) few is in
    rw c.in-None.is at c.layer_of.ensures d more (c.first_field.ensures (plain LAYERS (bytes d)) more fits.0 is)
