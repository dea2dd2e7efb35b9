use Rattle.std.proofs.Common.{arith, sym}
use Rattle.mvt_message.specs.CanonicalItems.{canonical_item}
use Rattle.mvt_tile_value.specs.declared.numbers.tile.TheConstants.{LAYERS}
use Rattle.mvt_tile_value.proofs.WritingLemmas.{field_most}
use Rattle.mvt_tile_value.proofs.writing.layer_len.Goals as goal

pub returns-clause-most : goal.returns-clause-most
returns-clause-most c =
    let d = canonical_item c.args.item.now in
    let len = c.in_ok-len.ensures.len in
    omega (arith, field_most LAYERS d, c.field_len.ensures d (sym len.0), len.0, len.1)
