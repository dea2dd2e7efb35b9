use Rattle.std.proofs.Common.{map, string_bytes}
use Rattle.mvt_tile.specs.Extraction.{is_among}
use Rattle.mvt_tile.proofs.WantedLemmas.{wants_layers}
use Rattle.mvt_tile.proofs.extracting.extract_bytes.Goals as goal

pub returns-clause-layers : goal.returns-clause-layers
returns-clause-layers c =
    let names = map string_bytes c.args.names.now in
    let start = wants_layers 67108864 names c.in_ok-set_of.field-0.keys c.new-rewriter.result c.in_ok-set_of.ensures
    c.new-rewriter.ensures in
    let (tile, is, has) = c.in_ok-taken.ensures.tile (is_among names) start in
    (tile, is, c.in_ok-rewritten.ensures tile.items has)
