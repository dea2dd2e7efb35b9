use Rattle.std.proofs.Common.{ap, ◌∙◌, sym}
use Rattle.std.specs.List.{list_any, flat_map}
use Rattle.mvt_message.specs.Items.{names_in}
use Rattle.mvt_tile.specs.TileRules.{repeats}
use Rattle.mvt_tile.specs.Extraction.{is_named}
use Rattle.mvt_tile.proofs.ExtractionLemmas.{repeats_named}
use Rattle.mvt_tile.proofs.validity.is_repeated.Goals as goal

pub returns-in-Layer : goal.returns-in-Layer
returns-in-Layer c =
    c.has_layer.ensures ∙ ap (λ t. list_any (is_named t) c.args.before.now) c.as_str.ensures.text
    ∙ repeats_named c.in-Layer.layer.name c.args.before.now
    ∙ ap (λ i. repeats (flat_map names_in c.args.before.now) (names_in i)) (sym c.in-Layer.is)
