use Rattle.mvt_tile_value.proofs.WritingLemmas.{long_items}
use Rattle.mvt_tile_value.proofs.laws.long_items.Goals as goal

pub returns : goal.returns
returns c = long_items
