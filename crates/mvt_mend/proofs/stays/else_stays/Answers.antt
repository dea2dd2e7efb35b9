use Rattle.mvt_mend.proofs.ElseLemmas.{feature_else, layer_else, layer_places, not_layer, tile_else, tile_places}
use Rattle.mvt_mend.proofs.stays.else_stays.Goals as goal

pub returns-clause-feature : goal.returns-clause-feature
returns-clause-feature c = feature_else

pub returns-clause-layer : goal.returns-clause-layer
returns-clause-layer c = layer_else

pub returns-clause-features : goal.returns-clause-features
returns-clause-features c = layer_places

pub returns-clause-other : goal.returns-clause-other
returns-clause-other c = not_layer

pub returns-clause-tile : goal.returns-clause-tile
returns-clause-tile c = tile_else

pub returns-clause-layers : goal.returns-clause-layers
returns-clause-layers c = tile_places
