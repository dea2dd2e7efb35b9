use Rattle.mvt_tile.proofs.decoder.TileDecoder.new.Goals as goal

pub returns-clause-stands : goal.returns-clause-stands
returns-clause-stands c = c.new-2.ensures.stands tt c.new.ensures
