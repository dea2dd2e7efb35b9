use Rattle.mvt_tile.proofs.decoder.TileDecoder.feed.Goals as goal

pub returns-clause-stands : goal.returns-clause-stands
returns-clause-stands c = λ s stands. c.feed.ensures.stands tt s (rw (← c.self.view_is) at stands)
