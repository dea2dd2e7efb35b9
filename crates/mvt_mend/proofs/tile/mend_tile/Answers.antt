use Rattle.std.proofs.Common.{sym, ◌∙◌}
use Rattle.mvt_mend.proofs.StayLemmas.{tile_stays_bytes, tile_stays_changes}
use Rattle.mvt_mend.proofs.tile.mend_tile.Goals as goal

pub returns-in-Ok-clause-tile : goal.returns-in-Ok-clause-tile
returns-in-Ok-clause-tile c =
    let (tile, is_tile, valid, encoded) = c.in-Ok.ensures.tile in
    (tile, rw (tile_stays_bytes c.args.bytes.now tile is_tile) is_tile, valid, encoded)

pub returns-in-Ok-clause-changes : goal.returns-in-Ok-clause-changes
returns-in-Ok-clause-changes c =
    let (tile, is_tile, valid, encoded) = c.in-Ok.ensures.tile in
    c.new-in-Ok.ensures ∙ c.new.ensures.items ∙ sym (tile_stays_changes c.args.bytes.now tile is_tile)
