use Rattle.std.proofs.Common.{take}
use Rattle.std.specs.List.{flat_map}
use Rattle.mvt_base.specs.declared.TheConstants.{LIMIT}
use Rattle.mvt_tile.specs.Decoding.{StandsFor}
use Rattle.mvt_callers.proofs.streaming.tile_of_pieces.Given as goal

abbrev pub invariant-loop-piece : goal.invariant-loop-piece
invariant-loop-piece l = StandsFor LIMIT l.decoder (flat_map (λ piece. piece.now) (take l.piece-index l.pieces))
