use Rattle.std.proofs.Common.{map, string_bytes}
use Rattle.std.proofs.lemmas.Result.{err_from_is_err_and}
use Rattle.mvt_tile.specs.Extraction.{is_among}
use Rattle.mvt_tile.proofs.FeedingLemmas.{unread}
use Rattle.mvt_tile.proofs.WantedLemmas.{wants_layers}
use Rattle.mvt_tile.proofs.extracting.extract_tile.Goals as goal

pub returns-in_err-set_of-clause-read : goal.returns-in_err-set_of-clause-read
returns-in_err-set_of-clause-read g c =
    let p = err_from_is_err_and c.from_residual.result c.from_residual.ensures.1 in
    rw (p.1, p.2) (unread 67108864 _)

pub returns-in_err-taken-clause-read : goal.returns-in_err-taken-clause-read
returns-in_err-taken-clause-read g c =
    let p = err_from_is_err_and c.from_residual-in_err-taken.result c.from_residual-in_err-taken.ensures.1 in
    rw (p.1, p.2) c.in_err-taken.ensures.read

pub returns-clause-layers : goal.returns-clause-layers
returns-clause-layers g c =
    let names = map string_bytes c.args.names.now in
    let start = wants_layers 67108864 names c.in_ok-set_of.field-0.keys c.new-rewriter.result c.in_ok-set_of.ensures
    c.new-rewriter.ensures in
    let (payloads, tile, has, distinct, is) = c.in_ok-taken.ensures.tile (is_among names) start in
    (tile, c.in_ok-rewritten.ensures tile.items has, is)
