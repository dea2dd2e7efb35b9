use Rattle.std.proofs.Common.{ℕ, List, IfSome, arith}
use Rattle.std.proofs.lemmas.Result.{err_from_is_err_and, IfOk-weaker, IfErr-weaker}
use Rattle.mvt_tile_value.specs.declared.tile.Tile.{Tile}
use Rattle.mvt_tile_value.specs.Tiles.{HasDistinctNames, IsTile}
use Rattle.mvt_tile.specs.Inner.Taking.{HasTaken}
use Rattle.mvt_tile.specs.TileRules.{fault_within}
use Rattle.mvt_tile.specs.Visiting.{payloads_in}
use Rattle.mvt_tile.proofs.FeedingLemmas.{end_faults, stopped_reported, stopped_early, fed_early, fed_tile, fed_reported}
use Rattle.mvt_tile.proofs.reading.read_whole.Goals as goal

pub returns-in_err-feed_all-clause-fault : goal.returns-in_err-feed_all-clause-fault
returns-in_err-feed_all-clause-fault g c =
    let p = err_from_is_err_and c.from_residual.result c.from_residual.ensures.1 in
    rw (p.1, p.2) (stopped_reported 67108864 _ _ _ _ c.in_err-feed_all.ensures.stopped)

pub returns-in_err-feed_all-clause-read : goal.returns-in_err-feed_all-clause-read
returns-in_err-feed_all-clause-read g c =
    let p = err_from_is_err_and c.from_residual.result c.from_residual.ensures.1 in
    let stopped = c.in_err-feed_all.ensures.stopped in
    rw (p.1, p.2)
    (record {
      early = stopped_early 67108864 _ 65536 _ _ _ stopped.small stopped;
      stops = stopped_early 67108864 _ _ _ _ _ (omega arith) stopped;
      reads = c.in_err-feed_all.ensures.reads;
      faults = c.in_err-feed_all.ensures.faults;
    })

pub returns-clause-read : goal.returns-clause-read
returns-clause-read g c =
    let (input, start) = c.requires.start in
    let fed = c.in_ok-feed_all.ensures.fed input (c.new-partial.ensures.taken input start) in
    record {
      early = fed_early 67108864 65536 _ _ _ _ _ _ fed;
      stops = fed_early 67108864 _ _ _ _ _ _ _ fed;
      reads = c.in_ok-feed_all.ensures.reads;
      faults =
          end_faults c.finish.result (fault_within 67108864 fed.given) (g.R.Source.state c.args.reader.now).faults
          (g.R.Source.state c.feed_all.new.reader).faults (c.finish.ensures.fault fed.items fed.given fed.live)
          c.in_ok-feed_all.ensures.faults;
    }

pub returns-clause-tile : goal.returns-clause-tile
returns-clause-tile g c = λ input start.
    let fed = c.in_ok-feed_all.ensures.fed input (c.new-partial.ensures.taken input start) in
    IfOk-weaker c.finish.result _
    (λ taken. (payloads : List (List ℕ)) × (tile : Tile) × HasTaken (g.V.TileVisitor.has_items input payloads) taken tile.items
    × HasDistinctNames tile.items × IfSome (g.R.Source.state c.args.reader.now).left (λ bytes. IsTile 67108864 bytes tile))
    (λ taken done.
    let told = fed_tile 67108864 _ _ _ _ _ _ fed c.in_ok-feed_all.ensures.end done.1 in
    rw done.0 (payloads_in fed.given, told.0, told.1, told.2, told.3))
    (c.finish.ensures.tile fed.items fed.given fed.live)

pub returns-clause-fault : goal.returns-clause-fault
returns-clause-fault g c =
    let (input, start) = c.requires.start in
    let fed = c.in_ok-feed_all.ensures.fed input (c.new-partial.ensures.taken input start) in
    IfErr-weaker c.finish.result _ _
    (λ e reported. fed_reported 67108864 _ _ _ _ _ _ fed c.in_ok-feed_all.ensures.end e reported)
    (c.finish.ensures.fault fed.items fed.given fed.live)
