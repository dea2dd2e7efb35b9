use Rattle.std.proofs.Common.{◌≡◌, [], rules, arith, refl}
use Rattle.std.proofs.lemmas.Grind.{common_steps}
use Rattle.std.proofs.lemmas.Result.{err_from_is_err_and}
use Rattle.mvt_tile.specs.Visiting.{payloads_in}
use Rattle.mvt_tile.proofs.FeedingLemmas.{early_faults, fed_start, fed_more, fed_fails, fed_read, fed_reads, kept_is_none}
use Rattle.mvt_tile.proofs.reading.feed_all.Goals as goal

pub loop-turn-init : goal.loop-turn-init
loop-turn-init g c = record {
  fed = λ input start. fed_start 67108864 _ _ _ _ start c.requires.raw c.requires.offset;
  small = search rules;
  reads = search rules;
  empty = search rules;
  asked = search rules;
  faults = search rules;
}

pub take-requires-clause-few : goal.take-requires-clause-few
take-requires-clause-few g c =
    let (input, start) = c.requires.start in
    let fed = c.loop-turn.invariant.fed input start in
    (input, payloads_in fed.given, fed.items, fed.has, fed.few)

pub returns-in-Err-clause-stopped : goal.returns-in-Err-clause-stopped
returns-in-Err-clause-stopped g c =
    let (input, start) = c.requires.start in
    let fed = c.loop-turn.invariant.fed input start in
    fed_read 67108864 _ _ _ _ _ _ _ fed (g.R.Source.state c.read.new.self).given c.in-Err.kind c.in-Err.ensures.bytes
    (let zero : (g.R.Source.state c.read.new.self).given ≡ 0 = c.in-Err.ensures.given in omega (arith, zero))

pub returns-in-Err-clause-reads : goal.returns-in-Err-clause-reads
returns-in-Err-clause-reads g c =
    let (input, start) = c.requires.start in
    fed_reads 67108864 _ _ _ _ (g.R.Source.state c.loop-turn.reader) _ _ _ [] (c.loop-turn.invariant.fed input start)
    (kept_is_none _ _ c.in-Err.ensures.bytes) (omega arith)
    c.loop-turn.invariant.reads (grind (arith, common_steps)) (grind (arith, common_steps)) c.loop-turn.invariant.empty
    (grind (arith, common_steps))

pub returns-in_err-take-clause-stopped : goal.returns-in_err-take-clause-stopped
returns-in_err-take-clause-stopped g c =
    let p = err_from_is_err_and c.from_residual.result c.from_residual.ensures.1 in
    let (input, start) = c.requires.start in
    let fed = c.loop-turn.invariant.fed input start in
    rw (p.1, p.2)
    (fed_fails 67108864 _ _ _ _ _ _ _ fed c.read.new.buffer _ _ _ _ c.in-Ok.ensures.bytes.0 refl c.in-Ok.ensures.given (search rules)
    (c.in_err-take.ensures.fault input (payloads_in fed.given) fed.items fed.has))

pub returns-in_err-take-clause-reads : goal.returns-in_err-take-clause-reads
returns-in_err-take-clause-reads g c =
    let (input, start) = c.requires.start in
    fed_reads 67108864 _ _ _ _ (g.R.Source.state c.loop-turn.reader) _ _ _ _ (c.loop-turn.invariant.fed input start)
    c.in-Ok.ensures.bytes.0 (omega arith)
    c.loop-turn.invariant.reads (grind (arith, common_steps)) (grind (arith, common_steps)) c.loop-turn.invariant.empty
    (grind (arith, common_steps))

pub returns-in_err-take-clause-faults : goal.returns-in_err-take-clause-faults
returns-in_err-take-clause-faults g c =
    let p = err_from_is_err_and c.from_residual.result c.from_residual.ensures.1 in
    let (input, start) = c.requires.start in
    let fed = c.loop-turn.invariant.fed input start in
    rw (p.1, p.2) (early_faults c.in_err-take.field-0.0 _ (g.R.Source.state c.args.reader.now).faults
    (g.R.Source.state c.read.new.self).faults
    (c.in_err-take.ensures.fault input (payloads_in fed.given) fed.items fed.has fed.given fed.live) (search rules))

pub loop-turn-preserved : goal.loop-turn-preserved
loop-turn-preserved g c = record {
  fed = λ input start.
      let fed = c.loop-turn.invariant.fed input start in
      fed_more 67108864 _ _ _ _ _ _ _ fed c.read.new.buffer _ _ _ _ _ c.in-Ok.ensures.bytes.0 refl (omega arith) c.in-Ok.ensures.within
      (c.in_ok-take.ensures.live input (payloads_in fed.given) fed.items fed.has fed.few);
  small = search rules;
  reads = search rules;
  empty = search rules;
  asked = search rules;
  faults = search rules;
}
