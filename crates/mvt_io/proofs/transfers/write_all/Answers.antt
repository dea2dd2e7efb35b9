use Rattle.std.proofs.Common.{arith, rules}
use Rattle.std.proofs.lemmas.Result.{err_from_is_err_and}
use Rattle.std.proofs.lemmas.Grind.{common_steps}
use Rattle.mvt_io.proofs.Fronts.{TakesPrefix-from_front, TakesFront-kept, TakesFront-more}
use Rattle.mvt_io.proofs.transfers.write_all.Goals as goal

pub returns-in_err-count-clause-stopped : goal.returns-in_err-count-clause-stopped
returns-in_err-count-clause-stopped g c =
    let p = err_from_is_err_and c.from_residual.result c.from_residual.ensures.1 in
    rw (p.1, p.2)
    (record {
      taken = TakesPrefix-from_front _ _ _ _ (TakesFront-kept _ _ _ _ _ c.loop-rest.invariant.front c.in_err-count.ensures.bytes);
      writes = grind (arith, common_steps);
      flushes = search rules;
      faults = search rules;
    })

pub returns-then-count-eq0-clause-stopped : goal.returns-then-count-eq0-clause-stopped
returns-then-count-eq0-clause-stopped g c = record {
  taken =
      TakesPrefix-from_front _ _ _ _
      (TakesFront-more _ _ _ _ _ _ c.loop-rest.invariant.front c.in_ok-count.ensures.bytes c.in_ok-count.ensures.within);
  writes = grind (arith, common_steps);
  flushes = search rules;
  faults = search rules;
}

pub loop-rest-preserved : goal.loop-rest-preserved
loop-rest-preserved g c = record {
  front = TakesFront-more _ _ _ _ _ _ c.loop-rest.invariant.front c.in_ok-count.ensures.bytes c.in_ok-count.ensures.within;
  writes = grind (arith, common_steps);
  flushes = search rules;
  faults = search rules;
}
