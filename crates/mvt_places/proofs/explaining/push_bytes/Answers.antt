use Rattle.std.proofs.Common.{rules}
use Rattle.mvt_places.proofs.ExplanationLemmas.{bytes_more}
use Rattle.mvt_places.proofs.explaining.push_bytes.Goals as goal

pub loop-index-preserved : goal.loop-index-preserved
loop-index-preserved c =
    bytes_more c.args.span c.args.from c.args.bytes.now c.loop-index.index _ _ _ _ c.loop-index-test.true (search rules)
    c.loop-index.invariant c.in_ok-push_byte.ensures
