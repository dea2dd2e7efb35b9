use Rattle.std.proofs.lemmas.Bool.Decides.{Decides-eqb}
use Rattle.std.proofs.lemmas.Slice.Eq.{strip_prefix_is}
use Rattle.mvt_tile_value.proofs.ComparingLemmas.{after_more, after_none}
use Rattle.mvt_tile_value.proofs.comparing.after.Goals as goal

pub returns-in-Some : goal.returns-in-Some
returns-in-Some c = λ input front is.
    after_more input front c.args.part.now c.in-Some.rest.now c.strip_prefix.result (rw c.in-Some.is at is)
    (strip_prefix_is Decides-eqb c.in-Some.rest.now c.args.part.now c.strip_prefix.result c.strip_prefix.ensures.cases)

pub returns-in-None : goal.returns-in-None
returns-in-None c = λ input front is. after_none input front c.args.part.now (rw c.in-None.is at is)
