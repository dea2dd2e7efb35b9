use Rattle.std.proofs.Common.{w32, ◌∙◌}
use Rattle.std.proofs.lemmas.Int.{to_z-of_z}
use Rattle.mvt_tile_value.proofs.LintLemmas.{far_is}
use Rattle.mvt_tile_value.proofs.linting.is_far.Goals as goal

pub returns-then-extent-ne0 : goal.returns-then-extent-ne0
returns-then-extent-ne0 c =
    let same = to_z-of_z w32 c.args.coordinate c.ranges.coordinate in
    far_is c.args.extent c.args.coordinate c.least_beyond.result c.from.result c.from-2.result c.if-extent-ne0.true
    (simp same at c.least_beyond.ensures) (c.from.ensures ∙ (simp same at c.unsigned_abs.ensures.value)) c.from-2.ensures
