use Rattle.std.proofs.Common.{length}
use Rattle.mvt_tile_value.proofs.RingLemmas.{told_noted}
use Rattle.mvt_tile_value.proofs.layer_noting.LayerNotesFeatureVisitor.end_feature.Goals as goal

pub returns : goal.returns
returns c = λ items features f start before drawn id kind.
    let (noted, rings) = told_noted (length items) features start c.args.self.now f.geometry before drawn in
    c.add.ensures (length items) features f noted rings id
