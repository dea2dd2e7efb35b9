use Rattle.std.proofs.Common.{rules, ◌≡◌, ap, ◌∙◌, to_z, of_z}
use Rattle.std.specs.Int.{w128}
use Rattle.std.proofs.lemmas.List.{map-id}
use Rattle.mvt_geometry.specs.Area.{area2}
use Rattle.mvt_geometry.proofs.area.twice_area.Goals as goal

pub returns : goal.returns
returns c =
    let same : to_z w128 (of_z w128 c.area_of.result) ≡ c.area_of.result = search rules in
    same ∙ c.area_of.ensures ∙ ap area2 (map-id c.args.ring.now)
