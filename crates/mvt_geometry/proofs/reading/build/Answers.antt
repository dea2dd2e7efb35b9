use Rattle.std.proofs.Common.{◌++◌, length, sym, ap, ap₂, ◌∙◌, subst}
use Rattle.std.proofs.lemmas.List.{take_rest}
use Rattle.mvt_geometry.specs.declared.shape.Geometry.TheVariants.{Points, Lines, Polygons}
use Rattle.mvt_geometry.specs.Shape.{origin}
use Rattle.mvt_geometry.specs.Drawing.{Draws}
use Rattle.mvt_geometry.specs.Commands.{pairs_of, positions}
use Rattle.mvt_geometry.specs.Inner.Building.{ArePlaces}
use Rattle.mvt_geometry.specs.Inner.Judging.{part_count}
use Rattle.mvt_geometry.proofs.BuildLemmas.{draws_points, draws_lines, draws_polygons, positions-path}
use Rattle.mvt_geometry.proofs.reading.build.Goals as goal

pub push_path-requires : goal.push_path-requires
push_path-requires c =
    let g = c.args.integers.now in
    let p = draws_points g c.requires.0 (subst (λ k. Draws k g c.requires.0) c.in-Point.is c.requires.1) in
    let points = ap (λ xs. positions origin (pairs_of xs)) (take_rest g 1 ∙ p.3) ∙ positions-path origin p.0 in
    subst ArePlaces (sym points) p.2

pub returns-in_ok-push_path-in-Point : goal.returns-in_ok-push_path-in-Point
returns-in_ok-push_path-in-Point c = λ geometry draws.
    let g = c.args.integers.now in
    let p = draws_points g geometry (subst (λ k. Draws k g geometry) c.in-Point.is draws) in
    let points = ap (λ xs. positions origin (pairs_of xs)) (take_rest g 1 ∙ p.3) ∙ positions-path origin p.0 in
    ap Points
    (c.new-in-Point.ensures ∙ c.in_ok-push_path-in-Point.ensures.points
    ∙ ap₂ (λ xs ys. xs ++ ys) c.in_ok-points-in-Point.ensures.items points)
    ∙ sym p.1

pub build_lines-requires : goal.build_lines-requires
build_lines-requires c =
    let g = c.args.integers.now in
    let p = draws_lines g c.requires.0 (subst (λ k. Draws k g c.requires.0) c.in-LineString.is c.requires.1) in
    (p.0, p.2, c.requires.2 ∙ ap part_count p.1)

pub build_polygons-requires : goal.build_polygons-requires
build_polygons-requires c =
    let g = c.args.integers.now in
    let p = draws_polygons g c.requires.0 (subst (λ k. Draws k g c.requires.0) c.in-Polygon.is c.requires.1) in
    (_, p.2, c.requires.2 ∙ ap part_count p.1 ∙ ap length (sym p.3))

pub returns-in_ok-lines-in-LineString : goal.returns-in_ok-lines-in-LineString
returns-in_ok-lines-in-LineString c = λ geometry draws.
    let g = c.args.integers.now in
    let p = draws_lines g geometry (subst (λ k. Draws k g geometry) c.in-LineString.is draws) in
    ap Lines (c.new-in-LineString.ensures ∙ c.in_ok-lines-in-LineString.ensures p.0 p.2) ∙ sym p.1

pub returns-in_ok-polygons-in-Polygon : goal.returns-in_ok-polygons-in-Polygon
returns-in_ok-polygons-in-Polygon c = λ geometry draws.
    let g = c.args.integers.now in
    let p = draws_polygons g geometry (subst (λ k. Draws k g geometry) c.in-Polygon.is draws) in
    ap Polygons (c.new-in-Polygon.ensures ∙ c.in_ok-polygons-in-Polygon.ensures _ p.2 ∙ p.3) ∙ sym p.1
