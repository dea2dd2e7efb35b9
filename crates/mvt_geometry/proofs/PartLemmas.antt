-- The parts that rings are.
use Rattle.std.proofs.Common.{◌≡◌, true, false, pos, List, [], ◌∷◌, ◌++◌, map, refl, ap, ◌∙◌, arith}
use Rattle.std.specs.List.{flat_map}
use Rattle.std.specs.Int.Signed.{lt_z}
use Rattle.std.proofs.lemmas.Int.{ints}
use Rattle.mvt_geometry.specs.declared.shape.Point.{Point}
use Rattle.mvt_geometry.specs.declared.shape.Polygon.{Polygon}
use Rattle.mvt_geometry.specs.declared.shape.Geometry.TheVariants.{Polygons}
use Rattle.mvt_geometry.specs.Shape.{rings_of}
use Rattle.mvt_geometry.specs.Area.{area2}
use Rattle.mvt_geometry.specs.Valid.{AreInner, Grouped}
use Rattle.mvt_geometry.specs.Visiting.{ring_part, ring_parts, parts_of}
use Rattle.mvt_geometry.specs.Inner.Grouping.{parts_of_rings}
use Rattle.mvt_geometry.proofs.GroupLemmas.{AreOpened}

inner_parts : (inner rings : List (List Point)) → AreInner inner
    → parts_of_rings false (inner ++ rings) ≡ map (ring_part false) inner ++ parts_of_rings false rings
inner_parts [] rings h = refl
inner_parts (ring ∷ inner) rings h =
    let no : lt_z (pos 0) (area2 ring) ≡ false = let small = h.0 in grind (arith, ints) in
    ap (λ b. ring_part b ring ∷ parts_of_rings false (inner ++ rings)) no
    ∙ ap (λ ps. ring_part false ring ∷ ps) (inner_parts inner rings h.1)

opened_parts : (polygons : List Polygon) → AreOpened polygons → parts_of_rings false (rings_of polygons) ≡ flat_map ring_parts polygons
opened_parts [] h = refl
opened_parts (p ∷ polygons) h =
    let yes : lt_z (pos 0) (area2 p.outer) ≡ true = let large = h.0.0 in grind (arith, ints) in
    ap (λ b. ring_part b p.outer ∷ parts_of_rings false (p.rest ++ rings_of polygons)) yes
    ∙ ap (λ ps. ring_part true p.outer ∷ ps)
    (inner_parts p.rest (rings_of polygons) h.0.1 ∙ ap (λ ps. map (ring_part false) p.rest ++ ps) (opened_parts polygons h.1))

pub grouped_parts : (polygons : List Polygon) → Grouped (rings_of polygons) polygons
    → parts_of_rings true (rings_of polygons) ≡ parts_of (Polygons polygons)
grouped_parts [] h = absurd h
grouped_parts (p ∷ polygons) h =
    ap (λ ps. ring_part true p.outer ∷ ps)
    (inner_parts p.rest (rings_of polygons) h.2 ∙ ap (λ ps. map (ring_part false) p.rest ++ ps) (opened_parts polygons h.3))
