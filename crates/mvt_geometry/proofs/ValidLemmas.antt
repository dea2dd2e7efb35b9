-- Being drawn from the cursor on, and validity.
use Rattle.std.proofs.Common.{◌≡◌, ◌≢◌, ℕ, ◌<◌, Bool, true, false, List, [], ◌∷◌, ◌++◌, pos, ◌<ℤ◌, refl, ◌⊎◌, inl, inr, arith}
use Rattle.std.specs.List.{AllByRecursion}
use Rattle.mvt_geometry.specs.declared.shape.Point.{Point}
use Rattle.mvt_geometry.specs.declared.shape.Polygon.{Polygon}
use Rattle.mvt_geometry.specs.declared.shape.Geometry.{Geometry}
use Rattle.mvt_geometry.specs.declared.shape.Geometry.TheVariants.{Unknown, Points, Lines, Polygons}
use Rattle.mvt_geometry.specs.declared.shape.Kind.{Kind}
use Rattle.mvt_geometry.specs.Shape.{IsPlace, IsStep, AreSteps, Apart, joined, origin, rings_of, kind_of, last_of}
use Rattle.mvt_geometry.specs.Area.{area2}
use Rattle.mvt_geometry.specs.Valid.{IsStroke, AreInner, IsValid}
use Rattle.mvt_geometry.specs.Drawing.{drawn, Draws}
use Rattle.mvt_geometry.specs.Inner.Validity.{IsStepTo, IsPath, IsLineFrom, AreLinesFrom, end_of_lines, end_of_polygon, ArePolygonsFrom, CanBeDrawn}
use Rattle.mvt_geometry.proofs.StrokeLemmas.{steps-append, steps-front, steps-back}

pub to_step : (is_line : Bool) (p q : Point) → ((is_line ≡ true) × (p ≢ q)) ⊎ (is_line ≡ false) → IsPlace q → IsStep p q
    → IsStepTo is_line p q
to_step true p q apart place step = (away apart, place, step)
  where
    away : ((true ≡ true) × (p ≢ q)) ⊎ (true ≡ false) → p ≢ q
    away (inl h) = h.1
    away (inr h) = cc
to_step false p q apart place step = (place, step)

pub from_step : (is_line : Bool) (p q : Point) → IsStepTo is_line p q → IsPlace q × IsStep p q
from_step true p q h = (h.1, h.2)
from_step false p q h = h

-- a path is places, by steps, and as a line points apart
path_of : (c : Point) (ps : List Point) → AllByRecursion IsPlace ps → AreSteps c ps → Apart (c ∷ ps) → IsPath true c ps
path_of c [] places steps apart = tt
path_of c (p ∷ ps) places steps apart = ((apart.0, places.0, steps.0), path_of p ps places.1 steps.1 apart.1)

parts_of_path : (c : Point) (ps : List Point) → IsPath true c ps → AllByRecursion IsPlace ps × AreSteps c ps × Apart (c ∷ ps)
parts_of_path c [] path = (tt, tt, tt)
parts_of_path c (p ∷ ps) path = let more = parts_of_path p ps path.1 in ((path.0.1, more.0), (path.0.2, more.1), (path.0.0, more.2))

pub points_path : (c : Point) (ps : List Point) → AllByRecursion IsPlace ps → AreSteps c ps → IsPath false c ps
points_path c [] places steps = tt
points_path c (p ∷ ps) places steps = ((places.0, steps.0), points_path p ps places.1 steps.1)

pub parts_of_points : (c : Point) (ps : List Point) → IsPath false c ps → AllByRecursion IsPlace ps × AreSteps c ps
parts_of_points c [] path = (tt, tt)
parts_of_points c (p ∷ ps) path = let more = parts_of_points p ps path.1 in ((path.0.0, more.0), (path.0.1, more.1))

-- lines
pub line_of : (least : ℕ) (c : Point) (l : List Point) → 0 < least → IsStroke least l → AreSteps c l → IsLineFrom least c l
line_of least c [] some is steps = omega (arith, is.enough)
line_of least c (p ∷ ps) some is steps = (is.enough, is.few, (is.places.0, steps.0), path_of p ps is.places.1 steps.1 is.apart)

pub stroke_of : (least : ℕ) (c : Point) (l : List Point) → IsLineFrom least c l → IsStroke least l × AreSteps c l
stroke_of least c [] h = absurd h
stroke_of least c (p ∷ ps) h =
    let path = parts_of_path p ps h.3 in
    (record { enough = h.0; few = h.1; apart = path.2; places = (h.2.0, path.0) }, (h.2.1, path.1))

pub lines_of : (least : ℕ) (c : Point) (ls : List (List Point)) → 0 < least → AllByRecursion (IsStroke least) ls
    → AreSteps c (joined ls) → AreLinesFrom least c ls
lines_of least c [] some are steps = tt
lines_of least c (l ∷ ls) some are steps = (
  line_of least c l some are.0 (steps-front c l (joined ls) steps),
  lines_of least (last_of c l) ls some are.1 (steps-back c l (joined ls) steps),
)

pub strokes_of : (least : ℕ) (c : Point) (ls : List (List Point)) → AreLinesFrom least c ls
    → AllByRecursion (IsStroke least) ls × AreSteps c (joined ls)
strokes_of least c [] h = (tt, tt)
strokes_of least c (l ∷ ls) h =
    let here = stroke_of least c l h.0 in
    let more = strokes_of least (last_of c l) ls h.1 in
    ((here.0, more.0), steps-append c l (joined ls) here.1 more.1)

lines_joined : (least : ℕ) (c : Point) (ls ms : List (List Point)) → AreLinesFrom least c ls
    → AreLinesFrom least (end_of_lines c ls) ms → AreLinesFrom least c (ls ++ ms)
lines_joined least c [] ms h k = k
lines_joined least c (l ∷ ls) ms h k = (h.0, lines_joined least (last_of c l) ls ms h.1 k)

lines_split : (least : ℕ) (c : Point) (ls ms : List (List Point)) → AreLinesFrom least c (ls ++ ms)
    → AreLinesFrom least c ls × AreLinesFrom least (end_of_lines c ls) ms
lines_split least c [] ms h = (tt, h)
lines_split least c (l ∷ ls) ms h = let more = lines_split least (last_of c l) ls ms h.1 in ((h.0, more.0), more.1)

-- polygons
polygons_of_rings : (c : Point) (ps : List Polygon) → AllByRecursion (λ q. (pos 0 <ℤ area2 q.outer) × AreInner q.rest) ps
    → AreLinesFrom 3 c (rings_of ps) → ArePolygonsFrom false c ps
polygons_of_rings c [] are lines = tt
polygons_of_rings c (p ∷ ps) are lines =
    let more = lines_split 3 (last_of c p.outer) p.rest (rings_of ps) lines.1 in
    ((are.0.0, are.0.1, lines.0, more.0), polygons_of_rings (end_of_polygon c p) ps are.1 more.1)

rings_of_polygons : (c : Point) (ps : List Polygon) → ArePolygonsFrom false c ps
    → AllByRecursion (λ q. (pos 0 <ℤ area2 q.outer) × AreInner q.rest) ps × AreLinesFrom 3 c (rings_of ps)
rings_of_polygons c [] h = (tt, tt)
rings_of_polygons c (p ∷ ps) h =
    let more = rings_of_polygons (end_of_polygon c p) ps h.1 in
    (((h.0.0, h.0.1), more.0), (h.0.2, lines_joined 3 (last_of c p.outer) p.rest (rings_of ps) h.0.3 more.1))

-- what can be drawn is what is valid
pub valid_drawn : (g : Geometry) → IsValid g → CanBeDrawn g
valid_drawn (Unknown u) v = v
valid_drawn (Points ps) v = (v.0, v.1, points_path origin ps v.2 v.3)
valid_drawn (Lines ls) v = (v.0, lines_of 2 origin ls (omega arith) v.1 v.2)
valid_drawn (Polygons []) v = absurd v.0
valid_drawn (Polygons (p ∷ ps)) v =
    let lines = lines_of 3 origin (rings_of (p ∷ ps)) (omega arith) v.1 v.2 in
    let more = lines_split 3 (last_of origin p.outer) p.rest (rings_of ps) lines.1 in
    (omega arith, ((v.0.1, v.0.2, lines.0, more.0), polygons_of_rings (end_of_polygon origin p) ps v.0.3 more.1))

pub drawn_valid : (g : Geometry) → CanBeDrawn g → IsValid g
drawn_valid (Unknown u) d = d
drawn_valid (Points ps) d = let path = parts_of_points origin ps d.2 in (d.0, d.1, path.0, path.1)
drawn_valid (Lines ls) d = let lines = strokes_of 2 origin ls d.1 in (d.0, lines.0, lines.1)
drawn_valid (Polygons []) d = absurd (omega (arith, d.0))
drawn_valid (Polygons (p ∷ ps)) d =
    let polygon = d.1.0 in
    let more = rings_of_polygons (end_of_polygon origin p) ps d.1.1 in
    let lines =
    strokes_of 3 origin (rings_of (p ∷ ps))
    (polygon.2, lines_joined 3 (last_of origin p.outer) p.rest (rings_of ps) polygon.3 more.1) in
    ((refl, polygon.0, polygon.1, more.0), lines.0, lines.1)

-- some integers draw what is valid
pub valid_draws : (g : Geometry) → IsValid g → (kind : Kind) × (ints : List ℕ) × Draws kind ints g
valid_draws g v = (kind_of g, drawn g, record { same_kind = refl; valid = v; spelled = refl })
