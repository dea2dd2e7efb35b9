-- What the builder has made so far.
use Rattle.std.proofs.Common.{◌≡◌, ℕ, ◌+◌, ◌-◌, ◌*◌, ◌/◌, ◌<◌, ◌≤◌, ◌^◌, List, [], ◌∷◌, ◌++◌, length, get_or, take, drop, refl, sym, ap, ap₂, subst, ◌∙◌, arith, append_assoc, length-append}
use Rattle.std.proofs.lemmas.List.{take_at, drop_at, take_rest}
use Rattle.std.proofs.lemmas.Int.{ints}
use Rattle.mvt_base.proofs.ListLemmas.{all_weaker}
use Rattle.mvt_geometry.specs.declared.shape.Point.{Point}
use Rattle.mvt_geometry.specs.declared.shape.Polygon.{Polygon}
use Rattle.mvt_geometry.specs.declared.shape.Geometry.{Geometry}
use Rattle.mvt_geometry.specs.declared.shape.Geometry.TheVariants.{Unknown, Points, Lines, Polygons}
use Rattle.mvt_geometry.specs.declared.shape.Kind.TheVariants as kinds
use Rattle.mvt_geometry.specs.Shape.{origin, rings_of, last_of}
use Rattle.mvt_geometry.specs.Valid.{IsStroke, Grouped}
use Rattle.mvt_geometry.specs.Drawing.{path_from, Draws, strokes}
use Rattle.mvt_geometry.specs.Commands.{pairs_of, stepped, moved, positions}
use Rattle.mvt_geometry.specs.Inner.Building.{ArePlaces, IsFront, SpellLines, SpellRings}
use Rattle.mvt_geometry.proofs.PathLemmas.{pairs-path, positions-between, moved-between, length-path}
use Rattle.mvt_geometry.proofs.StrokeLemmas.{stroke-more}
use Rattle.mvt_geometry.proofs.GroupLemmas.{one_grouping}
use Rattle.mvt_geometry.specs.Inner.Grouping.{polygons_of}
use Rattle.mvt_geometry.proofs.WalkLemmas.{pairs_front, first_pair}

pub positions-path : (c : Point) (ps : List Point) → positions c (pairs_of (path_from c ps)) ≡ ps
positions-path c ps = ap (positions c) (pairs-path c ps) ∙ positions-between c ps

pub moved-path : (c : Point) (ps : List Point) → moved c (pairs_of (path_from c ps)) ≡ last_of c ps
moved-path c ps = ap (moved c) (pairs-path c ps) ∙ moved-between c ps

-- one more pair of a path
pub record IsPushed (before : List Point) (from : Point) (parameters : List ℕ) (points : List Point) (c : Point)
    (rest : List ℕ) : Type 0 where
  pub points_are : points ++ positions c (pairs_of rest) ≡ before ++ positions from (pairs_of parameters)
  pub end_is : moved c (pairs_of rest) ≡ moved from (pairs_of parameters)
  pub places : ArePlaces (positions c (pairs_of rest))

pub pushes : {before : List Point} {from : Point} {parameters : List ℕ} {points : List Point} {c : Point} {rest : List ℕ}
    → IsPushed before from parameters points c rest → 2 ≤ length rest → (to : Point) → to ≡ stepped c (first_pair rest)
    → IsPushed before from parameters (points ++ to ∷ []) to (take (length rest - 2) (drop 2 rest))
pushes {before} {from} {parameters} {points} {c} {rest} p two to is =
    let front = pairs_front rest two in
    let here : IsPushed before from parameters (points ++ stepped c (first_pair rest) ∷ [])
    (stepped c (first_pair rest)) (drop 2 rest) = record {
      points_are =
          append_assoc points (stepped c (first_pair rest) ∷ [])
          (positions (stepped c (first_pair rest)) (pairs_of (drop 2 rest)))
          ∙ ap (λ ds. points ++ positions c ds) (sym front) ∙ p.points_are;
      end_is = ap (moved c) (sym front) ∙ p.end_is;
      places = (subst (λ ds. ArePlaces (positions c ds)) front p.places).1;
    } in
    rw (take_rest rest 2, is) here

-- a line in front of the integers
pub record Front (from : Point) (ints : List ℕ) (line : List Point) (more : List ℕ) : Type 0 where
  pub head : Point
  pub tail : List Point
  pub line_is : line ≡ head ∷ tail
  pub ints_are : ints ≡ 9 ∷ (path_from from (head ∷ []) ++ ((2 + 8 * length tail) ∷ (path_from head tail ++ more)))
  pub few : length tail < 2 ^ 29
  pub places : ArePlaces (head ∷ tail)

pub front_is : (from : Point) (ints : List ℕ) (line : List Point) (more : List ℕ) → IsFront from ints line more → Front from ints line more
front_is from ints [] more f = absurd (omega (arith, f.is.enough))
front_is from ints (p ∷ ps) more f = record {
  head = p;
  tail = ps;
  line_is = refl;
  ints_are = f.spelled ∙ stroke-more [] from p ps more;
  few = omega (arith, f.is.few);
  places = f.is.places;
}

-- the first of some lines
pub lines_front : (end : List ℕ) (c : Point) (ints : List ℕ) (l : List Point) (ls : List (List Point))
    → SpellLines end c ints (l ∷ ls) → IsFront c ints l (end ++ strokes end (last_of c l) ls)
lines_front end c ints [] ls a = absurd (omega (arith, a.are.0.enough))
lines_front end c ints (p ∷ ps) ls a = record {
  is = a.are.0;
  spelled =
      a.spelled ∙ stroke-more end c p ps (strokes end (last_of p ps) ls)
      ∙ sym (stroke-more [] c p ps (end ++ strokes end (last_of p ps) ls));
}

-- the parts of a line in front
module _ {from : Point} {ints : List ℕ} {line : List Point} {more : List ℕ} (f : Front from ints line more)
    (front back : List ℕ) (front_part : front ≡ take 4 ints) (back_part : back ≡ drop 4 ints) where
  pub front_are : front ≡ 9 ∷ (path_from from (f.head ∷ []) ++ ((2 + 8 * length f.tail) ∷ []))
  front_are = front_part ∙ ap (take 4) f.ints_are

  pub count_is : get_or front 3 0 / 8 ≡ length f.tail
  count_is = ap (λ xs. get_or xs 3 0 / 8) front_are ∙ eighth (length f.tail)
    where
      eighth : (n : ℕ) → (2 + 8 * n) / 8 ≡ n
      eighth n = omega arith

  pub first_pairs : take 2 (drop 1 front) ≡ path_from from (f.head ∷ [])
  first_pairs = ap (λ xs. take 2 (drop 1 xs)) front_are

  pub back_is : back ≡ path_from f.head f.tail ++ more
  back_is = back_part ∙ ap (drop 4) f.ints_are

  pub pairs_are : take (2 * (get_or front 3 0 / 8)) back ≡ path_from f.head f.tail
  pairs_are =
      ap₂ (λ n xs. take (2 * n) xs) count_is back_is
      ∙ take_at (path_from f.head f.tail) more (2 * length f.tail) (length-path f.head f.tail)

  pub after_is : drop (2 * (get_or front 3 0 / 8)) back ≡ more
  after_is =
      ap₂ (λ n xs. drop (2 * n) xs) count_is back_is
      ∙ drop_at (path_from f.head f.tail) more (2 * length f.tail) (length-path f.head f.tail)

  pub room_for : 2 * (get_or front 3 0 / 8) ≤ length back
  room_for = omega (arith, count_is, ap length back_is, length-append (path_from f.head f.tail) more, length-path f.head f.tail)

  pub first_points : positions from (pairs_of (take 2 (drop 1 front))) ≡ f.head ∷ []
  first_points = ap (λ xs. positions from (pairs_of xs)) first_pairs ∙ positions-path from (f.head ∷ [])

  pub first_end : moved from (pairs_of (take 2 (drop 1 front))) ≡ f.head
  first_end = ap (λ xs. moved from (pairs_of xs)) first_pairs ∙ moved-path from (f.head ∷ [])

  pub other_points : positions f.head (pairs_of (take (2 * (get_or front 3 0 / 8)) back)) ≡ f.tail
  other_points = ap (λ xs. positions f.head (pairs_of xs)) pairs_are ∙ positions-path f.head f.tail

  pub other_end : moved f.head (pairs_of (take (2 * (get_or front 3 0 / 8)) back)) ≡ last_of from line
  other_end = ap (λ xs. moved f.head (pairs_of xs)) pairs_are ∙ moved-path f.head f.tail ∙ sym (ap (last_of from) f.line_is)

-- the first line, where integers are left
pub record FirstLine (end : List ℕ) (c : Point) (ints : List ℕ) (lines : List (List Point)) : Type 0 where
  pub line : List Point
  pub others : List (List Point)
  pub lines_are : lines ≡ line ∷ others
  pub front : IsFront c ints line (end ++ strokes end (last_of c line) others)
  pub others_are : (d : Point) (rest : List ℕ) → d ≡ last_of c line → rest ≡ strokes end (last_of c line) others
      → SpellLines end d rest others

lines_first : (end : List ℕ) (c : Point) (ints : List ℕ) (l : List Point) (ls : List (List Point))
    → SpellLines end c ints (l ∷ ls) → FirstLine end c ints (l ∷ ls)
lines_first end c ints l ls a = record {
  line = l;
  others = ls;
  lines_are = refl;
  front = lines_front end c ints l ls a;
  others_are = λ d rest e f. record { are = a.are.1; spelled = f ∙ ap (λ p. strokes end p ls) (sym e) };
}

pub rings_first : {ints : List ℕ} {rings : List (List Point)} → SpellRings ints rings → FirstLine (15 ∷ []) origin ints rings
rings_first {rings = []} a = absurd (omega (arith, a.some))
rings_first {ints = ints} {rings = l ∷ ls} a = lines_first (15 ∷ []) origin ints l ls a.lines

pub more_lines : {end : List ℕ} {c : Point} {ints : List ℕ} {lines : List (List Point)} → SpellLines end c ints lines
    → 0 < length ints → FirstLine end c ints lines
more_lines {lines = []} a some = absurd (omega (arith, some, ap length a.spelled))
more_lines {end = end} {c = c} {ints = ints} {lines = l ∷ ls} a some = lines_first end c ints l ls a

pub end_of_lines : {end : List ℕ} {c : Point} {ints : List ℕ} {lines : List (List Point)} → SpellLines end c ints lines
    → length ints ≡ 0 → lines ≡ []
end_of_lines {lines = []} a none = refl
end_of_lines {lines = [] ∷ ls} a none = absurd (omega (arith, a.are.0.enough))
end_of_lines {lines = (p ∷ ps) ∷ ls} a none = absurd (omega (arith, none, ap length a.spelled))

-- what integers draw, by kind
pub draws_points : (ints : List ℕ) (g : Geometry) → Draws kinds.Point ints g
    → (ps : List Point) × (g ≡ Points ps) × ArePlaces ps × (drop 1 ints ≡ path_from origin ps)
draws_points ints (Unknown u) d = cc d.same_kind
draws_points ints (Points ps) d = (ps, refl, d.valid.2, ap (drop 1) d.spelled)
draws_points ints (Lines ls) d = cc d.same_kind
draws_points ints (Polygons ps) d = cc d.same_kind

pub draws_lines : (ints : List ℕ) (g : Geometry) → Draws kinds.LineString ints g
    → (ls : List (List Point)) × (g ≡ Lines ls) × SpellLines [] origin ints ls
draws_lines ints (Unknown u) d = cc d.same_kind
draws_lines ints (Points ps) d = cc d.same_kind
draws_lines ints (Lines ls) d = (ls, refl, record { are = d.valid.1; spelled = d.spelled })
draws_lines ints (Polygons ps) d = cc d.same_kind

some_rings : (polygons : List Polygon) → Grouped (rings_of polygons) polygons → 0 < length (rings_of polygons)
some_rings [] h = absurd h
some_rings (p ∷ polygons) h = omega arith

pub draws_polygons : (ints : List ℕ) (g : Geometry) → Draws kinds.Polygon ints g
    → (polygons : List Polygon) × (g ≡ Polygons polygons) × SpellRings ints (rings_of polygons)
    × (polygons_of (rings_of polygons) ≡ polygons) × Grouped (rings_of polygons) polygons
draws_polygons ints (Unknown u) d = cc d.same_kind
draws_polygons ints (Points ps) d = cc d.same_kind
draws_polygons ints (Lines ls) d = cc d.same_kind
draws_polygons ints (Polygons polygons) d =
    let rings = rings_of polygons in
    let weaker =
    all_weaker (IsStroke 3) (IsStroke 2)
    (λ l is. record { enough = omega (arith, is.enough); few = is.few; apart = is.apart; places = is.places }) rings
    d.valid.1 in (
      polygons,
      refl,
      record { lines = record { are = weaker; spelled = d.spelled }; some = some_rings polygons d.valid.0 },
      one_grouping rings polygons d.valid.0,
      d.valid.0,
    )
