-- Geometries that are drawn from their rows, part by part.
use Rattle.std.proofs.Common.{arith, ◌≡◌, ℕ, suc, ◌<◌, pos, ◌≤ℤ◌, ◌<ℤ◌, Bool, true, false, List, [], ◌∷◌, ◌++◌, length, get_or, map, take, Option, Some, None, Result, Ok, Err, refl, sym, ap, ap₂, ◌∙◌, subst, append_assoc, append-nil, length-take}
use Rattle.std.specs.List.{AllByRecursion, flat_map}
use Rattle.std.specs.Option.{option_map, option_and_then}
use Rattle.std.specs.Prelude.{◌↔◌, ◌==◌, if◌then◌else◌}
use Rattle.std.proofs.lemmas.Grind.{flat_map-append}
use Rattle.std.proofs.lemmas.List.{map-append}
use Rattle.mvt_base.proofs.ListLemmas.{all_joined, all_left, all_right}
use Rattle.mvt_geometry.specs.declared.strokes.RingRole.{RingRole}
use Rattle.mvt_geometry.specs.declared.strokes.RingRole.TheVariants.{First, Exterior, Interior}
use Rattle.mvt_geometry.specs.declared.shape.Geometry.{Geometry}
use Rattle.mvt_geometry.specs.declared.shape.Geometry.TheVariants.{Unknown, Points, Lines, Polygons}
use Rattle.mvt_geometry.specs.declared.shape.Kind.TheVariants as kinds
use Rattle.mvt_geometry.specs.declared.shape.Point.{Point}
use Rattle.mvt_geometry.specs.declared.shape.Polygon.{Polygon}
use Rattle.mvt_geometry.specs.Area.{area2}
use Rattle.mvt_geometry.specs.Drawing.{drawn, stroke, strokes}
use Rattle.mvt_geometry.specs.Parts.{AreStrokes, HasAreaOf, HaveAreas, IsStrokeFrom, end_of}
use Rattle.mvt_geometry.specs.Shape.{kind_of, last_of, origin, rings_of}
use Rattle.mvt_geometry.specs.Valid.{AreInner, Grouped, IsValid}
use Rattle.mvt_geometry.proofs.GeometryLaws.{end_follows, stroke_follows, strokes_follow}
use Rattle.mvt_rows.specs.declared.rows.FeatureRow.{FeatureRow}
use Rattle.mvt_rows.specs.declared.rows.PartRow.{PartRow}
use Rattle.mvt_rows.specs.declared.rows.PointRow.{PointRow}
use Rattle.mvt_rows.specs.declared.undrawn.DrawingRule.TheVariants.{EndsEarly}
use Rattle.mvt_rows.specs.declared.undrawn.Undrawn.{Undrawn}
use Rattle.mvt_rows.specs.Drawing.{AreDrawn, AreJudged, DrawnLines, DrawnPolygons, HasBegun, IsFollowedBy, IsUndrawable, ring_role, role_of}
use Rattle.mvt_rows.specs.Tables.{Table}
use Rattle.mvt_rows.specs.TileRows.{drawn_of, each, geometry_of, line_of, part_of, point_of, points_of, truth_of, with_inner, with_ring, with_ring_row}
use Rattle.mvt_rows.specs.Undrawn.{Stroke, a_line, a_ring, further_rings, of_part, parts_fault, some_fault, strokes_of, undrawn_by}

-- ---- one geometry

pub drawn_as : (of_rows : Option Geometry) (g : Geometry) (integers : List ℕ) → of_rows ≡ Some g → IsValid g → integers ≡ drawn g
    → AreDrawn of_rows (kind_of g) integers
drawn_as of_rows g integers is valid spelled = (g, is, record { same_kind = refl; valid = valid; spelled = spelled })

pub not_valid : (of_rows : Option Geometry) (g : Geometry) (undrawn : Undrawn) → of_rows ≡ Some g → (IsValid g → ⊥)
    → undrawn_by g ≡ Some undrawn → IsUndrawable of_rows undrawn
not_valid of_rows g undrawn is not rule = subst (λ o. IsUndrawable o undrawn) (sym is) (not, rule)

pub line_is : (points : List PointRow) (row : PartRow) (rows : List PointRow) → part_of points row.points ≡ Some rows
    → line_of points row ≡ Some (map point_of rows)
line_is points row rows is = ap (option_map (λ r. map point_of r)) is

pub no_line : (points : List PointRow) (row : PartRow) → part_of points row.points ≡ None → line_of points row ≡ None
no_line points row none = ap (option_map (λ r. map point_of r)) none

-- ---- a line or a ring more

pub strokes_more : (least : ℕ) (end : List ℕ) (lines : List (List Point)) (l : List Point) (cursor last : Point) (integers now : List ℕ)
    → AreStrokes least lines → cursor ≡ end_of lines → integers ≡ strokes end origin lines
    → IsStrokeFrom least cursor l → now ≡ integers ++ stroke end cursor l → last ≡ last_of cursor l
    → AreStrokes least (lines ++ l ∷ []) × (last ≡ end_of (lines ++ l ∷ [])) × (now ≡ strokes end origin (lines ++ l ∷ []))
strokes_more least end lines l cursor last integers now are at spelled from put last_is = (
  (stroke_follows least lines l).1 (are, subst (λ c. IsStrokeFrom least c l) at from),
  last_is ∙ ap (λ c. last_of c l) at ∙ sym (end_follows lines l),
  put ∙ ap₂ (λ xs c. xs ++ stroke end c l) spelled at ∙ sym (strokes_follow end lines l),
)

not_from : (least : ℕ) (lines : List (List Point)) (l : List Point) (cursor : Point) → cursor ≡ end_of lines
    → AreStrokes least (lines ++ l ∷ []) → IsStrokeFrom least cursor l
not_from least lines l cursor at h = subst (λ c. IsStrokeFrom least c l) (sym at) ((stroke_follows least lines l).0 h).1

-- ---- lines

pub line_drawn : (lines : List (List Point)) (l : List Point) (cursor last : Point) (integers now : List ℕ)
    → DrawnLines lines (Ok cursor) integers
    → IsStrokeFrom 2 cursor l → now ≡ integers ++ stroke [] cursor l → last ≡ last_of cursor l
    → DrawnLines (lines ++ l ∷ []) (Ok last) now
line_drawn lines l cursor last integers now h from put last_is = strokes_more 2 [] lines l cursor last integers now h.0 h.1 h.2 from put
    last_is

pub line_not_drawn : (lines : List (List Point)) (l : List Point) (cursor : Point) (undrawn : Undrawn) (integers now : List ℕ)
    → DrawnLines lines (Ok cursor) integers
    → (IsStrokeFrom 2 cursor l → ⊥) → DrawnLines (lines ++ l ∷ []) (Err undrawn) now
line_not_drawn lines l cursor undrawn integers now h not are = not (not_from 2 lines l cursor h.1 are)

pub line_passed : (lines : List (List Point)) (l : List Point) (undrawn : Undrawn) (integers now : List ℕ)
    → DrawnLines lines (Err undrawn) integers → DrawnLines (lines ++ l ∷ []) (Err undrawn) now
line_passed lines l undrawn integers now h are = h ((stroke_follows 2 lines l).0 are).0

push_length : {Y : Type 0} → (o : Option Y) (p : Option (List Y)) (ys : List Y) (n : ℕ) → ((zs : List Y) → p ≡ Some zs → n ≡ length zs)
    → option_and_then (λ y. option_map (λ zs. y ∷ zs) p) o ≡ Some ys → suc n ≡ length ys
push_length None p ys n next h = cc
push_length (Some y) None ys n next h = cc
push_length (Some y) (Some zs) ys n next h = let same : y ∷ zs ≡ ys = cc in ap suc (next zs refl) ∙ ap length same

pub each_length : {X Y : Type 0} → (f : X → Option Y) (xs : List X) (ys : List Y) → each f xs ≡ Some ys → length xs ≡ length ys
each_length f [] ys h = let same : [] ≡ ys = cc in ap length same
each_length f (x ∷ xs) ys h = push_length (f x) (each f xs) ys (length xs) (λ zs made. each_length f xs zs made) h

-- how many lines the first rows are
pub each_count : {X Y : Type 0} → (f : X → Option Y) (xs : List X) (i : ℕ) (ys : List Y) → i < length xs → each f (take i xs) ≡ Some ys
    → length ys ≡ i
each_count f xs i ys within made = let size = length-take i xs in omega (arith, within, size, each_length f (take i xs) ys made)

lines_rule : (lines : List (List Point)) → 0 < length lines → some_fault (map a_line lines) ≡ parts_fault 0 origin (map a_line lines)
lines_rule [] some = absurd (omega (arith, some))
lines_rule (l ∷ lines) some = refl

pub lines_drawn : (made : Option (List (List Point))) (lines : List (List Point)) (cursor : Result Point Undrawn) (end : Point)
    (integers : List ℕ)
    → made ≡ Some lines
    → 0 < length lines → cursor ≡ Ok end → DrawnLines lines cursor integers
    → AreDrawn (option_map Lines made) kinds.LineString integers
lines_drawn made lines (Err undrawn) end integers is some there h = cc
lines_drawn made lines (Ok cursor) end integers is some there h =
    drawn_as (option_map Lines made) (Lines lines) integers (ap (option_map Lines) is) (some, h.0.are, h.0.steps) h.2

pub lines_not_drawn : (made : Option (List (List Point))) (lines : List (List Point)) (cursor : Result Point Undrawn) (undrawn : Undrawn)
    (integers : List ℕ)
    → made ≡ Some lines
    → 0 < length lines → cursor ≡ Err undrawn → DrawnLines lines cursor integers → AreJudged (map a_line lines) cursor
    → IsUndrawable (option_map Lines made) undrawn
lines_not_drawn made lines (Ok cursor) undrawn integers is some there h judged = cc
lines_not_drawn made lines (Err found) undrawn integers is some there h judged =
    let same : found ≡ undrawn = cc in
    not_valid (option_map Lines made) (Lines lines) undrawn (ap (option_map Lines) is) (λ v. h (record { are = v.1; steps = v.2 }))
    (lines_rule lines some ∙ judged ∙ ap Some same)

pub no_lines : (made : Option (List (List Point))) (lines : List (List Point)) (undrawn : Undrawn) → made ≡ Some lines → length lines ≡ 0
    → undrawn ≡ of_part 0 EndsEarly → IsUndrawable (option_map Lines made) undrawn
no_lines made [] undrawn is none told =
    not_valid (option_map Lines made) (Lines []) undrawn (ap (option_map Lines) is) (λ v. omega (arith, v.0)) (ap Some (sym told))
no_lines made (l ∷ lines) undrawn is none told = absurd (omega (arith, none))

-- ---- polygons

abbrev IsOther : Polygon → Type 0
IsOther q = (pos 0 <ℤ area2 q.outer) × AreInner q.rest

inner_push : (rings : List (List Point)) (ring : List Point) → AreInner (rings ++ ring ∷ []) ↔ (AreInner rings × (area2 ring ≤ℤ pos 0))
inner_push rings ring = (
  λ h. (all_left (λ r. area2 r ≤ℤ pos 0) rings (ring ∷ []) h, (all_right (λ r. area2 r ≤ℤ pos 0) rings (ring ∷ []) h).0),
  λ h. all_joined (λ r. area2 r ≤ℤ pos 0) rings (ring ∷ []) h.0 (h.1, tt),
)

-- a polygon more
outer_follows : (ps : List Polygon) (ring : List Point) (role : RingRole)
    → (HaveAreas (ps ++ record { outer = ring; rest = [] } ∷ []) ↔ (HaveAreas ps × HasAreaOf role (area2 ring)))
    → strokes_of (ps ++ record { outer = ring; rest = [] } ∷ []) ≡ strokes_of ps ++ a_ring role ring ∷ []
    → IsFollowedBy role ps ring (ps ++ record { outer = ring; rest = [] } ∷ [])
outer_follows ps ring role areas parts = record {
  rings = flat_map-append (λ p. p.outer ∷ p.rest) ps (record { outer = ring; rest = [] } ∷ []);
  areas = areas;
  parts = parts;
}

further_follows : (p : Polygon) (ps : List Polygon) (ring : List Point)
    → strokes_of ((p ∷ ps) ++ record { outer = ring; rest = [] } ∷ []) ≡ strokes_of (p ∷ ps) ++ a_ring Exterior ring ∷ []
further_follows p ps ring =
    let q : Polygon = record { outer = ring; rest = [] } in
    let first = a_ring First p.outer ∷ map (a_ring Interior) p.rest in
    ap (λ rs. first ++ rs) (flat_map-append further_rings ps (q ∷ []))
    ∙ sym (append_assoc first (flat_map further_rings ps) (a_ring Exterior ring ∷ []))

inner_follows : (first : Stroke) (rest : List (List Point)) (ring : List Point)
    → (first ∷ map (a_ring Interior) (rest ++ ring ∷ [])) ++ []
    ≡ ((first ∷ map (a_ring Interior) rest) ++ []) ++ a_ring Interior ring ∷ []
inner_follows first rest ring =
    append-nil (first ∷ map (a_ring Interior) (rest ++ ring ∷ []))
    ∙ ap (λ rs. first ∷ rs) (map-append (a_ring Interior) rest (ring ∷ []))
    ∙ ap (λ rs. rs ++ a_ring Interior ring ∷ []) (sym (append-nil (first ∷ map (a_ring Interior) rest)))

more_follow : (front before after : List Stroke) (s : Stroke) → after ≡ before ++ s ∷ [] → front ++ after ≡ (front ++ before) ++ s ∷ []
more_follow front before after s is = ap (λ rs. front ++ rs) is ∙ sym (append_assoc front before (s ∷ []))

others_more : (p : Polygon) (ps : List Polygon) (ring : List Point)
    → HaveAreas ((p ∷ ps) ++ record { outer = ring; rest = [] } ∷ []) ↔ (HaveAreas (p ∷ ps) × (pos 0 <ℤ area2 ring))
others_more p ps ring =
    let q : Polygon = record { outer = ring; rest = [] } in (
      λ h. ((h.0, h.1, all_left IsOther ps (q ∷ []) h.2), (all_right IsOther ps (q ∷ []) h.2).0.0),
      λ h. (h.0.0, h.0.1, all_joined IsOther ps (q ∷ []) h.0.2 ((h.1, tt), tt)),
    )

-- a ring more of the last polygon
record HasInner (p : Polygon) (ps : List Polygon) (ring : List Point) : Type 0 where
  next : List Polygon
  made : with_inner (p ∷ ps) ring ≡ Some next
  rings : rings_of next ≡ rings_of (p ∷ ps) ++ ring ∷ []
  some : 0 < length next
  first : HaveAreas next ↔ (HaveAreas (p ∷ ps) × (area2 ring ≤ℤ pos 0))
  others : AllByRecursion IsOther next ↔ (AllByRecursion IsOther (p ∷ ps) × (area2 ring ≤ℤ pos 0))
  parts : strokes_of next ≡ strokes_of (p ∷ ps) ++ a_ring Interior ring ∷ []
  further : flat_map further_rings next ≡ flat_map further_rings (p ∷ ps) ++ a_ring Interior ring ∷ []

inner_made : (p : Polygon) (ps : List Polygon) (ring : List Point) → HasInner p ps ring
inner_made p [] ring =
    let inner = inner_push p.rest ring in
    record {
      next = record p { rest = p.rest ++ ring ∷ [] } ∷ [];
      made = refl;
      rings = append-nil (p.outer ∷ (p.rest ++ ring ∷ [])) ∙ ap (λ rs. rs ++ ring ∷ []) (sym (append-nil (p.outer ∷ p.rest)));
      some = omega arith;
      first = (λ h. let i = inner.0 h.1 in ((h.0, i.0, tt), i.1), λ h. (h.0.0, inner.1 (h.0.1, h.1), tt));
      others = (λ h. let i = inner.0 h.0.1 in (((h.0.0, i.0), tt), i.1), λ h. ((h.0.0.0, inner.1 (h.0.0.1, h.1)), tt));
      parts = inner_follows (a_ring First p.outer) p.rest ring;
      further = inner_follows (a_ring Exterior p.outer) p.rest ring;
    }
inner_made p (q ∷ ps) ring =
    let more = inner_made q ps ring in
    record {
      next = p ∷ more.next;
      made = ap (option_map (λ m. p ∷ m)) more.made;
      rings = ap (λ rs. (p.outer ∷ p.rest) ++ rs) more.rings ∙ sym (append_assoc (p.outer ∷ p.rest) (rings_of (q ∷ ps)) (ring ∷ []));
      some = omega arith;
      first = (λ h. let o = more.others.0 h.2 in ((h.0, h.1, o.0), o.1), λ h. (h.0.0, h.0.1, more.others.1 (h.0.2, h.1)));
      others = (λ h. let o = more.others.0 h.1 in ((h.0, o.0), o.1), λ h. (h.0.0, more.others.1 (h.0.1, h.1)));
      parts =
          more_follow (a_ring First p.outer ∷ map (a_ring Interior) p.rest) (flat_map further_rings (q ∷ ps))
          (flat_map further_rings more.next)
          (a_ring Interior ring) more.further;
      further =
          more_follow (further_rings p) (flat_map further_rings (q ∷ ps)) (flat_map further_rings more.next) (a_ring Interior ring)
          more.further;
    }

-- what a ring of a role makes of the polygons before it
pub record Follows (role : RingRole) (before : List Polygon) (exterior : Bool) (ring : List Point) : Type 0 where
  pub next : List Polygon
  pub made : with_ring before exterior ring ≡ Some next
  pub is : IsFollowedBy role before ring next
  pub some : 0 < length next

pub ring_follows : (ps : List Polygon) (exterior begun : Bool) (role : RingRole) (ring : List Point) → HasBegun begun ps
    → ring_role exterior begun ≡ Some role → Follows role ps exterior ring
ring_follows [] true false role ring h is =
    let same : First ≡ role = cc in
    subst (λ r. Follows r [] true ring) same
    (record {
      next = record { outer = ring; rest = [] } ∷ [];
      made = refl;
      is = outer_follows [] ring First (λ a. (tt, a.0), λ a. (a.1, tt, tt)) refl;
      some = omega arith;
    })
ring_follows (p ∷ ps) true false role ring h is = cc
ring_follows [] exterior true role ring h is = absurd (omega (arith, h))
ring_follows (p ∷ ps) true true role ring h is =
    let same : Exterior ≡ role = cc in
    subst (λ r. Follows r (p ∷ ps) true ring) same
    (record {
      next = (p ∷ ps) ++ record { outer = ring; rest = [] } ∷ [];
      made = refl;
      is = outer_follows (p ∷ ps) ring Exterior (others_more p ps ring) (further_follows p ps ring);
      some = omega arith;
    })
ring_follows (p ∷ ps) false true role ring h is =
    let same : Interior ≡ role = cc in
    let inner = inner_made p ps ring in
    subst (λ r. Follows r (p ∷ ps) false ring) same
    (record { next = inner.next; made = inner.made; is = record { rings = inner.rings; areas = inner.first; parts = inner.parts }; some = inner.some })
ring_follows ps false false role ring h is = cc

-- a row whose ring has a role
pub row_follows : (points : List PointRow) (ps : List Polygon) (row : PartRow) (begun : Bool) (role : RingRole) (ring : List Point)
    → HasBegun begun ps → line_of points row ≡ Some ring → role_of row begun ≡ Some role
    → (next : List Polygon) × (with_ring_row points ps row ≡ Some next) × IsFollowedBy role ps ring next × (0 < length next)
row_follows points ps row begun role ring h line is = by_truth (truth_of row.exterior) refl is
  where
    by_truth : (truth : Option Bool) → truth_of row.exterior ≡ truth → option_and_then (λ e. ring_role e begun) truth ≡ Some role
        → (next : List Polygon) × (with_ring_row points ps row ≡ Some next) × IsFollowedBy role ps ring next × (0 < length next)
    by_truth None t r = cc
    by_truth (Some exterior) t r =
        let f = ring_follows ps exterior begun role ring h r in (
          f.next,
          ap₂ (λ l e. option_and_then (λ r. option_and_then (λ x. with_ring ps x r) e) l) line t ∙ f.made,
          f.is,
          f.some,
        )

-- and one whose ring has none
pub row_stops : (points : List PointRow) (ps : List Polygon) (row : PartRow) (begun : Bool) (ring : List Point) → HasBegun begun ps
    → line_of points row ≡ Some ring → role_of row begun ≡ None → with_ring_row points ps row ≡ None
row_stops points ps row begun ring h line is = by_truth (truth_of row.exterior) refl is
  where
    no_role : (qs : List Polygon) (e b : Bool) → HasBegun b qs → ring_role e b ≡ None → with_ring qs e ring ≡ None
    no_role qs true false has n = cc
    no_role qs true true has n = cc
    no_role qs false true has n = cc
    no_role [] false false has n = refl
    no_role (q ∷ qs) false false has n = cc

    by_truth : (truth : Option Bool) → truth_of row.exterior ≡ truth → option_and_then (λ e. ring_role e begun) truth ≡ None
        → with_ring_row points ps row ≡ None
    by_truth None t r = ap₂ (λ l e. option_and_then (λ r. option_and_then (λ x. with_ring ps x r) e) l) line t
    by_truth (Some exterior) t r =
        ap₂ (λ l e. option_and_then (λ r. option_and_then (λ x. with_ring ps x r) e) l) line t ∙ no_role ps exterior begun h r

pub row_without : (points : List PointRow) (ps : List Polygon) (row : PartRow) → line_of points row ≡ None
    → with_ring_row points ps row ≡ None
row_without points ps row none =
    ap (option_and_then (λ r. option_and_then (λ x. with_ring ps x r) (truth_of row.exterior))) none

pub ring_drawn : (role : RingRole) (ps next : List Polygon) (ring : List Point) (cursor last : Point) (integers now : List ℕ)
    → IsFollowedBy role ps ring next → DrawnPolygons ps (Ok cursor) integers → HasAreaOf role (area2 ring) → IsStrokeFrom 3 cursor ring
    → now ≡ integers ++ stroke (15 ∷ []) cursor ring → last ≡ last_of cursor ring → DrawnPolygons next (Ok last) now
ring_drawn role ps next ring cursor last integers now follows h area from put last_is =
    let more = strokes_more 3 (15 ∷ []) (rings_of ps) ring cursor last integers now h.0 h.2 h.3 from put last_is in (
      subst (AreStrokes 3) (sym follows.rings) more.0,
      follows.areas.1 (h.1, area),
      more.1 ∙ ap end_of (sym follows.rings),
      more.2 ∙ ap (strokes (15 ∷ []) origin) (sym follows.rings),
    )

pub ring_not_drawn : (role : RingRole) (ps next : List Polygon) (ring : List Point) (cursor : Point) (undrawn : Undrawn)
    (integers now : List ℕ)
    → IsFollowedBy role ps ring next → DrawnPolygons ps (Ok cursor) integers
    → (HasAreaOf role (area2 ring) → IsStrokeFrom 3 cursor ring → ⊥) → DrawnPolygons next (Err undrawn) now
ring_not_drawn role ps next ring cursor undrawn integers now follows h not are areas =
    not (follows.areas.0 areas).1 (not_from 3 (rings_of ps) ring cursor h.2 (subst (AreStrokes 3) follows.rings are))

pub ring_passed : (role : RingRole) (ps next : List Polygon) (ring : List Point) (undrawn : Undrawn) (integers now : List ℕ)
    → IsFollowedBy role ps ring next → DrawnPolygons ps (Err undrawn) integers → DrawnPolygons next (Err undrawn) now
ring_passed role ps next ring undrawn integers now follows h are areas =
    h ((stroke_follows 3 (rings_of ps) ring).0 (subst (AreStrokes 3) follows.rings are)).0 (follows.areas.0 areas).0

grouped_of : (ps : List Polygon) → 0 < length ps → HaveAreas ps → Grouped (rings_of ps) ps
grouped_of [] some h = absurd (omega (arith, some))
grouped_of (p ∷ ps) some h = (refl, h.0, h.1, h.2)

areas_of : (ps : List Polygon) → Grouped (rings_of ps) ps → HaveAreas ps
areas_of [] h = tt
areas_of (p ∷ ps) h = (h.1, h.2, h.3)

polygons_rule : (ps : List Polygon) → 0 < length ps → some_fault (strokes_of ps) ≡ parts_fault 0 origin (strokes_of ps)
polygons_rule [] some = absurd (omega (arith, some))
polygons_rule (p ∷ ps) some = refl

pub polygons_drawn : (made : Option (List Polygon)) (ps : List Polygon) (cursor : Result Point Undrawn) (end : Point) (integers : List ℕ)
    → made ≡ Some ps
    → 0 < length ps
    → cursor ≡ Ok end → DrawnPolygons ps cursor integers → AreDrawn (option_map Polygons made) kinds.Polygon integers
polygons_drawn made ps (Err undrawn) end integers is some there h = cc
polygons_drawn made ps (Ok cursor) end integers is some there h =
    drawn_as (option_map Polygons made) (Polygons ps) integers (ap (option_map Polygons) is)
    (grouped_of ps some h.1, h.0.are, h.0.steps) h.3

pub polygons_not_drawn : (made : Option (List Polygon)) (ps : List Polygon) (cursor : Result Point Undrawn) (undrawn : Undrawn)
    (integers : List ℕ)
    → made ≡ Some ps
    → 0 < length ps → cursor ≡ Err undrawn → DrawnPolygons ps cursor integers → AreJudged (strokes_of ps) cursor
    → IsUndrawable (option_map Polygons made) undrawn
polygons_not_drawn made ps (Ok cursor) undrawn integers is some none h judged = cc
polygons_not_drawn made ps (Err found) undrawn integers is some none h judged =
    let same : found ≡ undrawn = cc in
    not_valid (option_map Polygons made) (Polygons ps) undrawn (ap (option_map Polygons) is)
    (λ v. h (record { are = v.1; steps = v.2 }) (areas_of ps v.0)) (polygons_rule ps some ∙ judged ∙ ap Some same)

pub no_polygons : (made : Option (List Polygon)) (ps : List Polygon) (undrawn : Undrawn) → made ≡ Some ps → ps ≡ []
    → undrawn ≡ of_part 0 EndsEarly → IsUndrawable (option_map Polygons made) undrawn
no_polygons made ps undrawn is none told =
    not_valid (option_map Polygons made) (Polygons ps) undrawn (ap (option_map Polygons) is)
    (λ v. subst (λ qs. Grouped (rings_of qs) qs) none v.0) (ap (λ qs. some_fault (strokes_of qs)) none ∙ ap Some (sym told))

-- ---- points

pub points_alone : (points : List PointRow) (rows : List PartRow) (d : PartRow) (found : List PointRow) → length rows ≡ 1
    → part_of points (get_or rows 0 d).points ≡ Some found → points_of points rows ≡ Some (Points (map point_of found))
points_alone points [] d found one is = absurd (omega (arith, one))
points_alone points (row ∷ []) d found one is = ap (option_map Points) (line_is points row found is)
points_alone points (row ∷ (other ∷ rows)) d found one is = absurd (omega (arith, one))

-- ---- integers of unknown type

pub integers_alone : (t : Table) (row : FeatureRow) (found : List ℕ) → row.kind ≡ 0 → part_of t.integers row.integers ≡ Some found
    → geometry_of t row ≡ Some (Unknown found)
integers_alone t row found kind is =
    subst (λ k. (if k == 0 then option_map Unknown (part_of t.integers row.integers)
    else option_and_then (drawn_of t.points k) (part_of t.parts row.parts)) ≡ Some (Unknown found)) (sym kind) (ap (option_map Unknown) is)
