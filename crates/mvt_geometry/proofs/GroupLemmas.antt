-- A list of rings has one grouping.
use Rattle.std.proofs.Common.{◌≡◌, true, false, pos, ◌≤ℤ◌, ◌<ℤ◌, List, [], ◌∷◌, ◌++◌, refl, sym, ap, ◌∙◌, arith, append-nil}
use Rattle.std.specs.List.{AllByRecursion}
use Rattle.std.specs.Int.Signed.{lt_z}
use Rattle.std.proofs.lemmas.Int.{ints, by_lt_z}
use Rattle.mvt_geometry.specs.declared.shape.Point.{Point}
use Rattle.mvt_geometry.specs.declared.shape.Polygon.{Polygon}
use Rattle.mvt_geometry.specs.Shape.{rings_of}
use Rattle.mvt_geometry.specs.Area.{area2}
use Rattle.mvt_geometry.specs.Valid.{AreInner, Grouped}
use Rattle.mvt_geometry.specs.Inner.Grouping.{Groups, with_ring, groups_of, polygons_of}

-- polygons that an exterior ring opens
abbrev pub AreOpened : List Polygon → Type 0
AreOpened polygons = AllByRecursion (λ q. (pos 0 <ℤ area2 q.outer) × AreInner q.rest) polygons

pub opens : (ring : List Point) (groups : Groups) → pos 0 <ℤ area2 ring
    → with_ring ring groups ≡ record { inner = []; polygons = record { outer = ring; rest = groups.inner } ∷ groups.polygons }
opens ring groups h = let t : lt_z (pos 0) (area2 ring) ≡ true = grind (arith, ints) in rw t refl

pub joins : (ring : List Point) (groups : Groups) → area2 ring ≤ℤ pos 0
    → with_ring ring groups ≡ record { inner = ring ∷ groups.inner; polygons = groups.polygons }
joins ring groups h = let t : lt_z (pos 0) (area2 ring) ≡ false = grind (arith, ints) in rw t refl

-- the groups are groups of these rings
record AreGroups (rings : List (List Point)) (groups : Groups) : Type 0 where
  whole : groups.inner ++ rings_of groups.polygons ≡ rings
  inner : AreInner groups.inner
  exterior : AreOpened groups.polygons

grouped_from : (rings : List (List Point)) → AreGroups rings (groups_of rings)
grouped_from [] = record { whole = refl; inner = tt; exterior = tt }
grouped_from (ring ∷ rings) =
    let more = grouped_from rings in
    let open_one : pos 0 <ℤ area2 ring → AreGroups (ring ∷ rings) (groups_of (ring ∷ rings)) =
    λ h. rw (opens ring (groups_of rings) h)
    (record { whole = ap (λ rs. ring ∷ rs) more.whole; inner = tt; exterior = ((h, more.inner), more.exterior) }) in
    let join_one : area2 ring ≤ℤ pos 0 → AreGroups (ring ∷ rings) (groups_of (ring ∷ rings)) =
    λ h. rw (joins ring (groups_of rings) h)
    (record { whole = ap (λ rs. ring ∷ rs) more.whole; inner = (h, more.inner); exterior = more.exterior }) in
    by_lt_z (pos 0) (area2 ring) open_one join_one

-- rings of which the first has no negative area are grouped
pub rings_grouped : (ring : List Point) (rings : List (List Point)) → pos 0 ≤ℤ area2 ring
    → Grouped (ring ∷ rings) (polygons_of (ring ∷ rings))
rings_grouped ring rings h =
    let more = grouped_from rings in
    (ap (λ rs. ring ∷ rs) (sym more.whole), h, more.inner, more.exterior)

inner_front : (inner rings : List (List Point)) → AreInner inner
    → groups_of (inner ++ rings) ≡ record { inner = inner ++ (groups_of rings).inner; polygons = (groups_of rings).polygons }
inner_front [] rings h = refl
inner_front (ring ∷ inner) rings h = ap (with_ring ring) (inner_front inner rings h.1) ∙ joins ring _ h.0

groups_same : (polygons : List Polygon) → AreOpened polygons → groups_of (rings_of polygons) ≡ record { inner = []; polygons = polygons }
groups_same [] h = refl
groups_same (q ∷ polygons) h =
    let more = groups_same polygons h.1 in
    let inner = inner_front q.rest (rings_of polygons) h.0.1 in
    opens q.outer (groups_of (q.rest ++ rings_of polygons)) h.0.0
    ∙ ap (λ (groups : Groups). let r : Groups = record {
      inner = [];
      polygons = record { outer = q.outer; rest = groups.inner } ∷ groups.polygons;
    } in
    r) (inner ∙ ap (λ (groups : Groups). let r : Groups = record {
      inner = q.rest ++ groups.inner;
      polygons = groups.polygons;
    } in r) more) ∙ ap (λ rest. let r : Groups =
    record { inner = []; polygons = record { outer = q.outer; rest = rest } ∷ polygons } in r) (append-nil q.rest)

-- and their grouping is that one
pub one_grouping : (rings : List (List Point)) (polygons : List Polygon) → Grouped rings polygons → polygons_of rings ≡ polygons
one_grouping rings [] h = absurd h
one_grouping rings (p ∷ polygons) h =
    let inner =
    inner_front p.rest (rings_of polygons) h.2
    ∙ ap (λ (groups : Groups). let r : Groups = record { inner = p.rest ++ groups.inner; polygons = groups.polygons } in r)
    (groups_same polygons h.3) in
    ap polygons_of h.0 ∙ ap (λ (groups : Groups). record { outer = p.outer; rest = groups.inner } ∷ groups.polygons) inner
    ∙ ap (λ rest. record { outer = p.outer; rest = rest } ∷ polygons) (append-nil p.rest)
