-- How many lines or polygons the judge has passed: what is left of those that the integers draw.
use Rattle.std.proofs.Common.{◌≡◌, ◌≢◌, ℕ, zero, suc, ◌+◌, ◌*◌, ◌%◌, ◌<◌, ◌≤◌, List, [], ◌∷◌, ◌++◌, length, drop, ℤ, pos, ◌+ℤ◌, ◌<ℤ◌, ◌≤ℤ◌, refl, sym, ap, ap₂, subst, ◌∙◌, ◌⊎◌, inl, inr, arith, length-drop}
use Rattle.std.specs.List.{AllByRecursion}
use Rattle.mvt_geometry.specs.declared.shape.Point.{Point}
use Rattle.mvt_geometry.specs.declared.shape.Geometry.{Geometry}
use Rattle.mvt_geometry.specs.declared.shape.Geometry.TheVariants.{Unknown, Points, Lines, Polygons}
use Rattle.mvt_geometry.specs.declared.shape.Kind.{Kind}
use Rattle.mvt_geometry.specs.declared.shape.Kind.TheVariants as kinds
use Rattle.mvt_geometry.specs.declared.command.Command.TheVariants.{LineTo}
use Rattle.mvt_geometry.specs.Shape.{AreSteps, joined, origin, rings_of, last_of}
use Rattle.mvt_geometry.specs.Area.{cross, area2}
use Rattle.mvt_geometry.specs.Valid.{IsStroke}
use Rattle.mvt_geometry.specs.Drawing.{Draws, stroke, strokes}
use Rattle.mvt_geometry.specs.Commands.{pairs_of, pairs_at, moved, positions}
use Rattle.mvt_geometry.specs.Inner.Judging.{Reached, edges, part_count}
use Rattle.mvt_geometry.specs.Inner.Strokes.{pairs_between}
use Rattle.mvt_geometry.specs.Inner.Grouping.{groups_of, polygons_of}
use Rattle.mvt_geometry.proofs.AreaLemmas.{area2-ring}
use Rattle.mvt_geometry.proofs.CommandLemmas.{moves-are, cursor-next, pairs_after}
use Rattle.mvt_geometry.proofs.PathLemmas.{positions-between, moved-between}
use Rattle.mvt_geometry.proofs.FoundLemmas.{front_of_rest}
use Rattle.mvt_geometry.proofs.RingLemmas.{ReadsRing, ring_due, reached_close}
use Rattle.mvt_geometry.proofs.StrokeLemmas.{lines_have, rings_have, stroke_drawn, steps-front, steps-back}
use Rattle.mvt_geometry.proofs.LineLemmas.{line_due}
use Rattle.mvt_geometry.proofs.PolygonLemmas.{stroke_closed}
use Rattle.mvt_geometry.proofs.GroupLemmas.{opens, joins, one_grouping}

-- a command begins at one place, with one cursor
pub one_place : {kind : Kind} {g : List ℕ} {k s t : ℕ} {c d : Point} → Reached kind g k s c → Reached kind g k t d → (s ≡ t) × (c ≡ d)
one_place r q = let same = sym r.stands.begins ∙ q.stands.begins in (cc, sym r.stands.cursor_is ∙ q.stands.cursor_is)

-- lines or rings are left, each with its end
pub record Left (least : ℕ) (end : List ℕ) (g : List ℕ) (s : ℕ) (c : Point) (rest : List (List Point)) : Type 0 where
  pub are : AllByRecursion (IsStroke least) rest
  pub small_steps : AreSteps c (joined rest)
  pub spelled : drop s g ≡ strokes end c rest

-- at the end none is left
pub none_left : (least : ℕ) (end g : List ℕ) (s : ℕ) (c : Point) (rest : List (List Point)) → 0 < least
    → Left least end g s c rest → length g ≤ s → rest ≡ []
none_left least end g s c [] some left past = refl
none_left least end g s c ([] ∷ rest) some left past = let enough = left.are.0.enough in absurd (omega (arith, some, enough))
none_left least end g s c ((p ∷ ps) ∷ rest) some left past =
    let long = ap length left.spelled in
    absurd (omega (arith, long, length-drop s g, past))

-- and before it some
pub some_left : (least : ℕ) (end g : List ℕ) (s : ℕ) (c : Point) (rest : List (List Point)) → 0 < least
    → Left least end g s c rest → s < length g
    → (p : Point) × (ps : List Point) × (rs : List (List Point)) × (rest ≡ (p ∷ ps) ∷ rs)
some_left least end g s c [] some left here = let long = ap length left.spelled in absurd (omega (arith, long, length-drop s g, here))
some_left least end g s c ([] ∷ rest) some left here = let enough = left.are.0.enough in absurd (omega (arith, some, enough))
some_left least end g s c ((p ∷ ps) ∷ rest) some left here = (p, ps, rest, refl)

-- ---- lines

pub line_passed : (g : List ℕ) (k s t : ℕ) (c d p : Point) (ps : List Point) (rs : List (List Point))
    → Reached kinds.LineString g k s c → k % 2 ≡ 0 → Left 2 [] g s c ((p ∷ ps) ∷ rs)
    → Reached kinds.LineString g (suc (suc k)) t d → Left 2 [] g t d rs
line_passed g k s t c d p ps rs r e left next =
    let is_due = line_due k e in
    let f =
    stroke_drawn lines_have r is_due.0 is_due.1 p ps (strokes [] (last_of p ps) rs) left.are.0
    (steps-front c (p ∷ ps) (joined rs) left.small_steps) left.spelled in
    let same = one_place next f.1 in
    record {
      are = left.are.1;
      small_steps = subst (λ q. AreSteps q (joined rs)) (sym same.1) (steps-back c (p ∷ ps) (joined rs) left.small_steps);
      spelled = ap (λ m. drop m g) same.0 ∙ f.2 ∙ ap (λ q. strokes [] q rs) (sym same.1);
    }

-- ---- rings

-- how many polygons the rings after the first n polygons make
abbrev pub polygons_left : ℕ → List (List Point) → ℕ
polygons_left zero rings = length (polygons_of rings)
polygons_left (suc n) rings = length (groups_of rings).polygons

module _ {g : List ℕ} {k s t n : ℕ} {c d last : Point} {parameters : List ℕ} (ring : ReadsRing g k s t n c d last parameters) where
  -- the ring that was passed, twice its area, and what is after it
  pub ring_passed : (p : Point) (ps : List Point) (more : List ℕ) → IsStroke 3 (p ∷ ps) → AreSteps c (p ∷ ps)
      → drop s g ≡ stroke (15 ∷ []) c (p ∷ ps) ++ more
      → (edges d (positions d (pairs_of parameters)) +ℤ cross last d ≡ area2 (p ∷ ps)) × (drop (t + 1 + 2 * n + 1) g ≡ more)
      × (last ≡ last_of p ps)
  ring_passed p ps more is small spelled =
      let is_due = ring_due k ring.third in
      let f =
      stroke_drawn rings_have ring.reached is_due.0 is_due.1 p ps (15 ∷ more) is small
      (spelled ∙ sym (stroke_closed c p ps more)) in
      let same = one_place (reached_close ring) f.1 in
      let pairs_are : pairs_of parameters ≡ pairs_between p ps =
      pairs_after ring.next LineTo is_due.1 ring.line n ring.count parameters ring.after
      ∙ sym (moves-are kinds.Polygon g (suc k) t ring.next.stands.begins ∙ ap (λ o. pairs_at o g t) is_due.1) ∙ f.4 in
      let head_is : d ≡ p =
      sym ring.next.stands.cursor_is ∙ cursor-next kinds.Polygon g k ∙ ap₂ moved ring.reached.stands.cursor_is f.3
      ∙ moved-between c (p ∷ []) in
      let tail_is : positions d (pairs_of parameters) ≡ ps = ap₂ positions head_is pairs_are ∙ positions-between p ps in (
        ap₂ (λ x y. x +ℤ y) (ap₂ edges head_is tail_is) (ap₂ cross same.1 head_is) ∙ sym (area2-ring p ps),
        (front_of_rest g (t + 1 + 2 * n) 15 more (ap (λ m. drop m g) same.0 ∙ f.2)).2,
        same.1,
      )

pub ring_left : (g : List ℕ) (s t : ℕ) (c d p : Point) (ps : List Point) (rs : List (List Point))
    → Left 3 (15 ∷ []) g s c ((p ∷ ps) ∷ rs) → drop t g ≡ strokes (15 ∷ []) (last_of p ps) rs → d ≡ last_of p ps
    → Left 3 (15 ∷ []) g t d rs
ring_left g s t c d p ps rs left spelled last = record {
  are = left.are.1;
  small_steps = subst (λ q. AreSteps q (joined rs)) (sym last) (steps-back c (p ∷ ps) (joined rs) left.small_steps);
  spelled = spelled ∙ ap (λ q. strokes (15 ∷ []) q rs) (sym last);
}

-- a ring opens a polygon where none is open, or its area is positive
pub opened_one : (n : ℕ) (ring : List Point) (rings : List (List Point)) → (n ≡ 0) ⊎ (pos 0 <ℤ area2 ring)
    → (n + 1) + polygons_left (n + 1) rings ≡ n + polygons_left n (ring ∷ rings)
opened_one zero ring rings h = omega arith
opened_one (suc n) ring rings (inl z) = absurd (omega (arith, z))
opened_one (suc n) ring rings (inr h) =
    let more = ap (λ groups. length groups.polygons) (opens ring (groups_of rings) h) in
    let next : suc n + 1 ≡ suc (suc n) = omega arith in
    rw next (omega (arith, more))

pub joined_one : (n : ℕ) (ring : List Point) (rings : List (List Point)) → n ≢ 0 → area2 ring ≤ℤ pos 0
    → n + polygons_left n rings ≡ n + polygons_left n (ring ∷ rings)
joined_one zero ring rings some h = absurd (some refl)
joined_one (suc n) ring rings some h =
    let more = ap (λ groups. length groups.polygons) (joins ring (groups_of rings) h) in
    omega (arith, more)

pub none_more : (n : ℕ) → polygons_left n [] ≡ 0
none_more zero = refl
none_more (suc n) = refl

-- one ring more was passed
pub rings_step : (g : List ℕ) (s t : ℕ) (c d : Point) (n m : ℕ) (area : ℤ) (rings : List (List Point)) → s < length g
    → ((p : Point) (ps : List Point) (more : List ℕ) → IsStroke 3 (p ∷ ps) → AreSteps c (p ∷ ps)
    → drop s g ≡ stroke (15 ∷ []) c (p ∷ ps) ++ more → (area ≡ area2 (p ∷ ps)) × (drop t g ≡ more) × (d ≡ last_of p ps))
    → ((ring : List Point) (rs : List (List Point)) → area ≡ area2 ring → m + polygons_left m rs ≡ n + polygons_left n (ring ∷ rs))
    → (rest : List (List Point)) × Left 3 (15 ∷ []) g s c rest × (n + polygons_left n rest ≡ length (polygons_of rings))
    → (rest : List (List Point)) × Left 3 (15 ∷ []) g t d rest × (m + polygons_left m rest ≡ length (polygons_of rings))
rings_step g s t c d n m area rings here passed counts (rest, left, total) =
    let some = some_left 3 (15 ∷ []) g s c rest (omega arith) left here in
    let p = some.0 in
    let ps = some.1 in
    let rs = some.2 in
    let whole : Left 3 (15 ∷ []) g s c ((p ∷ ps) ∷ rs) = subst (Left 3 (15 ∷ []) g s c) some.3 left in
    let ring =
    passed p ps (strokes (15 ∷ []) (last_of p ps) rs) whole.are.0 (steps-front c (p ∷ ps) (joined rs) whole.small_steps)
    whole.spelled in
    (rs, ring_left g s t c d p ps rs whole ring.1 ring.2, counts (p ∷ ps) rs ring.0 ∙ sym (ap (λ l. n + polygons_left n l) some.3) ∙ total)

-- ---- by kind

pub line_parts : (g : List ℕ) (geometry : Geometry) → Draws kinds.LineString g geometry
    → (ls : List (List Point)) × Left 2 [] g 0 origin ls × (part_count geometry ≡ length ls)
line_parts g (Unknown u) d = cc d.same_kind
line_parts g (Points ps) d = cc d.same_kind
line_parts g (Lines ls) d = (ls, record { are = d.valid.1; small_steps = d.valid.2; spelled = d.spelled }, refl)
line_parts g (Polygons ps) d = cc d.same_kind

pub polygon_parts : (g : List ℕ) (geometry : Geometry) → Draws kinds.Polygon g geometry
    → (rings : List (List Point)) × Left 3 (15 ∷ []) g 0 origin rings × (part_count geometry ≡ length (polygons_of rings))
polygon_parts g (Unknown u) d = cc d.same_kind
polygon_parts g (Points ps) d = cc d.same_kind
polygon_parts g (Lines ls) d = cc d.same_kind
polygon_parts g (Polygons polygons) d =
    let rings = rings_of polygons in (
      rings,
      record { are = d.valid.1; small_steps = d.valid.2; spelled = d.spelled },
      ap length (sym (one_grouping rings polygons d.valid.0)),
    )
