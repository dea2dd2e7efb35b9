-- Integers draw a geometry exactly where they have no fault.
use Rattle.std.proofs.Common.{◌≡◌, ◌≢◌, ℕ, suc, ◌+◌, ◌*◌, ◌^◌, ◌<◌, ◌≤◌, List, [], ◌∷◌, ◌++◌, length, get_or, drop, Some, None, refl, sym, ap, ap₂, subst, ◌∙◌, ◌⊎◌, inl, inr, arith, append-nil, length-drop}
use Rattle.std.specs.List.{AllByRecursion}
use Rattle.std.proofs.lemmas.Bool.{cases_lt}
use Rattle.std.proofs.lemmas.Bool.Decides.{nat_tests}
use Rattle.std.proofs.lemmas.List.{drop_all}
use Rattle.mvt_geometry.specs.declared.shape.Point.{Point}
use Rattle.mvt_geometry.specs.declared.shape.Polygon.{Polygon}
use Rattle.mvt_geometry.specs.declared.shape.Geometry.{Geometry}
use Rattle.mvt_geometry.specs.declared.shape.Geometry.TheVariants.{Unknown, Points, Lines, Polygons}
use Rattle.mvt_geometry.specs.declared.shape.Kind.{Kind}
use Rattle.mvt_geometry.specs.declared.shape.Kind.TheVariants as kinds
use Rattle.mvt_geometry.specs.declared.command.Command.TheVariants.{MoveTo}
use Rattle.mvt_geometry.specs.declared.fault.GeometryCause.TheVariants as causes
use Rattle.mvt_geometry.specs.Shape.{AreSteps, joined, origin, rings_of}
use Rattle.mvt_geometry.specs.Valid.{IsStroke, Grouped, IsValid}
use Rattle.mvt_geometry.specs.Drawing.{path_from, path, strokes, drawn, Draws}
use Rattle.mvt_geometry.specs.Table.{IndexedCause, geometry_fault}
use Rattle.mvt_geometry.specs.Inner.Judging.{Reached}
use Rattle.mvt_geometry.specs.Inner.Strokes.{MayDraw, AreSmall}
use Rattle.mvt_geometry.specs.Inner.Grouping.{polygons_of}
use Rattle.mvt_geometry.proofs.CommandLemmas.{first_command, no_ring, may_end, one_command, empty_ends, unknown_calm}
use Rattle.mvt_geometry.proofs.FoundLemmas.{command_drawn, rest_drawn, command_found}
use Rattle.mvt_geometry.proofs.LineLemmas.{lines_found, lines_drawn}
use Rattle.mvt_geometry.proofs.PolygonLemmas.{rings_found, rings_drawn, HasFineFirst}
use Rattle.mvt_geometry.proofs.GroupLemmas.{rings_grouped}

-- integers that draw a geometry have no fault
points_faultless : (g : List ℕ) (ps : List Point) → IsValid (Points ps) → g ≡ drawn (Points ps) → geometry_fault kinds.Point g ≡ None
points_faultless g ps valid spelled =
    let may : MayDraw kinds.Point MoveTo (length ps) origin ps = record {
      allowed = grind (arith, nat_tests, valid.0);
      pairs = refl;
      places = valid.2;
      small_steps = valid.3;
      apart = λ e. cc;
    } in
    let r = first_command kinds.Point g in
    let whole : drop 0 g ≡ (1 + 8 * length ps) ∷ (path_from origin ps ++ []) =
    spelled ∙ ap (λ xs. (1 + 8 * length ps) ∷ xs) (sym (append-nil (path_from origin ps))) in
    let next = command_drawn r MoveTo refl (length ps) ps may [] whole (no_ring kinds.Point g 0 0 (λ same. cc)) in
    let rest = rest_drawn r MoveTo refl (length ps) ps may [] whole in
    may_end (λ same. cc) next (omega (arith, length-drop (0 + 1 + 2 * length ps) g, ap length rest)) refl (λ same. cc)

lines_faultless : (g : List ℕ) (ls : List (List Point)) → IsValid (Lines ls) → g ≡ drawn (Lines ls)
    → geometry_fault kinds.LineString g ≡ None
lines_faultless g ls valid spelled =
    lines_drawn g ls 0 0 origin (first_command kinds.LineString g) refl (omega (arith, valid.0)) valid.1 valid.2 (spelled)

fine_first : (polygons : List Polygon) → Grouped (rings_of polygons) polygons
    → (0 < length (rings_of polygons)) × HasFineFirst (rings_of polygons)
fine_first [] h = absurd h
fine_first (p ∷ polygons) h = (omega arith, h.1)

polygons_faultless : (g : List ℕ) (polygons : List Polygon) → IsValid (Polygons polygons) → g ≡ drawn (Polygons polygons)
    → geometry_fault kinds.Polygon g ≡ None
polygons_faultless g polygons valid spelled =
    let rings = rings_of polygons in
    let fine = fine_first polygons valid.0 in
    rings_drawn g rings 0 0 origin (first_command kinds.Polygon g) refl (omega (arith, fine.0)) (λ z. (refl, fine.1)) valid.1
    valid.2 (spelled)

pub drawn_faultless : (kind : Kind) (g : List ℕ) (geometry : Geometry) → Draws kind g geometry → geometry_fault kind g ≡ None
drawn_faultless kind g (Unknown integers) d = rw d.same_kind (unknown_calm g)
drawn_faultless kind g (Points ps) d = rw d.same_kind (points_faultless g ps d.valid d.spelled)
drawn_faultless kind g (Lines ls) d = rw d.same_kind (lines_faultless g ls d.valid d.spelled)
drawn_faultless kind g (Polygons polygons) d = rw d.same_kind (polygons_faultless g polygons d.valid d.spelled)

-- integers without a fault draw a geometry
some_none : (f : IndexedCause) → Some f ≡ None → ⊥
some_none f e = cc

not_empty : (kind : Kind) (g : List ℕ) → kind ≢ kinds.Unknown → geometry_fault kind g ≡ None → 0 < length g
not_empty kind g known none = by_length (cases_lt 0 (length g))
  where
    by_length : (0 < length g) ⊎ (length g ≤ 0) → 0 < length g
    by_length (inl h) = h
    by_length (inr h) = absurd (some_none (0, causes.EndsEarly) (sym (empty_ends kind g known (omega arith)) ∙ none))

points_there : (g : List ℕ) → AreSmall g → geometry_fault kinds.Point g ≡ None → (geometry : Geometry) × Draws kinds.Point g geometry
points_there g small none =
    let found = command_found (first_command kinds.Point g) MoveTo refl (λ same. cc) none (λ e. refl) small in
    let ps = found.points in
    let end = 0 + 1 + 2 * length ps in
    let over : length g ≤ end = by_place end found.next (cases_lt end (length g)) in
    let long : length ps ≡ found.count = found.may.pairs in
    let some : 0 < found.count = let allowed = found.may.allowed in grind (arith, nat_tests) in
    let spelled : g ≡ (1 + 8 * length ps) ∷ path ps =
    found.spelled ∙ ap₂ (λ n xs. (1 + 8 * n) ∷ (path_from origin ps ++ xs)) (sym long) (drop_all end g over)
    ∙ ap (λ xs. (1 + 8 * length ps) ∷ xs) (append-nil (path_from origin ps)) in (
      Points ps,
      record {
        same_kind = refl;
        valid = (omega (arith, long, some), omega (arith, long, found.few), found.may.places, found.may.small_steps);
        spelled = spelled;
      },
    )
  where
    by_place : (s : ℕ) {c : Point} → Reached kinds.Point g 1 s c → (s < length g) ⊎ (length g ≤ s) → length g ≤ s
    by_place s r (inl h) = absurd (some_none (s, causes.Command) (sym (one_command r h) ∙ none))
    by_place s r (inr h) = h

lines_there : (g : List ℕ) → AreSmall g → geometry_fault kinds.LineString g ≡ None
    → (geometry : Geometry) × Draws kinds.LineString g geometry
lines_there g small none =
    let found = lines_found g none small (length g) 0 0 origin (omega arith) (first_command kinds.LineString g) refl in (
      Lines found.lines,
      record {
        same_kind = refl;
        valid = (found.some (not_empty kinds.LineString g (λ same. cc) none), found.are, found.small_steps);
        spelled = found.spelled;
      },
    )

-- rings are polygons where they can be
pub rings_valid : (rings : List (List Point)) → AllByRecursion (IsStroke 3) rings → AreSteps origin (joined rings) → 0 < length rings
    → HasFineFirst rings → (polygons : List Polygon) × (rings ≡ rings_of polygons) × IsValid (Polygons polygons)
rings_valid [] are small some fine = absurd (omega (arith, some))
rings_valid (ring ∷ rings) are small some fine =
    let grouped = rings_grouped ring rings fine in
    let whole = grouped.0 in
    let polygons = polygons_of (ring ∷ rings) in (
      polygons,
      whole,
      (
        subst (λ rs. Grouped rs polygons) whole grouped,
        subst (AllByRecursion (IsStroke 3)) whole are,
        subst (λ rs. AreSteps origin (joined rs)) whole small,
      ),
    )

polygons_there : (g : List ℕ) → AreSmall g → geometry_fault kinds.Polygon g ≡ None → (geometry : Geometry) × Draws kinds.Polygon g geometry
polygons_there g small none =
    let found = rings_found g none small (length g) 0 0 origin (omega arith) (first_command kinds.Polygon g) refl in
    let made =
    rings_valid found.rings found.are found.small_steps (found.some (not_empty kinds.Polygon g (λ same. cc) none))
    (found.fine refl refl) in (
      Polygons made.0,
      record { same_kind = refl; valid = made.2; spelled = found.spelled ∙ ap (strokes (15 ∷ []) origin) made.1 },
    )

pub faultless_drawn : (kind : Kind) (g : List ℕ) → AreSmall g → geometry_fault kind g ≡ None → (geometry : Geometry) × Draws kind g geometry
faultless_drawn kinds.Unknown g small none = (Unknown g, record { same_kind = refl; valid = small; spelled = refl })
faultless_drawn kinds.Point g small none = points_there g small none
faultless_drawn kinds.LineString g small none = lines_there g small none
faultless_drawn kinds.Polygon g small none = polygons_there g small none

pub all_small : (xs : List ℕ) → ((i : ℕ) → get_or xs i 0 < 2 ^ 32) → AreSmall xs
all_small [] h = tt
all_small (x ∷ xs) h = (h 0, all_small xs (λ i. h (suc i)))
