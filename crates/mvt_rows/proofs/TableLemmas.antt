-- The rows that texts, values and geometries are given are those texts, values and geometries.
use Rattle.std.proofs.Common.{arith, ◌≡◌, ℕ, ◌-◌, ◌^◌, Bool, true, false, List, [], ◌∷◌, ◌++◌, length, take, map, Option, Some, None, if◌then◌else◌, refl, sym, ap, ap₂, ◌∙◌, append-nil, append_assoc, length-append}
use Rattle.std.specs.Prelude.{IsUtf8, unwrap_or, is_some, ⊤}
use Rattle.std.specs.Int.{w64, cast_unsigned}
use Rattle.std.specs.List.{fold, flat_map, AllByRecursion}
use Rattle.std.specs.Option.{option_map, option_and_then}
use Rattle.std.proofs.lemmas.Bool.{lt-ltb}
use Rattle.std.proofs.lemmas.Int.{to_z-of_z}
use Rattle.std.proofs.lemmas.List.{length-map, map-append, take_at}
use Rattle.std.proofs.lemmas.Str.{is_utf8-from_IsUtf8}
use Rattle.mvt_base.specs.Related.{AreRelated}
use Rattle.mvt_base.proofs.ListLemmas.{all_true}
use Rattle.mvt_attrs.specs.Values.{Value}
use Rattle.mvt_attrs.specs.declared.value.ValueOf.TheVariants.{Text, Float, Double, Int, Uint, Sint, Bool as Truth}
use Rattle.mvt_geometry.specs.declared.shape.Point.{Point}
use Rattle.mvt_geometry.specs.declared.shape.Polygon.{Polygon}
use Rattle.mvt_geometry.specs.declared.shape.Geometry.{Geometry}
use Rattle.mvt_geometry.specs.declared.shape.Geometry.TheVariants.{Unknown, Points, Lines, Polygons}
use Rattle.mvt_geometry.specs.declared.shape.Kind.{Kind}
use Rattle.mvt_geometry.specs.Shape.{kind_of}
use Rattle.mvt_geometry.specs.declared.visiting.Ring.{Ring}
use Rattle.mvt_geometry.specs.Visiting.{Part, plain, ring_part, ring_parts, EndsAs, HasDrawn}
use Rattle.mvt_feature.specs.Canonical.{type_number}
use Rattle.mvt_feature.specs.Valid.{ValidValue}
use Rattle.mvt_rows.specs.declared.rows.Span.{Span}
use Rattle.mvt_rows.specs.declared.rows.PartRow.{PartRow}
use Rattle.mvt_rows.specs.declared.rows.PointRow.{PointRow}
use Rattle.mvt_rows.specs.declared.rows.ValueRow.{ValueRow}
use Rattle.mvt_rows.specs.Tables.{Table, behind, point_row, number_row, truth_number, with_value, with_part, with_parts, with_integers, with_geometry}
use Rattle.mvt_rows.specs.TileRows.{steps, utf8_of, text_of, value_of, truth_of, line_of, point_of, with_ring, with_ring_row, drawn_of, geometry_of}
use Rattle.mvt_rows.proofs.TileLemmas.{inner_last}
use Rattle.mvt_rows.proofs.RowLemmas.{added, each_related, steps_joined, part_after, part_added}
use Rattle.mvt_rows.proofs.GrowthLemmas.{Grown, grown_fold, part_grows, line_stays}

-- what steps that each leave alone all of them leave alone
pub fold_keeps : {X B : Type 0} → (L : Table → B) (f : Table → X → Table) → ((t : Table) (x : X) → L (f t x) ≡ L t)
    → (t : Table) (xs : List X) → L (fold f t xs) ≡ L t
fold_keeps L f keeps t [] = refl
fold_keeps L f keeps t (x ∷ xs) = fold_keeps L f keeps (f t x) xs ∙ keeps t x

-- steps that each add to a list a row of one entry, of which something holds as long as the table grows
pub record Pushes {X R : Type 0} (f : Table → X → Table) (L : Table → List R) (row : Table → X → R) (V : X → Type 0)
    (P : Table → R → X → Type 0) : Type 0 where
  pub grows : (t : Table) (x : X) → Grown t (f t x)
  pub stays : (t u : Table) → Grown t u → (r : R) (x : X) → P t r x → P u r x
  pub push : (t : Table) (x : X) → L (f t x) ≡ L t ++ row t x ∷ []
  pub holds : (t : Table) (x : X) → V x → P (f t x) (row t x) x

-- the rows are the entries, one by one
pub rows_pushed : {X R : Type 0} {f : Table → X → Table} {L : Table → List R} {row : Table → X → R} {V : X → Type 0}
    {P : Table → R → X → Type 0}
    → Pushes f L row V P → (t : Table) (xs : List X) → AllByRecursion V xs
    → (rows : List R) × (L (fold f t xs) ≡ L t ++ rows) × AreRelated (P (fold f t xs)) rows xs
rows_pushed {L = L} pushes t [] all = ([], sym (append-nil (L t)), tt)
rows_pushed {f = f} {L = L} {row = row} pushes t (x ∷ xs) all =
    let rest = rows_pushed pushes (f t x) xs all.1 in (
      row t x ∷ rest.0,
      rest.1 ∙ ap (λ l. l ++ rest.0) (pushes.push t x) ∙ append_assoc (L t) (row t x ∷ []) rest.0,
      (
        pushes.stays (f t x) (fold f (f t x) xs)
            (grown_fold f pushes.grows (f t x) xs) (row t x) x (pushes.holds t x all.0),
        rest.2,
      ),
    )

-- texts and values
pub text_after : (front text : List ℕ) → IsUtf8 text → text_of (front ++ text) (behind front (length text)) ≡ Some text
text_after front text is =
    ap (option_and_then utf8_of) (part_after front text (length text) refl)
    ∙ ap (λ b. if b then Some text else None) (is_utf8-from_IsUtf8 text is)

abbrev pub value_row : Table → Value → ValueRow
value_row t (Text text) = record { kind = 1; bits = 0; text = behind t.texts (length text) }
value_row t (Float bits) = number_row 2 bits
value_row t (Double bits) = number_row 3 bits
value_row t (Int z) = number_row 4 (cast_unsigned w64 z)
value_row t (Uint n) = number_row 5 n
value_row t (Sint z) = number_row 6 (cast_unsigned w64 z)
value_row t (Truth b) = number_row 7 (if b then 1 else 0)

pub value_push : (t : Table) (v : Value) → (with_value t v).values ≡ t.values ++ value_row t v ∷ []
value_push t (Text text) = refl
value_push t v = refl

pub value_keeps : {B : Type 0} → (L : Table → B)
    → ((t : Table) (values : List ValueRow) (texts : List ℕ) → L (record t { values = values; texts = texts }) ≡ L t)
    → (t : Table) (v : Value) → L (with_value t v) ≡ L t
value_keeps L keeps t (Text text) = keeps t _ _
value_keeps L keeps t v = keeps t _ t.texts

pub value_holds : (t : Table) (v : Value) → ValidValue v → value_of (with_value t v).texts (value_row t v) ≡ Some v
value_holds t (Text text) valid = ap (option_map Text) (text_after t.texts text valid)
value_holds t (Float bits) valid = ap (λ b. option_map Float (if b then Some bits else None)) (lt-ltb bits (2 ^ 32) valid)
value_holds t (Double bits) valid = refl
value_holds t (Int z) valid = ap (λ y. Some (Int y)) (to_z-of_z w64 z valid)
value_holds t (Uint n) valid = refl
value_holds t (Sint z) valid = ap (λ y. Some (Sint y)) (to_z-of_z w64 z valid)
value_holds t (Truth true) valid = refl
value_holds t (Truth false) valid = refl

-- lines and rings
map_back : (points : List Point) → map point_of (map point_row points) ≡ points
map_back [] = refl
map_back (p ∷ points) = ap (λ l. p ∷ l) (map_back points)

abbrev part_row : Table → Part → PartRow
part_row t part = record { exterior = truth_number part.exterior; points = behind t.points (length part.points) }

line_after : (t : Table) (part : Part) → line_of (with_part t part).points (part_row t part) ≡ Some part.points
line_after t part =
    ap (option_map (λ rows. map point_of rows))
    (part_after t.points (map point_row part.points) (length part.points) (sym (length-map part.points point_row)))
    ∙ ap Some (map_back part.points)

pub truth_back : (b : Bool) → truth_of (truth_number b) ≡ Some b
truth_back true = refl
truth_back false = refl

abbrev IsPart : List PointRow → PartRow → Part → Type 0
IsPart points row part = (truth_of row.exterior ≡ Some part.exterior) × (line_of points row ≡ Some part.points)

parts_pushed : (t : Table) (parts : List Part)
    → (rows : List PartRow) × ((fold with_part t parts).parts ≡ t.parts ++ rows)
    × AreRelated (IsPart (fold with_part t parts).points) rows parts
parts_pushed t parts =
    let pushes : Pushes with_part (λ (t : Table). t.parts) part_row (λ x. ⊤) (λ (t : Table). IsPart t.points) = record {
      grows = part_grows;
      stays = λ t u grown row part is. (is.0, line_stays t.points u.points grown.points row part.points is.1);
      push = λ t part. refl;
      holds = λ t part h. (truth_back part.exterior, line_after t part);
    } in
    rows_pushed pushes t parts (all_true parts)

-- rows of lines
lines_each : (points : List PointRow) (rows : List PartRow) (lines : List (List Point)) → AreRelated (IsPart points) rows (map plain lines)
    → AreRelated (λ row line. line_of points row ≡ Some line) rows lines
lines_each points [] [] h = tt
lines_each points [] (line ∷ lines) h = absurd h
lines_each points (row ∷ rows) [] h = absurd h
lines_each points (row ∷ rows) (line ∷ lines) h = (h.0.1, lines_each points rows lines h.1)

-- rings as polygons
abbrev with_ring_part : List Polygon → Part → Option (List Polygon)
with_ring_part polygons part = with_ring polygons part.exterior part.points

then_same : {X Y : Type 0} (f g : X → Option Y) → ((x : X) → f x ≡ g x) → (o : Option X) → option_and_then f o ≡ option_and_then g o
then_same f g same None = refl
then_same f g same (Some x) = same x

ring_steps : (points : List PointRow) (ps : List Polygon) (rows : List PartRow) (parts : List Part) → AreRelated (IsPart points) rows parts
    → steps (with_ring_row points) ps rows ≡ steps with_ring_part ps parts
ring_steps points ps [] [] h = refl
ring_steps points ps [] (part ∷ parts) h = absurd h
ring_steps points ps (row ∷ rows) [] h = absurd h
ring_steps points ps (row ∷ rows) (part ∷ parts) h =
    let one : with_ring_row points ps row ≡ with_ring_part ps part =
    ap (option_and_then (λ ring. option_and_then (λ exterior. with_ring ps exterior ring) (truth_of row.exterior))) h.0.1
    ∙ ap (option_and_then (λ exterior. with_ring ps exterior part.points)) h.0.0 in
    ap (option_and_then (λ next. steps (with_ring_row points) next rows)) one
    ∙ then_same (λ next. steps (with_ring_row points) next rows) (λ next. steps with_ring_part next parts)
    (λ next. ring_steps points next rows parts h.1) (with_ring_part ps part)

inner_steps : (front : List Polygon) (outer : List Point) (rest rings : List (List Point))
    → steps with_ring_part (front ++ record { outer = outer; rest = rest } ∷ []) (map (ring_part false) rings) ≡ Some
    (front ++ record { outer = outer; rest = rest ++ rings } ∷ [])
inner_steps front outer rest [] = ap (λ l. Some (front ++ record { outer = outer; rest = l } ∷ [])) (sym (append-nil rest))
inner_steps front outer rest (ring ∷ rings) =
    let p : Polygon = record { outer = outer; rest = rest } in
    ap (option_and_then (λ next. steps with_ring_part next (map (ring_part false) rings))) (inner_last front p ring)
    ∙ inner_steps front outer (rest ++ ring ∷ []) rings
    ∙ ap (λ l. Some (front ++ record { outer = outer; rest = l } ∷ [])) (append_assoc rest (ring ∷ []) rings)

polygons_steps : (ps polygons : List Polygon) → steps with_ring_part ps (flat_map ring_parts polygons) ≡ Some (ps ++ polygons)
polygons_steps ps [] = ap Some (sym (append-nil ps))
polygons_steps ps (p ∷ polygons) =
    steps_joined with_ring_part ps (ring_parts p) (flat_map ring_parts polygons) (ps ++ p ∷ []) (Some (ps ++ (p ∷ polygons)))
    (inner_steps ps p.outer [] p.rest) (polygons_steps (ps ++ p ∷ []) polygons ∙ ap Some (append_assoc ps (p ∷ []) polygons))

-- geometries
drawn_at : (t : Table) (g : Geometry) (id has : ℕ) (tags : Span)
    → geometry_of (with_geometry t g)
    (record {
      id = id;
      has_id = has;
      kind = type_number (kind_of g);
      tags = tags;
      parts = added t.parts (with_geometry t g).parts;
      integers = added t.integers (with_geometry t g).integers;
    }) ≡ Some g
drawn_at t (Unknown integers) id has tags = ap (option_map Unknown) (part_added t.integers (t.integers ++ integers) integers refl)
drawn_at t (Points points) id has tags =
    let now = with_part t (plain points) in
    ap (option_and_then (drawn_of now.points 1)) (part_added t.parts now.parts (part_row t (plain points) ∷ []) refl)
    ∙ ap (option_map Points) (line_after t (plain points))
drawn_at t (Lines lines) id has tags =
    let now = fold with_part t (map plain lines) in
    let rows = parts_pushed t (map plain lines) in
    ap (option_and_then (drawn_of now.points 2)) (part_added t.parts now.parts rows.0 rows.1)
    ∙ ap (option_map Lines) (each_related (line_of now.points) rows.0 lines (lines_each now.points rows.0 lines rows.2))
drawn_at t (Polygons polygons) id has tags =
    let parts = flat_map ring_parts polygons in
    let now = fold with_part t parts in
    let rows = parts_pushed t parts in
    ap (option_and_then (drawn_of now.points 3)) (part_added t.parts now.parts rows.0 rows.1)
    ∙ ap (option_map Polygons) (ring_steps now.points [] rows.0 parts rows.2 ∙ polygons_steps [] polygons)

pub drawn : (t : Table) (g : Geometry) (id has : ℕ) (tags : Span) (kind : Kind) (parts integers : ℕ) → kind ≡ kind_of g
    → parts ≡ length t.parts → integers ≡ length t.integers
    → geometry_of (with_geometry t g)
    (record {
      id = id;
      has_id = has;
      kind = type_number kind;
      tags = tags;
      parts = record { start = parts; len = length (with_geometry t g).parts - parts };
      integers = record { start = integers; len = length (with_geometry t g).integers - integers };
    }) ≡ Some g
drawn t g id has tags kind parts integers kind_is parts_are integers_are = rw (kind_is, parts_are, integers_are) (drawn_at t g id has tags)

pub geometry_keeps : {B : Type 0} → (L : Table → B) → ((t : Table) (part : Part) → L (with_part t part) ≡ L t)
    → ((t : Table) (integers : List ℕ) → L (record t { integers = integers }) ≡ L t) → (t : Table) (g : Geometry)
    → L (with_geometry t g) ≡ L t
geometry_keeps L parts numbers t (Unknown integers) = numbers t _
geometry_keeps L parts numbers t (Points points) = parts t (plain points)
geometry_keeps L parts numbers t (Lines lines) = fold_keeps L with_part parts t (map plain lines)
geometry_keeps L parts numbers t (Polygons polygons) = fold_keeps L with_part parts t (flat_map ring_parts polygons)

-- what was told of a geometry is that geometry
fold_push : (t : Table) (parts : List Part) (part : Part) → fold with_part t (parts ++ part ∷ []) ≡ with_part (fold with_part t parts) part
fold_push t [] part = refl
fold_push t (p ∷ parts) part = fold_push (with_part t p) parts part

no_points : (t : Table) → record t { points = t.points ++ [] } ≡ t
no_points t = ap (λ points. let u : Table = record t { points = points } in u) (append-nil t.points)

pub told : (start now : Table) (g : Geometry)
    → HasDrawn (λ s parts begun t. t ≡ with_parts s parts begun) (λ s integers t. t ≡ with_integers s integers) start now g
    → now ≡ with_geometry start g
told start now (Unknown integers) is = is
told start now (Points points) is = is ∙ no_points (with_part start (plain points))
told start now (Lines lines) is = is ∙ no_points (fold with_part start (map plain lines))
told start now (Polygons polygons) is = is ∙ no_points (fold with_part start (flat_map ring_parts polygons))

-- parts that were told and dropped again
outside : (start : Table) (parts : List Part) (rows : List PartRow) (points : List PointRow)
    → record (fold with_part start parts) { parts = rows; points = points } ≡ record start { parts = rows; points = points }
outside start [] rows points = refl
outside start (part ∷ parts) rows points = outside (with_part start part) parts rows points

pub dropped : (start : Table) (parts : List Part) (begun : List Point) (t : Table) → t ≡ with_parts start parts begun
    → record t { parts = take (length start.parts) t.parts; points = take (length start.points) t.points } ≡ start
dropped start parts begun t is =
    let base = fold with_part start parts in
    let grown = grown_fold with_part part_grows start parts in
    let rows : take (length start.parts) base.parts ≡ start.parts =
    ap (take (length start.parts)) grown.parts.is ∙ take_at start.parts grown.parts.more (length start.parts) refl in
    let points : take (length start.points) (base.points ++ map point_row begun) ≡ start.points =
    ap (λ ps. take (length start.points) (ps ++ map point_row begun)) grown.points.is
    ∙ ap (take (length start.points)) (append_assoc start.points grown.points.more (map point_row begun))
    ∙ take_at start.points (grown.points.more ++ map point_row begun) (length start.points) refl in
    ap (λ (u : Table). let v : Table = record u
    { parts = take (length start.parts) u.parts; points = take (length start.points) u.points } in v) is
    ∙ ap₂ (λ p q. let v : Table = record base { parts = p; points = q } in v) rows points
    ∙ outside start parts start.parts start.points

pub point_told : (start : Table) (parts : List Part) (begun : List Point) (point : Point) (t : Table) → t ≡ with_parts start parts begun
    → record t { points = t.points ++ point_row point ∷ [] } ≡ with_parts start parts (begun ++ point ∷ [])
point_told start parts begun point t is =
    let base = fold with_part start parts in
    ap (λ (u : Table). let v : Table = record u { points = u.points ++ point_row point ∷ [] } in v) is
    ∙ ap (λ points. let u : Table = record base { points = points } in u)
    (append_assoc base.points (map point_row begun) (point_row point ∷ [])
    ∙ ap (λ more. base.points ++ more) (sym (map-append point_row begun (point ∷ []))))

-- the end of a part tells how many points it has
pub ends_count : (part : Part) (n : ℕ) (ring : Option Ring) → EndsAs part n ring → n ≡ length part.points
ends_count part n None ends = ends.0
ends_count part n (Some known) ends = ends.0

pub part_told : (start : Table) (parts : List Part) (part : Part) (n : ℕ) (t : Table)
    → t ≡ with_parts start parts part.points → n ≡ length part.points
    → record t {
      parts = t.parts
          ++ record { exterior = truth_number part.exterior; points = record { start = length t.points - n; len = n } } ∷ [];
    } ≡ with_parts start (parts ++ part ∷ []) []
part_told start parts part n t is count =
    let base = fold with_part start parts in
    let points = base.points ++ map point_row part.points in
    let row : ℕ → ℕ → PartRow = λ s m. record { exterior = truth_number part.exterior; points = record { start = s; len = m } } in
    let begins : length points - n ≡ length base.points =
    omega (arith, length-append base.points (map point_row part.points), length-map part.points point_row, count) in
    ap (λ (u : Table). let v : Table = record u { parts = u.parts ++ row (length u.points - n) n ∷ [] } in v) is
    ∙ ap₂ (λ s m. let u : Table = record base { points = points; parts = base.parts ++ row s m ∷ [] } in u) begins count
    ∙ sym (no_points (with_part base part))
    ∙ ap (λ (u : Table). let v : Table = record u { points = u.points ++ [] } in v) (sym (fold_push start parts part))

-- an id as its row has it
pub id_is : (id : Option ℕ) → option_map (λ has. if has then Some (unwrap_or id 0) else None)
    (truth_of (if is_some id then 1 else 0)) ≡ Some id
id_is None = refl
id_is (Some n) = refl
