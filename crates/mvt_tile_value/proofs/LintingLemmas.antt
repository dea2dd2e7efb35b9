-- Findings of a tile while it is read.
use Rattle.std.proofs.Common.{◌≡◌, ℕ, ◌+◌, ◌*◌, ◌<◌, Bool, true, false, cond, List, [], ◌∷◌, ◌++◌, length, map, take, get_or, find, Option, Some, None, refl, sym, ap, ap₂, ◌∙◌, append-nil, append_assoc, zero-add}
use Rattle.std.specs.Prelude.{is_some, slice_get, slice_index}
use Rattle.std.specs.List.{flat_map}
use Rattle.std.specs.Option.{option_map, option_or, option_to_list}
use Rattle.std.proofs.lemmas.Grind.{flat_map-append}
use Rattle.std.proofs.lemmas.List.{get_or_default}
use Rattle.std.proofs.lemmas.List.Folds.{find-append}
use Rattle.std.proofs.lemmas.Option.{slice_get-get_or}
use Rattle.mvt_attrs.specs.declared.value.Attribute.{Attribute}
use Rattle.mvt_attrs.specs.Values.{Value}
use Rattle.mvt_attrs.specs.declared.value.ValueOf.TheVariants as values
use Rattle.mvt_attrs.specs.Tags.{Names}
use Rattle.mvt_feature.specs.declared.feature.Feature.{Feature}
use Rattle.mvt_geometry.specs.declared.shape.Geometry.{Geometry}
use Rattle.mvt_geometry.specs.declared.shape.Geometry.TheVariants.{Unknown, Points, Lines, Polygons}
use Rattle.mvt_geometry.specs.declared.shape.Point.{Point}
use Rattle.mvt_geometry.specs.declared.shape.Polygon.{Polygon}
use Rattle.mvt_geometry.specs.Shape.{joined, rings_of}
use Rattle.mvt_geometry.specs.Visiting.{Part, HasDrawn, plain, ring_part, ring_parts}
use Rattle.mvt_message.specs.declared.item.Item.{Item}
use Rattle.mvt_tile_value.specs.declared.finding.Finding.{Finding}
use Rattle.mvt_tile_value.specs.declared.finding.Finding.TheVariants.{LargeId, LargeNumber}
use Rattle.mvt_tile_value.specs.declared.geometry_linting.GeometryFinding.{GeometryFinding}
use Rattle.mvt_tile_value.specs.declared.lint_builder.LintBuilder.{LintBuilder}
use Rattle.mvt_tile_value.specs.Lint.{attribute_findings, far_finding, feature_findings, geometry_findings, is_far_point, is_large_id, is_large_value, item_findings}
use Rattle.mvt_tile_value.specs.Linting.{AreLintedItems, HasFound, HasLooked, HasNothing, HasSeen, far_point, told_points}
use Rattle.mvt_tile_value.specs.Notes.{note_if, numbered}
use Rattle.mvt_tile_value.proofs.NoteLemmas.{noted_more, numbered-append}

-- one position more

or_assoc : {A : Type 0} (a b c : Option A) → option_or (option_or a b) c ≡ option_or a (option_or b c)
or_assoc None b c = refl
or_assoc (Some x) b c = refl

map_or : {A B : Type 0} (f : A → B) (a b : Option A) → option_map f (option_or a b) ≡ option_or (option_map f a) (option_map f b)
map_or f None b = refl
map_or f (Some x) b = refl

pub point_looked : (start old new : GeometryFinding) (parts : List Part) (begun : List Point) (p : Point) → HasLooked start parts begun old
    → new.layer ≡ old.layer → new.extent ≡ old.extent → new.feature ≡ old.feature
    → new.found ≡ option_or old.found (option_map (far_point old.layer old.feature) (find (is_far_point old.extent) (p ∷ [])))
    → HasLooked start parts (begun ++ p ∷ []) new
point_looked start old new parts begun p looked layer extent feature found =
    let far = is_far_point start.extent in
    let told = told_points parts begun in
    let make = far_point start.layer start.feature in
    record {
      layer_is = layer ∙ looked.layer_is;
      extent_is = extent ∙ looked.extent_is;
      feature_is = feature ∙ looked.feature_is;
      found_is = found
          ∙ ap₂ (λ l f. option_or old.found (option_map (far_point l f) (find (is_far_point old.extent) (p ∷ [])))) looked.layer_is
          looked.feature_is
          ∙ ap₂ (λ o e. option_or o (option_map make (find (is_far_point e) (p ∷ [])))) looked.found_is looked.extent_is
          ∙ or_assoc start.found (option_map make (find far told)) (option_map make (find far (p ∷ [])))
          ∙ ap (option_or start.found)
          (sym (map_or make (find far told) (find far (p ∷ [])))
          ∙ ap (option_map make) (sym (find-append far told (p ∷ [])))
          ∙ ap (λ ps. option_map make (find far ps)) (append_assoc (flat_map (λ (q : Part). q.points) parts) begun (p ∷ [])));
    }

pub found_now : (o : Option Finding) (make : Point → Finding) (far : Bool) (p : Point) → is_some o ≡ false → far ≡ true
    → Some (make p) ≡ option_or o (option_map make (cond far (Some p) None))
found_now None make far p none is = ap (λ b. option_map make (cond b (Some p) None)) (sym is)
found_now (Some x) make far p none is = cc

pub found_before : (o : Option Finding) (make : Point → Finding) (far : Bool) (p : Point) → is_some o ≡ true
    → o ≡ option_or o (option_map make (cond far (Some p) None))
found_before None make far p none = cc
found_before (Some x) make far p none = refl

pub not_found : (o : Option Finding) (make : Point → Finding) (far : Bool) (p : Point) → far ≡ false
    → o ≡ option_or o (option_map make (cond far (Some p) None))
not_found None make far p is = ap (λ b. option_map make (cond b (Some p) None)) (sym is)
not_found (Some x) make far p is = refl

-- the positions of a geometry are those of its parts

line_points : (lines : List (List Point)) → flat_map (λ (p : Part). p.points) (map plain lines) ≡ joined lines
line_points [] = refl
line_points (line ∷ lines) = ap (λ ps. line ++ ps) (line_points lines)

inner_points : (rings : List (List Point)) → flat_map (λ (p : Part). p.points) (map (ring_part false) rings) ≡ joined rings
inner_points [] = refl
inner_points (ring ∷ rings) = ap (λ ps. ring ++ ps) (inner_points rings)

polygon_points : (polygons : List Polygon) → flat_map (λ (p : Part). p.points) (flat_map ring_parts polygons) ≡ joined (rings_of polygons)
polygon_points [] = refl
polygon_points (p ∷ polygons) =
    flat_map-append (λ (q : Part). q.points) (ring_parts p) (flat_map ring_parts polygons)
    ∙ ap₂ (λ ps qs. (p.outer ++ ps) ++ qs) (inner_points p.rest) (polygon_points polygons)
    ∙ sym (flat_map-append (λ (l : List Point). l) (p.outer ∷ p.rest) (rings_of polygons))

far_listed : (layer feature : ℕ) (o : Option Point) → option_to_list (option_map (far_point layer feature) o) ≡ far_finding layer feature o
far_listed layer feature None = refl
far_listed layer feature (Some p) = refl

these_found : (layer extent feature : ℕ) (start now : GeometryFinding) (parts : List Part) (points : List Point)
    → told_points parts [] ≡ points → HasNothing layer extent feature start → HasLooked start parts [] now
    → (now.layer ≡ layer) × (now.extent ≡ extent)
    × (option_to_list now.found ≡ far_finding layer feature (find (is_far_point extent) points))
these_found layer extent feature start now parts points are nothing looked = (
  looked.layer_is ∙ nothing.layer_is,
  looked.extent_is ∙ nothing.extent_is,
  ap option_to_list (looked.found_is
      ∙ ap (λ o. option_or o (option_map (far_point start.layer start.feature) (find (is_far_point start.extent) (told_points parts []))))
      nothing.found_is
      ∙ ap₂ (λ l f. option_map (far_point l f) (find (is_far_point start.extent) (told_points parts []))) nothing.layer_is
      nothing.feature_is
      ∙ ap₂ (λ e ps. option_map (far_point layer feature) (find (is_far_point e) ps)) nothing.extent_is are)
      ∙ far_listed layer feature (find (is_far_point extent) points),
)

pub found_drawn : (layer extent feature : ℕ) (start now : GeometryFinding) (g : Geometry) → HasNothing layer extent feature start
    → HasDrawn HasLooked HasSeen start now g → HasFound layer extent feature g now
found_drawn layer extent feature start now (Unknown integers) nothing drawn = record {
  layer_is = drawn.layer_is ∙ nothing.layer_is;
  extent_is = drawn.extent_is ∙ nothing.extent_is;
  found_is = ap option_to_list drawn.found_is
      ∙ ap₂ (λ l f. geometry_findings l extent f (Unknown integers)) nothing.layer_is nothing.feature_is;
}
found_drawn layer extent feature start now (Points points) nothing drawn =
    let found =
    these_found layer extent feature start now (plain points ∷ []) points
    (append-nil (points ++ []) ∙ append-nil points) nothing drawn in
    record { layer_is = found.0; extent_is = found.1; found_is = found.2 }
found_drawn layer extent feature start now (Lines lines) nothing drawn =
    let found =
    these_found layer extent feature start now (map plain lines) (joined lines)
    (append-nil (flat_map (λ (p : Part). p.points) (map plain lines)) ∙ line_points lines) nothing drawn in
    record { layer_is = found.0; extent_is = found.1; found_is = found.2 }
found_drawn layer extent feature start now (Polygons polygons) nothing drawn =
    let found =
    these_found layer extent feature start now (flat_map ring_parts polygons) (joined (rings_of polygons))
    (append-nil (flat_map (λ (p : Part). p.points) (flat_map ring_parts polygons)) ∙ polygon_points polygons) nothing drawn in
    record { layer_is = found.0; extent_is = found.1; found_is = found.2 }

-- whatever was told, a feature that is begun again stays in its layer
pub nothing_again : (layer extent feature : ℕ) (start told now : GeometryFinding) (parts : List Part) (begun : List Point)
    → HasNothing layer extent feature start → HasLooked start parts begun told
    → HasNothing told.layer told.extent start.feature now → HasNothing layer extent feature now
nothing_again layer extent feature start told now parts begun nothing looked again = record {
  layer_is = again.layer_is ∙ looked.layer_is ∙ nothing.layer_is;
  extent_is = again.extent_is ∙ looked.extent_is ∙ nothing.extent_is;
  feature_is = again.feature_is ∙ nothing.feature_is;
  found_is = again.found_is;
}

-- one attribute more
pub tag_linted : (layer feature n : ℕ) (keys : List (List ℕ)) (held : List Value) (tags : List ℕ) (attributes : List Attribute)
    (large : Bool) (start old new : List Finding)
    → n < length attributes → Names keys held tags attributes
    → ((value : Value) → slice_get held (slice_index tags (2 * n + 1)) ≡ Some value → large ≡ is_large_value value)
    → old ≡ start ++ numbered (attribute_findings layer feature) 0 (take n attributes)
    → new ≡ old ++ note_if large (LargeNumber layer feature n)
    → new ≡ start ++ numbered (attribute_findings layer feature) 0 (take (n + 1) attributes)
tag_linted layer feature n keys held tags attributes large start old new h names is so_far e =
    let nothing : Attribute = record { key = []; value = values.Bool false } in
    let a = get_or attributes n nothing in
    let here = names.value n a (slice_get-get_or attributes n nothing h) in
    noted_more (attribute_findings layer feature) 0 attributes n a n start old new h (get_or_default attributes n nothing a h)
    (sym (zero-add n)) so_far
    (e ∙ ap (λ b. old ++ note_if b (LargeNumber layer feature n)) (is a.value here))

-- one feature more
pub feature_linted : (at layer extent n : ℕ) (features : List Feature) (f : Feature) (id : Option ℕ) (found : Option Finding) (large : Bool)
    (old first second new : List Finding)
    → at ≡ layer → n ≡ length features → f.id ≡ id → large ≡ is_large_id id
    → old ≡ numbered (feature_findings layer extent) 0 features
    → option_to_list found ≡ geometry_findings layer extent (length features) f.geometry
    → first ≡ old ++ option_to_list found → second ≡ first ++ note_if large (LargeId at n)
    → new ≡ second ++ numbered (attribute_findings at n) 0 f.attributes
    → new ≡ numbered (feature_findings layer extent) 0 (features ++ f ∷ [])
feature_linted at layer extent n features f id found large old first second new layer_is count same is so_far geometry e g h =
    let k = length features in
    let ids = note_if (is_large_id f.id) (LargeId layer k) in
    let numbers = numbered (attribute_findings layer k) 0 f.attributes in
    let own = geometry_findings layer extent k f.geometry in
    h
    ∙ ap₂ (λ l m. second ++ numbered (attribute_findings l m) 0 f.attributes) layer_is count
    ∙ ap (λ s. s ++ numbers)
    (g ∙ ap₂ (λ l m. first ++ note_if large (LargeId l m)) layer_is count
    ∙ ap₂ (λ s b. s ++ note_if b (LargeId layer k)) e (is ∙ ap is_large_id (sym same)))
    ∙ ap₂ (λ o s. ((o ++ s) ++ ids) ++ numbers) so_far geometry
    ∙ ap (λ s. s ++ numbers) (append_assoc (numbered (feature_findings layer extent) 0 features) own ids)
    ∙ append_assoc (numbered (feature_findings layer extent) 0 features) (own ++ ids) numbers
    ∙ ap (λ s. numbered (feature_findings layer extent) 0 features ++ s) (append_assoc own ids numbers)
    ∙ ap (λ m. numbered (feature_findings layer extent) 0 features ++ feature_findings layer extent m f) (sym (zero-add k))
    ∙ ap (λ s. numbered (feature_findings layer extent) 0 features ++ s) (sym (append-nil (feature_findings layer extent (0 + k) f)))
    ∙ sym (numbered-append (feature_findings layer extent) 0 features (f ∷ []))

-- one item more
pub item_linted : (index : ℕ) (old new : LintBuilder) (items : List Item) (item : Item) → length items ≡ index → AreLintedItems old items
    → new.findings.items ≡ old.findings.items ++ item_findings index item → AreLintedItems new (items ++ item ∷ [])
item_linted index old new items item count so_far e =
    e ∙ ap₂ (λ s m. s ++ item_findings m item) so_far (sym count ∙ sym (zero-add (length items)))
    ∙ ap (λ s. numbered item_findings 0 items ++ s) (sym (append-nil (item_findings (0 + length items) item)))
    ∙ sym (numbered-append item_findings 0 items (item ∷ []))
