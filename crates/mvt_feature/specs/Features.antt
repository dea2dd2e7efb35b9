-- Features (Mapbox Vector Tile Specification 2.1, 4.2 and 4.1, message Feature).
use Rattle.std.specs.Prelude.{◌≡◌, ℕ, ◌^◌, ◌<◌, ◌==◌, List, [], ◌∷◌, ◌++◌, Option, Some, None, if◌then◌else◌}
use Rattle.mvt_attrs.specs.Values.{Value}
use Rattle.mvt_attrs.specs.Tags.{Resolved}
use Rattle.mvt_geometry.specs.declared.shape.Kind.{Kind}
use Rattle.mvt_geometry.specs.declared.shape.Kind.TheVariants as kinds
use Rattle.mvt_geometry.specs.Drawing.{Draws}
use Rattle.mvt_wire.specs.Field.{Content, varint, bytes, Entry}
use Rattle.mvt_wire.specs.Packed.{ArePacked}
use Rattle.mvt_wire.specs.Split.{Whole}
use Rattle.mvt_feature.specs.declared.numbers.feature.TheConstants.{ID, TAGS, TYPE, GEOMETRY}
use Rattle.mvt_feature.specs.declared.feature.Feature.{Feature}
use Rattle.mvt_feature.specs.Forms.{Form, any_varint, geom_type, HaveForms}
use Rattle.mvt_feature.specs.Selection.{only, last_only}

-- the fields of a feature besides its lists, each by its number and its form
abbrev pub feature_forms : List (ℕ × Form)
feature_forms = (ID, any_varint) ∷ ((TYPE, geom_type) ∷ [])

-- the geometry types (4.3.4)
abbrev pub kind_numbered : ℕ → Kind
kind_numbered n =
    if n == 0 then kinds.Unknown else if n == 1 then kinds.Point else if n == 2 then kinds.LineString else kinds.Polygon

-- the number of a field that is there
abbrev pub number_of : Content → Option ℕ
number_of (varint n) = Some n
number_of _ = None

-- the number of a field, where there is one
abbrev pub number_in : Option Entry → Option ℕ
number_in None = None
number_in (Some x) = number_of x.content

-- a type that isn't there is unknown
abbrev pub kind_of_type : Option ℕ → Kind
kind_of_type None = kinds.Unknown
kind_of_type (Some n) = kind_numbered n

-- the numbers of a field, each below 2^32: one, or packed ones
abbrev pub AreNumbers : Content → List ℕ → Type 0
AreNumbers (varint n) numbers = (numbers ≡ n ∷ []) × (n < 2 ^ 32)
AreNumbers (bytes d) numbers = ArePacked d numbers
AreNumbers _ numbers = ⊥

-- the numbers of fields, joined (Protocol Buffers, Encoding, "Packed Repeated Fields")
abbrev pub Joined : List Entry → List ℕ → Type 0
Joined [] numbers = numbers ≡ []
Joined (x ∷ xs) numbers =
    (front : List ℕ) × (back : List ℕ) × (numbers ≡ front ++ back) × AreNumbers x.content front × Joined xs back

-- fields that are a feature of a layer with these keys and values
pub record IsFeature (fields : List Entry) (keys : List (List ℕ)) (values : List Value) (f : Feature) : Type 0 where
  pub forms : HaveForms feature_forms fields
  pub id : f.id ≡ number_in (last_only ID fields)
  pub tags : List ℕ
  pub tags_are : Joined (only TAGS fields) tags
  pub attributes : Resolved keys values tags f.attributes
  pub integers : List ℕ
  pub integers_are : Joined (only GEOMETRY fields) integers
  pub geometry : Draws (kind_of_type (number_in (last_only TYPE fields))) integers f.geometry

-- a payload that is this feature
abbrev pub IsFeatureOf : List ℕ → List (List ℕ) → List Value → Feature → Type 0
IsFeatureOf payload keys values f = (fields : List Entry) × Whole payload fields × IsFeature fields keys values f
