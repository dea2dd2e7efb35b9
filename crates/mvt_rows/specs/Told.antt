-- What a builder was told: layers one after the other, and the layer, the feature and the part that have begun and not ended.
-- Each call makes one of these of another, or is not due.
use Rattle.std.specs.Prelude.{ℕ, Bool, false, not, ◌&&◌, ◌==◌, nat_lt, List, [], ◌∷◌, ◌++◌, length, Option, Some, None, option_map, bytes_eq, if◌then◌else◌}
use Rattle.mvt_attrs.specs.TagPlaces.{place_in}
use Rattle.mvt_rows.specs.declared.rows.PartRow.{PartRow}
use Rattle.mvt_rows.specs.declared.rows.PointRow.{PointRow}
use Rattle.mvt_rows.specs.declared.words.AnyValue.{AnyValue}
use Rattle.mvt_rows.specs.declared.words.Given.{Given}
use Rattle.mvt_rows.specs.TileRows.{each, part_of}

-- a line, a ring, or the points of a feature
pub record ToldPart : Type 0 where
  pub exterior : Bool
  pub points : List PointRow

pub record ToldFeature : Type 0 where
  pub kind : ℕ
  pub id : Option ℕ
  pub tags : List ℕ
  pub parts : List ToldPart
  pub integers : List ℕ

pub record ToldLayer : Type 0 where
  pub name : List ℕ
  pub extent : ℕ
  pub keys : List (List ℕ)
  pub values : List Given
  pub features : List ToldFeature

-- a layer of version 2, or the version and the bytes of another
pub data ToldItem : Type 0 where
  Layer : ToldLayer → ToldItem
  Foreign : ℕ → List ℕ → ToldItem

-- what has begun and not ended
pub data Begun : Type 0 where
  Nothing : Begun
  InLayer : ToldLayer → Begun
  InFeature : ToldLayer → ToldFeature → Begun
  InPart : ToldLayer → ToldFeature → ToldPart → Begun

pub record Told : Type 0 where
  pub items : List ToldItem
  pub begun : Begun

-- nothing was told
abbrev pub nothing_told : Told
nothing_told = record { items = []; begun = Nothing }

-- ---- what ends

abbrev pub with_part : ToldFeature → ToldPart → ToldFeature
with_part f p = record f { parts = f.parts ++ p ∷ [] }

abbrev pub with_feature : ToldLayer → ToldFeature → ToldLayer
with_feature l f = record l { features = l.features ++ f ∷ [] }

-- the part that has begun ends
abbrev pub part_ended : Begun → Begun
part_ended Nothing = Nothing
part_ended (InLayer l) = InLayer l
part_ended (InFeature l f) = InFeature l f
part_ended (InPart l f p) = InFeature l (with_part f p)

-- and the feature
abbrev pub feature_ended : Begun → Begun
feature_ended Nothing = Nothing
feature_ended (InLayer l) = InLayer l
feature_ended (InFeature l f) = InLayer (with_feature l f)
feature_ended (InPart l f p) = InLayer (with_feature l (with_part f p))

-- and the layer, which is then one more item
abbrev pub layer_ended : Begun → List ToldItem
layer_ended Nothing = []
layer_ended (InLayer l) = Layer l ∷ []
layer_ended (InFeature l f) = Layer (with_feature l f) ∷ []
layer_ended (InPart l f p) = Layer (with_feature l (with_part f p)) ∷ []

-- all that was told, as items
abbrev pub all_told : Told → List ToldItem
all_told told = told.items ++ layer_ended told.begun

-- everything ends that has begun
abbrev pub ended : Told → Told
ended told = record { items = all_told told; begun = Nothing }

-- ---- what calls make of it

abbrev pub with_begun : Told → Option Begun → Option Told
with_begun told next = option_map (λ begun. record told { begun = begun }) next

-- a layer begins, or is there as its bytes
abbrev pub new_layer : List ℕ → ℕ → ToldLayer
new_layer name extent = record { name = name; extent = extent; keys = []; values = []; features = [] }

abbrev pub begin_layer : List ℕ → ℕ → Told → Option Told
begin_layer name extent told = Some (record { items = all_told told; begun = InLayer (new_layer name extent) })

abbrev pub add_foreign : ℕ → List ℕ → Told → Option Told
add_foreign version content told =
    if version == 2 then None else Some (record { items = all_told told ++ Foreign version content ∷ []; begun = Nothing })

-- a layer is changed, where one has begun
abbrev pub in_layer : (ToldLayer → ToldLayer) → Begun → Option Begun
in_layer change Nothing = None
in_layer change (InLayer l) = Some (InLayer (change l))
in_layer change (InFeature l f) = Some (InFeature (change l) f)
in_layer change (InPart l f p) = Some (InPart (change l) f p)

-- the layer that has begun
abbrev pub layer_in : Begun → Option ToldLayer
layer_in Nothing = None
layer_in (InLayer l) = Some l
layer_in (InFeature l f) = Some l
layer_in (InPart l f p) = Some l

-- a value as it was given: of a text the bits aren't looked at, and of a number the text
abbrev pub given_of : AnyValue → Given
given_of value =
    if value.kind == 1 then record { kind = 1; bits = 0; text = value.text.now }
    else record { kind = value.kind; bits = value.bits; text = [] }

-- the same text, the same value
abbrev pub same_given : Given → Given → Bool
same_given a b = a.kind == b.kind && (a.bits == b.bits && bytes_eq a.text b.text)

-- an entry is added where it isn't there
abbrev pub with_entry : {A : Type 0} → (A → A → Bool) → List A → A → List A
with_entry same held x = if nat_lt (place_in same held x) (length held) then held else held ++ x ∷ []

abbrev pub with_key : List ℕ → ToldLayer → ToldLayer
with_key key l = record l { keys = with_entry bytes_eq l.keys key }

abbrev pub with_value : Given → ToldLayer → ToldLayer
with_value value l = record l { values = with_entry same_given l.values value }

abbrev pub add_key : List ℕ → Told → Option Told
add_key key told = with_begun told (in_layer (with_key key) told.begun)

abbrev pub add_value : Given → Told → Option Told
add_value value told = with_begun told (in_layer (with_value value) told.begun)

-- a feature begins
abbrev pub new_feature : ℕ → ToldFeature
new_feature kind = record { kind = kind; id = None; tags = []; parts = []; integers = [] }

abbrev pub feature_in : ℕ → Begun → Option Begun
feature_in kind Nothing = None
feature_in kind (InLayer l) = Some (InFeature l (new_feature kind))
feature_in kind (InFeature l f) = None
feature_in kind (InPart l f p) = None

abbrev pub begin_feature : ℕ → Told → Option Told
begin_feature kind told = with_begun told (feature_in kind (feature_ended told.begun))

-- a feature is changed, where one has begun
abbrev pub in_feature : (ToldLayer → ToldFeature → ToldFeature) → Begun → Option Begun
in_feature change Nothing = None
in_feature change (InLayer l) = None
in_feature change (InFeature l f) = Some (InFeature l (change l f))
in_feature change (InPart l f p) = Some (InPart l (change l f) p)

abbrev pub add_id : ℕ → Told → Option Told
add_id id told = with_begun told (in_feature (λ l f. record f { id = Some id }) told.begun)

abbrev pub with_tag : ℕ → ℕ → ToldFeature → ToldFeature
with_tag key value f = record f { tags = f.tags ++ key ∷ (value ∷ []) }

abbrev pub add_tag_at : ℕ → ℕ → Told → Option Told
add_tag_at key value told = with_begun told (in_feature (λ l f. with_tag key value f) told.begun)

-- a tag by its texts: the places of the key and the value, which are added to the layer
abbrev pub with_both : List ℕ → Given → ToldLayer → ToldLayer
with_both key value l = with_value value (with_key key l)

abbrev pub tagged : List ℕ → Given → ToldLayer → ToldFeature → ToldFeature
tagged key value l f = with_tag (place_in bytes_eq l.keys key) (place_in same_given l.values value) f

abbrev pub tag_in : List ℕ → Given → Begun → Option Begun
tag_in key value Nothing = None
tag_in key value (InLayer l) = None
tag_in key value (InFeature l f) = Some (InFeature (with_both key value l) (tagged key value l f))
tag_in key value (InPart l f p) = Some (InPart (with_both key value l) (tagged key value l f) p)

abbrev pub add_tag : List ℕ → Given → Told → Option Told
add_tag key value told = with_begun told (tag_in key value told.begun)

-- a line or a ring begins, in a feature of its kind
abbrev pub new_part : Bool → List PointRow → ToldPart
new_part exterior points = record { exterior = exterior; points = points }

abbrev pub part_in : ℕ → Bool → Begun → Option Begun
part_in kind exterior Nothing = None
part_in kind exterior (InLayer l) = None
part_in kind exterior (InFeature l f) = if f.kind == kind then Some (InPart l f (new_part exterior [])) else None
part_in kind exterior (InPart l f p) = if f.kind == kind then Some (InPart l (with_part f p) (new_part exterior [])) else None

abbrev pub begin_part : ℕ → Bool → Told → Option Told
begin_part kind exterior told = with_begun told (part_in kind exterior told.begun)

-- points of the part that has begun; the first ones of a feature of points begin it
abbrev pub points_in : List PointRow → Begun → Option Begun
points_in points Nothing = None
points_in points (InLayer l) = None
points_in points (InFeature l f) = if f.kind == 1 then Some (InPart l f (new_part false points)) else None
points_in points (InPart l f p) = Some (InPart l f (record p { points = p.points ++ points }))

abbrev pub add_points : List PointRow → Told → Option Told
add_points points told = with_begun told (points_in points told.begun)

-- integers of a feature of unknown geometry
abbrev pub with_integers : List ℕ → ToldFeature → ToldFeature
with_integers integers f = record f { integers = f.integers ++ integers }

abbrev pub integers_in : List ℕ → Begun → Option Begun
integers_in integers Nothing = None
integers_in integers (InLayer l) = None
integers_in integers (InFeature l f) = if f.kind == 0 then Some (InFeature l (with_integers integers f)) else None
integers_in integers (InPart l f p) = if f.kind == 0 then Some (InPart l (with_integers integers f) p) else None

abbrev pub add_integers : List ℕ → Told → Option Told
add_integers integers told = with_begun told (integers_in integers told.begun)

-- a whole feature at once, as rows give it: its parts are spans of these points, and a ring says by 0 or 1 whether it is an exterior
-- one, as in rows that are written; what other parts say of it means nothing
abbrev pub points_told : ℕ → List PointRow → PartRow → Option (List PointRow)
points_told kind points row = if (kind == 3) && nat_lt 1 row.exterior then None else part_of points row.points

abbrev pub is_exterior_told : ℕ → PartRow → Bool
is_exterior_told kind row = (kind == 3) && (row.exterior == 1)

abbrev pub told_part : ℕ → List PointRow → PartRow → Option ToldPart
told_part kind points row = option_map (new_part (is_exterior_told kind row)) (points_told kind points row)

abbrev pub told_parts : ℕ → List PointRow → List PartRow → Option (List ToldPart)
told_parts kind points rows = each (told_part kind points) rows

abbrev pub with_parts : ToldFeature → List ToldPart → ToldFeature
with_parts f parts = record f { parts = f.parts ++ parts }

abbrev pub whole_feature : ℕ → Option ℕ → List ℕ → List ToldPart → ToldFeature
whole_feature kind id tags parts = record { kind = kind; id = id; tags = tags; parts = parts; integers = [] }

abbrev pub add_feature : ℕ → Option ℕ → List ℕ → Option (List ToldPart) → Told → Option Told
add_feature kind id tags None told = None
add_feature kind id tags (Some parts) told =
    with_begun told (in_layer (λ l. with_feature l (whole_feature kind id tags parts)) (feature_ended told.begun))

-- the feature that has begun is taken back
abbrev pub dropped_in : Begun → Option Begun
dropped_in Nothing = None
dropped_in (InLayer l) = None
dropped_in (InFeature l f) = Some (InLayer l)
dropped_in (InPart l f p) = Some (InLayer l)

abbrev pub drop_feature : Told → Option Told
drop_feature told = with_begun told (dropped_in told.begun)
