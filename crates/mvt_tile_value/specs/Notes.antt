-- What is noted of a tile that is accepted.
use Rattle.std.specs.Prelude.{ℕ, ◌+◌, ◌==◌, Bool, false, pos, List, [], ◌∷◌, ◌++◌, length, take, Option, Some, None, if◌then◌else◌}
use Rattle.std.specs.List.{position_from}
use Rattle.std.specs.Ordering.{int_eq}
use Rattle.mvt_feature.specs.declared.feature.Feature.{Feature}
use Rattle.mvt_geometry.specs.declared.shape.Point.{Point}
use Rattle.mvt_geometry.specs.declared.shape.Geometry.{Geometry}
use Rattle.mvt_geometry.specs.declared.shape.Geometry.TheVariants.{Unknown, Points, Lines, Polygons}
use Rattle.mvt_geometry.specs.Area.{area2}
use Rattle.mvt_geometry.specs.Rings.{is_closed}
use Rattle.mvt_geometry.specs.Shape.{rings_of}
use Rattle.mvt_message.specs.declared.item.Item.{Item}
use Rattle.mvt_message.specs.declared.item.Item.TheVariants as items
use Rattle.mvt_tile_value.specs.declared.note.Note.{Note}
use Rattle.mvt_tile_value.specs.declared.note.Note.TheVariants.{NoLayers, Foreign, NoFeatures, RepeatedId, FlatRing, ClosedTwice}
use Rattle.mvt_tile_value.specs.declared.tile.Tile.{Tile}

-- what is noted of each element, which is numbered
abbrev pub numbered : {A B : Type 0} → (ℕ → A → List B) → ℕ → List A → List B
numbered noted n [] = []
numbered noted n (x ∷ xs) = noted n x ++ numbered noted (n + 1) xs

-- a note where a test holds
abbrev pub note_if : {A : Type 0} → Bool → A → List A
note_if test note = if test then note ∷ [] else []

-- a ring without area
abbrev pub is_flat : List Point → Bool
is_flat ring = int_eq (area2 ring) (pos 0)

-- the notes of a ring: no area, or closed by a point of its own
abbrev pub ring_notes : ℕ → ℕ → ℕ → List Point → List Note
ring_notes layer feature n ring =
    note_if (is_flat ring) (FlatRing layer feature n) ++ note_if (is_closed ring) (ClosedTwice layer feature n)

abbrev pub geometry_notes : ℕ → ℕ → Geometry → List Note
geometry_notes layer feature (Unknown integers) = []
geometry_notes layer feature (Points points) = []
geometry_notes layer feature (Lines lines) = []
geometry_notes layer feature (Polygons polygons) = numbered (ring_notes layer feature) 0 (rings_of polygons)

-- whether an id is there and is this one
abbrev pub is_id : ℕ → Option ℕ → Bool
is_id id None = false
is_id id (Some other) = id == other

-- the first feature of an id
abbrev pub first_of : ℕ → List Feature → Option ℕ
first_of id features = position_from (λ f. is_id id f.id) 0 features

-- the note of an id that an earlier feature has
abbrev pub earlier_note : ℕ → ℕ → Option ℕ → List Note
earlier_note layer n None = []
earlier_note layer n (Some earlier) = RepeatedId layer n earlier ∷ []

-- of a feature that may have an id
abbrev pub id_note : ℕ → ℕ → (ℕ → Option ℕ) → Option ℕ → List Note
id_note layer n earlier None = []
id_note layer n earlier (Some id) = earlier_note layer n (earlier id)

abbrev pub feature_notes : ℕ → List Feature → ℕ → Feature → List Note
feature_notes layer features n f = id_note layer n (λ id. first_of id (take n features)) f.id ++ geometry_notes layer n f.geometry

abbrev pub layer_notes : ℕ → List Feature → List Note
layer_notes n features = note_if (length features == 0) (NoFeatures n) ++ numbered (feature_notes n features) 0 features

abbrev pub item_notes : ℕ → Item → List Note
item_notes n (items.Layer layer) = layer_notes n layer.features
item_notes n (items.Foreign version bytes) = Foreign n version ∷ []

-- in the order of the layers, features and rings
unfoldable pub notes_of : Tile → List Note
notes_of tile = note_if (length tile.items == 0) NoLayers ++ numbered item_notes 0 tile.items
