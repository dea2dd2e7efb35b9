-- What is known of the rings of a feature while they are drawn (Mapbox Vector Tile Specification 2.1, 4.3.4.4).
use Rattle.std.specs.Prelude.{◌≡◌, ℕ, ◌+◌, List, [], ◌∷◌, ◌++◌, length, if◌then◌else◌}
use Rattle.std.specs.List.{flat_map}
use Rattle.mvt_geometry.specs.declared.shape.Geometry.{Geometry}
use Rattle.mvt_geometry.specs.declared.shape.Point.{Point}
use Rattle.mvt_geometry.specs.Visiting.{Part}
use Rattle.mvt_tile_value.specs.declared.ring_noting.RingNotes.{RingNotes}
use Rattle.mvt_tile_value.specs.Notes.{numbered, geometry_notes, ring_notes}

-- the rings among parts
abbrev pub rings_in : List Part → List (List Point)
rings_in parts = flat_map (λ (p : Part). if p.ring then p.points ∷ [] else []) parts

-- one ring more was noted
pub record HasNotedRing (ring : List Point) (old new : RingNotes) : Type 0 where
  pub layer_is : new.layer ≡ old.layer
  pub feature_is : new.feature ≡ old.feature
  pub count_is : new.count ≡ old.count + 1
  pub notes_are : new.notes.items ≡ old.notes.items ++ ring_notes old.layer old.feature old.count ring

-- the rings among these parts were noted
pub record HaveNoted (start : RingNotes) (parts : List Part) (now : RingNotes) : Type 0 where
  pub layer_is : now.layer ≡ start.layer
  pub feature_is : now.feature ≡ start.feature
  pub count_is : now.count ≡ start.count + length (rings_in parts)
  pub notes_are : now.notes.items ≡ start.notes.items ++ numbered (ring_notes start.layer start.feature) start.count (rings_in parts)

-- nothing of this feature was noted
pub record HasBegun (layer feature : ℕ) (rings : RingNotes) : Type 0 where
  pub layer_is : rings.layer ≡ layer
  pub feature_is : rings.feature ≡ feature
  pub count_is : rings.count ≡ 0
  pub notes_are : rings.notes.items ≡ []

-- the rings of this geometry were noted
pub record HasNotedAll (layer feature : ℕ) (geometry : Geometry) (rings : RingNotes) : Type 0 where
  pub layer_is : rings.layer ≡ layer
  pub notes_are : rings.notes.items ≡ geometry_notes layer feature geometry
