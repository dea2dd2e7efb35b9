-- What is known of findings while a tile is read (Mapbox Vector Tile Specification 2.1, 4.1 to 4.4).
use Rattle.std.specs.Prelude.{◌≡◌, ℕ, List, ◌++◌, length, map, find, Some, None}
use Rattle.std.specs.List.{flat_map}
use Rattle.std.specs.Option.{option_map, option_or, option_to_list}
use Rattle.mvt_attrs.specs.Values.{Value}
use Rattle.mvt_feature.specs.declared.feature.Feature.{Feature}
use Rattle.mvt_geometry.specs.declared.shape.Geometry.{Geometry}
use Rattle.mvt_geometry.specs.declared.shape.Point.{Point}
use Rattle.mvt_geometry.specs.Visiting.{Part}
use Rattle.mvt_message.specs.declared.item.Item.{Item}
use Rattle.mvt_tile_value.specs.declared.finding.Finding.{Finding}
use Rattle.mvt_tile_value.specs.declared.finding.Finding.TheVariants.{FarPoint}
use Rattle.mvt_tile_value.specs.declared.geometry_linting.GeometryFinding.{GeometryFinding}
use Rattle.mvt_tile_value.specs.declared.layer_linting.LayerFindings.{LayerFindings}
use Rattle.mvt_tile_value.specs.declared.lint_builder.LintBuilder.{LintBuilder}
use Rattle.mvt_tile_value.specs.Lint.{feature_findings, geometry_findings, is_far_point, is_large_value, item_findings, unknown_finding}
use Rattle.mvt_tile_value.specs.Notes.{numbered}

-- the positions that were told: those of whole parts, and those of one to come
abbrev pub told_points : List Part → List Point → List Point
told_points parts begun = flat_map (λ (p : Part). p.points) parts ++ begun

abbrev pub far_point : ℕ → ℕ → Point → Finding
far_point layer feature p = FarPoint layer feature p.x p.y

-- nothing was found of this feature
pub record HasNothing (layer extent feature : ℕ) (now : GeometryFinding) : Type 0 where
  pub layer_is : now.layer ≡ layer
  pub extent_is : now.extent ≡ extent
  pub feature_is : now.feature ≡ feature
  pub found_is : now.found ≡ None

-- the first of these positions that is far, unless something was found before
pub record HasLooked (start : GeometryFinding) (parts : List Part) (begun : List Point) (now : GeometryFinding) : Type 0 where
  pub layer_is : now.layer ≡ start.layer
  pub extent_is : now.extent ≡ start.extent
  pub feature_is : now.feature ≡ start.feature
  pub found_is : now.found
      ≡ option_or start.found (option_map (far_point start.layer start.feature) (find (is_far_point start.extent) (told_points parts begun)))

-- the integers of a geometry of unknown type
pub record HasSeen (start : GeometryFinding) (integers : List ℕ) (now : GeometryFinding) : Type 0 where
  pub layer_is : now.layer ≡ start.layer
  pub extent_is : now.extent ≡ start.extent
  pub found_is : now.found ≡ Some (unknown_finding start.layer start.feature integers)

-- what is found of this geometry
pub record HasFound (layer extent feature : ℕ) (geometry : Geometry) (now : GeometryFinding) : Type 0 where
  pub layer_is : now.layer ≡ layer
  pub extent_is : now.extent ≡ extent
  pub found_is : option_to_list now.found ≡ geometry_findings layer extent feature geometry

-- what is found of a layer's features so far, and which of its values are large
pub record AreLinted (layer extent : ℕ) (values : List Value) (linted : LayerFindings) (features : List Feature) : Type 0 where
  pub layer_is : linted.layer ≡ layer
  pub large_are : linted.large.items ≡ map is_large_value values
  pub count_is : linted.count ≡ length features
  pub findings_are : linted.findings.items ≡ numbered (feature_findings layer extent) 0 features

-- and nothing of the one that follows
abbrev pub AreLintedSoFar : ℕ → ℕ → List Value → LayerFindings → List Feature → Type 0
AreLintedSoFar layer extent values linted features =
    AreLinted layer extent values linted features × HasNothing layer extent (length features) linted.geometry

-- this is found of items
abbrev pub AreLintedItems : LintBuilder → List Item → Type 0
AreLintedItems found items = found.findings.items ≡ numbered item_findings 0 items
