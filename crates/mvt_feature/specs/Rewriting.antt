-- A feature that is written with the tags that its attributes have among what a layer's features use (4.4).
use Rattle.std.specs.Prelude.{◌≡◌, ℕ, List, ◌++◌}
use Rattle.mvt_attrs.specs.declared.used_entries.LayerEntries.{LayerEntries}
use Rattle.mvt_attrs.specs.TagPlaces.{tags_in}
use Rattle.mvt_attrs.specs.Using.{IsUsedBy, used_of}
use Rattle.mvt_wire.specs.Spelling.{spelled}
use Rattle.mvt_feature.specs.declared.feature.Feature.{Feature}
use Rattle.mvt_feature.specs.Canonical.{feature_fields}

abbrev pub IsRewritten : Feature → LayerEntries → LayerEntries → List ℕ → List ℕ → Type 0
IsRewritten f old new before after =
    IsUsedBy f.attributes old new
    × (after ≡ before ++ spelled (feature_fields (tags_in (used_of new.keys) (used_of new.values) f.attributes) f))
