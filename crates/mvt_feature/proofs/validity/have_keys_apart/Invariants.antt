use Rattle.std.proofs.Common.{◌≡◌, ℕ, List, take}
use Rattle.std.specs.List.{AllByRecursion}
use Rattle.mvt_attrs.specs.Tags.{HasDistinctKeys, has_key}
use Rattle.mvt_feature.specs.Valid.{ValidAttribute}
use Rattle.mvt_feature.proofs.ValidLemmas.{holds_key}
use Rattle.mvt_feature.proofs.validity.have_keys_apart.Given as goal

abbrev pub invariant-loop-attribute : goal.invariant-loop-attribute
invariant-loop-attribute l = record {
  distinct : HasDistinctKeys (take l.attribute-index l.attributes);
  valid : AllByRecursion ValidAttribute (take l.attribute-index l.attributes);
  known : (key : List ℕ) → holds_key l.keys.keys key ≡ has_key key (take l.attribute-index l.attributes);
}
