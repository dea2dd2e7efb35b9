use Rattle.std.proofs.Common.{◌≡◌, ℕ, ◌++◌, List, map, take}
use Rattle.mvt_attrs.specs.declared.value.Attribute.{Attribute}
use Rattle.mvt_attrs.specs.Values.{Value}
use Rattle.mvt_attrs.specs.Tags.{Names}
use Rattle.mvt_tile_value.specs.Lint.{attribute_findings, is_large_value}
use Rattle.mvt_tile_value.specs.Notes.{numbered}
use Rattle.mvt_tile_value.proofs.layer_linting.lint_tags.Given as goal

abbrev pub invariant-loop-number : goal.invariant-loop-number
invariant-loop-number l =
    (keys : List (List ℕ)) (values : List Value) (attributes : List Attribute)
    → l.large ≡ map is_large_value values → Names keys values l.tags attributes
    → l.findings.items ≡ l.initial.findings.items ++ numbered (attribute_findings l.layer l.feature) 0 (take l.number attributes)
