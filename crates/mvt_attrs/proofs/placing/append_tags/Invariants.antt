use Rattle.std.proofs.Common.{◌≡◌, ◌++◌, ℕ, List, take}
use Rattle.mvt_attrs.specs.Pools.{key_pool, value_pool}
use Rattle.mvt_attrs.specs.Tags.{Names}
use Rattle.mvt_attrs.proofs.placing.append_tags.Given as goal

abbrev pub invariant-loop-attribute : goal.invariant-loop-attribute
invariant-loop-attribute l = record {
  so_far : List ℕ;
  tags : l.tags.items ≡ l.initial.tags.items ++ so_far;
  names : Names l.keys l.values so_far (take l.attribute-index l.attributes);
  keys : l.keys ≡ key_pool l.initial.keys (take l.attribute-index l.attributes);
  values : l.values ≡ value_pool l.initial.values (take l.attribute-index l.attributes);
}
