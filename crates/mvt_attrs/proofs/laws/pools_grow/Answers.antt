use Rattle.mvt_attrs.proofs.AttrsLaws.{pools_grow_keys, pools_grow_values, pools_grow_held_keys, pools_grow_held_values}
use Rattle.mvt_attrs.proofs.laws.pools_grow.Goals as goal

pub returns : goal.returns
returns c = record {
  keys = pools_grow_keys;
  values = pools_grow_values;
  held_keys = pools_grow_held_keys;
  held_values = pools_grow_held_values;
}
