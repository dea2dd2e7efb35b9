use Rattle.mvt_attrs.proofs.AttrsLaws.{pool_entries_distinct_keys, pool_entries_distinct_values, pool_entries_from_keys, pool_entries_from_values}
use Rattle.mvt_attrs.proofs.laws.pool_entries.Goals as goal

pub returns : goal.returns
returns c = record {
  distinct_keys = pool_entries_distinct_keys;
  distinct_values = pool_entries_distinct_values;
  from_keys = pool_entries_from_keys;
  from_values = pool_entries_from_values;
}
