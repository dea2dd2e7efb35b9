use Rattle.mvt_attrs.proofs.AttrsLaws.{uses_tell_entries_keys, uses_tell_entries_values}
use Rattle.mvt_attrs.proofs.laws.uses_tell_entries.Goals as goal

pub returns : goal.returns
returns c = record { keys = uses_tell_entries_keys; values = uses_tell_entries_values }
