-- A fault of a tile: the layer and the feature in which it stands, its place and the broken rule.
use Rattle.std.specs.Prelude.{ℕ, Bool, true, false, Option, Some, None, if◌then◌else◌}
use Rattle.mvt_feature.specs.declared.cause.Cause.{Cause}
use Rattle.mvt_feature.specs.declared.cause.Cause.TheVariants.{Truncated}
use Rattle.mvt_feature.specs.Faults.{MessageFault}
use Rattle.mvt_tile.specs.declared.fault.Fault.{Fault}

-- a fault of a top-level field's own spelling or wire type, or of the whole input
abbrev pub outer_fault : ℕ → Cause → Fault
outer_fault at cause = record { layer = None; feature = None; at = at; cause = cause }

-- a fault of the item of this index
abbrev pub in_layer : ℕ → MessageFault → Fault
in_layer n fault = record { layer = Some n; feature = fault.feature; at = fault.at; cause = fault.cause }

-- the one cause that more bytes can take back
abbrev pub is_truncated : Cause → Bool
is_truncated Truncated = true
is_truncated _ = false

-- a fault outside layers
abbrev pub has_no_layer : Option ℕ → Bool
has_no_layer None = true
has_no_layer (Some n) = false

-- a top-level field that isn't finished: more bytes may change the fault
abbrev pub is_open : Fault → Bool
is_open fault = if has_no_layer fault.layer then is_truncated fault.cause else false
