-- A fault of a message: the feature in which it stands, its place and the broken rule.
use Rattle.std.specs.Prelude.{ℕ, ◌+◌, List, [], ◌∷◌, Option, Some, None, true}
use Rattle.mvt_base.specs.Rules.{Rules, when}
use Rattle.mvt_wire.specs.Fronts.{rest_cause}
use Rattle.mvt_wire.specs.Split.{Parts}
use Rattle.mvt_attrs.specs.declared.resolving.TagError.{TagError}
use Rattle.mvt_attrs.specs.declared.resolving.TagError.TheVariants as tag_errors
use Rattle.mvt_geometry.specs.declared.fault.GeometryError.{GeometryError}
use Rattle.mvt_geometry.specs.declared.fault.GeometryError.TheVariants as geometry_errors
use Rattle.mvt_feature.specs.declared.cause.Cause.{Cause}
use Rattle.mvt_feature.specs.declared.message_error.MessageError.{MessageError}
use Rattle.mvt_feature.specs.declared.message_error.MessageError.TheVariants.{Memory, Fault}
use Rattle.mvt_feature.specs.Causes.{of_wire, of_tag, of_geometry}

-- a broken rule of a message: its feature, its place and its cause
pub record MessageFault : Type 0 where
  pub feature : Option ℕ
  pub at : ℕ
  pub cause : Cause

-- a fault that stands in no feature, or in one alone
abbrev pub fault_at : ℕ → Cause → MessageFault
fault_at at cause = record { feature = None; at = at; cause = cause }

-- a fault of the feature of this index
abbrev pub in_feature : ℕ → MessageFault → MessageFault
in_feature n fault = record { feature = Some n; at = fault.at; cause = fault.cause }

-- the fault that an error tells
abbrev pub fault_of : MessageError → Option MessageFault
fault_of Memory = None
fault_of (Fault feature at cause) = Some (record { feature = feature; at = at; cause = cause })

-- a payload, whose first byte stands at `payload_at`, has no bytes after its fields
abbrev pub rest_rules_at : ℕ → List ℕ → Rules MessageFault
rest_rules_at at [] = []
rest_rules_at at (b ∷ bs) = when true (fault_at at (of_wire (rest_cause (b ∷ bs))))

unfoldable pub rest_rules : ℕ → Parts → Rules MessageFault
rest_rules payload_at parts = rest_rules_at (payload_at + parts.rest_at) parts.rest

-- the faults of the levels below as they are told
abbrev pub of_tag_error : TagError → MessageError
of_tag_error tag_errors.Memory = Memory
of_tag_error (tag_errors.Fault index cause) = Fault None index (of_tag cause)

-- an integer's fault, at its index
abbrev pub of_geometry_error : GeometryError → MessageError
of_geometry_error geometry_errors.Memory = Memory
of_geometry_error (geometry_errors.Fault index cause) = Fault None index (of_geometry cause)
