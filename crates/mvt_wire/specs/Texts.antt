-- The texts of errors.
use Rattle.std.specs.Prelude.{ℕ, List, ◌++◌, codes}
use Rattle.std.specs.Fmt.{decimal}
use Rattle.mvt_wire.specs.declared.fault.WireCause.{WireCause}
use Rattle.mvt_wire.specs.declared.fault.WireCause.TheVariants as causes
use Rattle.mvt_wire.specs.declared.fault.WireFault.{WireFault}
use Rattle.mvt_wire.specs.declared.packed.PackedError.{PackedError}
use Rattle.mvt_wire.specs.declared.packed.PackedError.TheVariants as errors

abbrev pub cause_name : WireCause → List ℕ
cause_name causes.Truncated = codes "Truncated"
cause_name causes.VarintRange = codes "VarintRange"
cause_name causes.FieldNumber = codes "FieldNumber"
cause_name causes.WireType = codes "WireType"

abbrev pub fault_text : WireFault → List ℕ
fault_text fault = cause_name fault.cause ++ (codes " at " ++ decimal fault.at)

abbrev pub packed_error_text : PackedError → List ℕ
packed_error_text errors.Memory = codes "out of memory"
packed_error_text errors.Truncated = codes "Truncated"
packed_error_text errors.VarintRange = codes "VarintRange"
packed_error_text errors.NumberRange = codes "NumberRange"
