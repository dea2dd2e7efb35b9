-- What the contracts of private functions cite.
use Rattle.std.specs.Prelude.{ℕ, Result, Ok, Err}
use Rattle.mvt_wire.specs.declared.fault.WireCause.{WireCause}
use Rattle.mvt_wire.specs.declared.fault.WireCause.TheVariants.{Truncated, VarintRange, FieldNumber, WireType}
use Rattle.mvt_wire.specs.declared.packed.PackedError.{PackedError}
use Rattle.mvt_wire.specs.declared.packed.PackedError.TheVariants as errors
use Rattle.mvt_wire.specs.declared.field.Field.{Field}
use Rattle.mvt_wire.specs.declared.field.Loaded.{Loaded}
use Rattle.mvt_wire.specs.Field.{Entry, content_of, entry_of}
use Rattle.mvt_wire.specs.Fronts.{Load}

-- the program's values by what they hold
abbrev pub load_of : Result Loaded WireCause → Result Load WireCause
load_of (Ok l) = Ok (record { content = content_of l.payload; start = l.start; size = l.size })
load_of (Err cause) = Err cause

-- a field that was found, as contracts see it
abbrev pub found_of : Result (Field × ℕ) WireCause → Result (Entry × ℕ) WireCause
found_of (Ok found) = Ok (entry_of found.0, found.1)
found_of (Err cause) = Err cause

-- a number's cause as that of packed numbers
abbrev pub error_of : WireCause → PackedError
error_of Truncated = errors.Truncated
error_of VarintRange = errors.VarintRange
error_of FieldNumber = errors.VarintRange
error_of WireType = errors.VarintRange
