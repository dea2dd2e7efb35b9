-- What an error of `read_geometry` tells of the integers.
use Rattle.std.specs.Prelude.{◌≡◌, Option, Some, None}
use Rattle.mvt_geometry.specs.declared.fault.GeometryError.{GeometryError}
use Rattle.mvt_geometry.specs.declared.fault.GeometryError.TheVariants.{Memory, Fault}
use Rattle.mvt_geometry.specs.Table.{IndexedCause}

-- want of memory tells that no rule is broken, and a fault is the one of the integers
abbrev pub Reports : GeometryError → Option IndexedCause → Type 0
Reports Memory fault = fault ≡ None
Reports (Fault index cause) fault = fault ≡ Some (index, cause)
