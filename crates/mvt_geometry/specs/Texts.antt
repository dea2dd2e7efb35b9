-- The texts of errors.
use Rattle.std.specs.Prelude.{ℕ, List, ◌++◌, codes}
use Rattle.std.specs.Fmt.{decimal}
use Rattle.mvt_geometry.specs.declared.fault.GeometryCause.{GeometryCause}
use Rattle.mvt_geometry.specs.declared.fault.GeometryCause.TheVariants as causes
use Rattle.mvt_geometry.specs.declared.fault.GeometryError.{GeometryError}
use Rattle.mvt_geometry.specs.declared.fault.GeometryError.TheVariants as errors

abbrev pub cause_name : GeometryCause → List ℕ
cause_name causes.Command = codes "Command"
cause_name causes.Count = codes "Count"
cause_name causes.Parameters = codes "Parameters"
cause_name causes.ZeroSegment = codes "ZeroSegment"
cause_name causes.CoordinateRange = codes "CoordinateRange"
cause_name causes.FirstRing = codes "FirstRing"
cause_name causes.EndsEarly = codes "EndsEarly"
cause_name causes.ParameterRange = codes "ParameterRange"

abbrev pub geometry_error_text : GeometryError → List ℕ
geometry_error_text errors.Memory = codes "out of memory"
geometry_error_text (errors.Fault index cause) = cause_name cause ++ (codes " at " ++ decimal index)
