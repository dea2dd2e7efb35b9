-- The texts of errors.
use Rattle.std.specs.Prelude.{ℕ, List, ◌++◌, codes}
use Rattle.std.specs.Fmt.{decimal}
use Rattle.mvt_feature.specs.declared.message_error.MessageError.{MessageError}
use Rattle.mvt_feature.specs.declared.message_error.MessageError.TheVariants.{Memory, Fault}
use Rattle.mvt_feature.specs.Causes.{cause_name}

abbrev pub message_error_text : MessageError → List ℕ
message_error_text Memory = codes "out of memory"
message_error_text (Fault feature at cause) = cause_name cause ++ (codes " at " ++ decimal at)
