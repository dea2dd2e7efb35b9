-- The line that tells a fault.
use Rattle.std.specs.Prelude.{ℕ, List, ◌++◌, Option, Some, None, codes}
use Rattle.std.specs.Fmt.{decimal}
use Rattle.mvt_feature.specs.Causes.{cause_number, cause_name}
use Rattle.mvt_tile.specs.declared.fault.Fault.{Fault}

-- an index, or a hyphen where there is none
abbrev pub index_text : Option ℕ → List ℕ
index_text None = codes "-"
index_text (Some n) = decimal n

-- the layer, the feature, the place, the cause's number and its name
unfoldable pub fault_line : Fault → List ℕ
fault_line fault =
    codes "layer " ++ (index_text fault.layer
    ++ (codes " feature " ++ (index_text fault.feature
    ++ (codes " at " ++ (decimal fault.at
    ++ (codes ": " ++ (decimal (cause_number fault.cause)
    ++ (codes " " ++ cause_name fault.cause))))))))
