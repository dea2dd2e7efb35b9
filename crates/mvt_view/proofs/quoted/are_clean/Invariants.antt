use Rattle.std.proofs.Common.{◌≡◌, take}
use Rattle.std.specs.List.{list_all}
use Rattle.mvt_view.specs.JsonForms.{is_clean}
use Rattle.mvt_view.proofs.quoted.are_clean.Given as goal

abbrev pub invariant-loop-byte : goal.invariant-loop-byte
invariant-loop-byte l = l.all ≡ list_all is_clean (take l.byte-index l.bytes)
