use Rattle.std.proofs.Common.{◌≡◌, List, Some, take}
use Rattle.mvt_rows.specs.Told.{ToldPart, told_parts}
use Rattle.mvt_rows.proofs.builder.are_told.Given as goal

abbrev pub invariant-loop-part : goal.invariant-loop-part
invariant-loop-part l = record { told : List ToldPart; made : told_parts l.kind l.points (take l.part-index l.parts) ≡ Some told }
