use Rattle.std.proofs.Common.{◌≡◌, List, Some, take}
use Rattle.mvt_rows.specs.Building.{Holds}
use Rattle.mvt_rows.specs.Tables.{Table}
use Rattle.mvt_rows.specs.Told.{ToldFeature, ToldLayer, ToldPart, InFeature, told_parts, with_parts}
use Rattle.mvt_rows.proofs.builder.Builder.add_parts.Given as goal

abbrev pub invariant-loop-part : goal.invariant-loop-part
invariant-loop-part l = record {
  told : List ToldPart;
  made : told_parts l.kind l.points (take l.part-index l.parts) ≡ Some told;
  holds : (t : Table) (layer : ToldLayer) (f : ToldFeature) → Holds l.initial.self t (InFeature layer f)
      → Holds l.self t (InFeature layer (with_parts f told));
  failure : l.self.failure ≡ l.initial.self.failure;
}
