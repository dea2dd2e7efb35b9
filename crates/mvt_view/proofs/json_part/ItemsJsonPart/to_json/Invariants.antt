use Rattle.std.proofs.Common.{◌≡◌, map, take}
use Rattle.serde_json.specs.View.{view}
use Rattle.mvt_view.proofs.json_part.ItemsJsonPart.to_json.Given as goal

abbrev pub invariant-loop-entry : goal.invariant-loop-entry
invariant-loop-entry g l = map view l.list.items ≡ map g.T.JsonPart.form (take l.entry-index l.entries)
