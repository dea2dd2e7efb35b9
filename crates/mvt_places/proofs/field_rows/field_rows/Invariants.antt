use Rattle.std.proofs.Common.{◌≡◌, ◌≤◌, ◌++◌, length, map}
use Rattle.mvt_places.specs.Around.{field_row, field_rows}
use Rattle.mvt_places.specs.Messages.{message_of}
use Rattle.mvt_places.proofs.field_rows.field_rows.Given as goal

abbrev pub invariant-loop-field : goal.invariant-loop-field
invariant-loop-field l =
    (l.rows.items ++ map (field_row (message_of l.message)) l.field-iterator.to_come.fields ≡ field_rows (message_of l.message))
    × (l.field-iterator.to_come.rest_at ≤ length l.message.payload.now)
