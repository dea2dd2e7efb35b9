use Rattle.std.proofs.Common.{string_bytes}
use Rattle.mvt_view.proofs.WalkLemmas.{Listed}
use Rattle.mvt_view.proofs.fields.fields_within.Given as goal

abbrev pub invariant-loop-field : goal.invariant-loop-field
invariant-loop-field l = Listed l.limit l.input l.field-iterator.to_come (string_bytes l.lines)
