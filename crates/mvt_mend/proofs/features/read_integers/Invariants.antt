use Rattle.std.proofs.Common.{◌≡◌, []}
use Rattle.mvt_wire.specs.Split.{split}
use Rattle.mvt_mend.specs.Features.{integers_after}
use Rattle.mvt_mend.proofs.features.read_integers.Given as goal

abbrev pub invariant-loop-field : goal.invariant-loop-field
invariant-loop-field l = record {
  rest : l.field-iterator.to_come.rest ≡ (split l.payload).rest;
  same : integers_after l.integers.items l.field-iterator.to_come.fields ≡ integers_after [] (split l.payload).fields;
}
