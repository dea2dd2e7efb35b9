use Rattle.std.proofs.Common.{ap, sym, ap₂}
use Rattle.mvt_attrs.specs.declared.value.ValueOf.TheVariants.{Text}
use Rattle.mvt_wire.specs.Field.{content_of}
use Rattle.mvt_feature.specs.Canonical.{plain}
use Rattle.mvt_feature.proofs.canonical_feature.is_value.Goals as goal

pub returns-then-number-eq-STRING : goal.returns-then-number-eq-STRING
returns-then-number-eq-STRING c = λ holds. (
  Text c.in-Len.bytes.now,
  c.is_text.ensures holds,
  ap₂ plain (sym c.if-number-eq-STRING.true) (sym (ap content_of c.in-Len.is)),
)
