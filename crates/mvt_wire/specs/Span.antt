-- What stands at the front of a stream.
use Rattle.std.specs.Prelude.{◌≡◌, ◌≢◌, ℕ, ◌≤◌, List, length, take}
use Rattle.mvt_wire.specs.declared.span.Span.{Span}
use Rattle.mvt_wire.specs.declared.span.Span.TheVariants as spans
use Rattle.mvt_wire.specs.declared.fault.WireCause.TheVariants.{Truncated}
use Rattle.mvt_wire.specs.Field.{Entry, IsFieldAt, StartsNoField}
use Rattle.mvt_wire.specs.Fronts.{rest_cause}

-- a field of n bytes; or none yet, since the list ends too early; or none, whatever follows
abbrev pub IsSpan : List ℕ → Span → Type 0
IsSpan b (spans.Whole n) = (1 ≤ n) × (n ≤ length b) × (e : Entry) × IsFieldAt 0 (take n b) e
IsSpan b spans.Unfinished = StartsNoField b × (rest_cause b ≡ Truncated)
IsSpan b (spans.Bad fault) =
    StartsNoField b × (fault.at ≡ 0) × (fault.cause ≡ rest_cause b) × (fault.cause ≢ Truncated)
