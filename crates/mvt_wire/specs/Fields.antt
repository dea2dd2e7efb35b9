-- What `next_field` and a step of `Fields` give.
use Rattle.std.specs.Prelude.{◌≡◌, ◌≢◌, ⊤, ℕ, ◌+◌, ◌<◌, ◌≤◌, List, [], length, drop, slice_range, Option, Some, None, Result, Ok, Err}
use Rattle.std.specs.Borrow.{Bor}
use Rattle.std.specs.Iterator.{Count, at_most}
use Rattle.mvt_wire.specs.declared.field.Field.{Field}
use Rattle.mvt_wire.specs.declared.fault.WireFault.{WireFault}
use Rattle.mvt_wire.specs.Field.{Content, varint, fixed64, bytes, fixed32, Entry, IsFieldAt, StartsNoField, entry_of, LiesAt}
use Rattle.mvt_wire.specs.Fronts.{rest_cause}
use Rattle.mvt_wire.specs.Split.{Parts, behind}

-- the field of the source that begins at a place, with the place after it; none at the end; or why none begins there
abbrev pub IsNext : List ℕ → ℕ → Result (Option (Field × ℕ)) WireFault → Type 0
IsNext source at (Ok None) = at ≡ length source
IsNext source at (Ok (Some found)) =
    (at < found.1) × (found.1 ≤ length source) × IsFieldAt at (slice_range source at found.1) (entry_of found.0)
IsNext source at (Err fault) =
    (at < length source) × StartsNoField (drop at source) × (fault.at ≡ at) × (fault.cause ≡ rest_cause (drop at source))

-- how many bytes of a field's content stand at its body at least
abbrev pub bytes_size : Content → ℕ
bytes_size (varint n) = 0
bytes_size (fixed64 n) = 0
bytes_size (bytes d) = length d
bytes_size (fixed32 n) = 0

-- a field ends at a place or before it
abbrev pub EndsBy : ℕ → Entry → Type 0
EndsBy place e = (e.at < place) × (e.body + bytes_size e.content ≤ place)

-- the first of the fields to come; none at the end; or, once, why no field begins at the rest
abbrev pub GivesEntry : Parts → Option (Result Field WireFault) → Parts → Type 0
GivesEntry old None new = (old.fields ≡ []) × (old.rest ≡ []) × (new ≡ old)
GivesEntry old (Some (Ok field)) new = (old ≡ behind (entry_of field) new) × EndsBy old.rest_at (entry_of field)
GivesEntry old (Some (Err fault)) new =
    (old.fields ≡ []) × (old.rest ≢ []) × (fault.at ≡ old.rest_at) × (fault.cause ≡ rest_cause old.rest) × (new.fields ≡ [])
    × (new.rest ≡ [])

-- a walk over the fields of a slice: the slice, and the split that is still to come
pub record Ahead : Type 0 where
  pub source : Bor (List ℕ)
  pub to_come : Parts

-- a field's bytes are those of the slice, at its body
abbrev pub LiesIn : Bor (List ℕ) → Option (Result Field WireFault) → Type 0
LiesIn source None = ⊤
LiesIn source (Some (Ok field)) = LiesAt source 0 field.body field.payload
LiesIn source (Some (Err fault)) = ⊤

-- a step of the walk: what it gives lies in the slice, which stays
abbrev pub GivesField : Ahead → Option (Result Field WireFault) → Ahead → Type 0
GivesField old given new = GivesEntry old.to_come given new.to_come × (new.source ≡ old.source) × LiesIn old.source given

-- each field to come takes a step, and so does the fault of a rest
abbrev pub fields_at_most : Ahead → Count
fields_at_most ahead = at_most (length ahead.to_come.fields + length ahead.to_come.rest)
