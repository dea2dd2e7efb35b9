-- Where the numbers of tags and geometry are spelled (Protocol Buffers, Encoding, "Packed Repeated Fields").
use Rattle.std.specs.Prelude.{ℕ, zero, suc, ◌+◌, List, [], ◌∷◌, length, drop, Option, Some, None, Result, Ok, Err, ◌≤◌, IfSome}
use Rattle.std.specs.List.{flat_map}
use Rattle.mvt_wire.specs.declared.fault.WireCause.{WireCause}
use Rattle.mvt_wire.specs.Field.{Content, varint, bytes, Entry}
use Rattle.mvt_wire.specs.Fronts.{number_at}
use Rattle.mvt_feature.specs.Selection.{only}
use Rattle.mvt_places.specs.declared.span.Span.{Span}
use Rattle.mvt_places.specs.declared.span.Seen.{Seen}
use Rattle.mvt_places.specs.Messages.{Message, fields_of, span}

-- the spelling that begins at a place, and those that follow so many bytes; none where none begins
abbrev pub spelling_before : ℕ → (ℕ → List Span) → Result (ℕ × ℕ) WireCause → List Span
spelling_before at more (Ok found) = span at (at + found.1) ∷ more found.1
spelling_before at more (Err cause) = []

-- the spellings of numbers one after the other, at most n of them; the first begins at a place
abbrev pub spellings : ℕ → ℕ → List ℕ → List Span
spellings zero at b = []
spellings (suc n) at b = spelling_before at (λ size. spellings n (at + size) (drop size b)) (number_at b)

-- those of a field of a message: one, or packed ones
abbrev pub spellings_in : Message → ℕ → Content → List Span
spellings_in m body (varint n) = spellings 1 (m.body + body) (drop body m.payload)
spellings_in m body (bytes d) = spellings (length d) (m.body + body) d
spellings_in m body _ = []

-- those of all fields of a number, joined
abbrev pub joined : ℕ → Message → List Span
joined k m = flat_map (λ (e : Entry). spellings_in m e.body e.content) (only k (fields_of m))

-- ---- what is seen of spans that come one after the other

abbrev pub start_of : ℕ → Seen
start_of index = record { left = Some index; wanted = None; last = None }

abbrev pub left_after : Option ℕ → Option ℕ
left_after (Some (suc n)) = Some n
left_after (Some zero) = None
left_after None = None

abbrev pub wanted_after : Option ℕ → Option Span → Span → Option Span
wanted_after (Some zero) wanted s = Some s
wanted_after (Some (suc n)) wanted s = wanted
wanted_after None wanted s = wanted

abbrev pub with_span : Seen → Span → Seen
with_span seen s = record { left = left_after seen.left; wanted = wanted_after seen.left seen.wanted s; last = Some s }

-- the bytes lie below a place
abbrev pub EndsBelow : ℕ → Span → Type 0
EndsBelow place s = (s.start ≤ s.end) × (s.end ≤ place)

abbrev pub SeesBelow : ℕ → Seen → Type 0
SeesBelow place seen = IfSome seen.wanted (EndsBelow place) × IfSome seen.last (EndsBelow place)
