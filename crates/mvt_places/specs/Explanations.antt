-- What is said of a refused tile, line by line.
use Rattle.std.specs.Prelude.{ℕ, ◌+◌, ◌-◌, ◌/◌, ◌%◌, ◌==◌, ◌&&◌, List, [], ◌∷◌, ◌++◌, length, min, slice_range, nat_lt, Option, Some, None, Result, Ok, Err, codes, if◌then◌else◌}
use Rattle.std.specs.Fmt.{decimal}
use Rattle.std.specs.Str.Lossy.{utf8_lossy}
use Rattle.json.specs.Print.{quoted}
use Rattle.mvt_wire.specs.declared.fault.WireCause.{WireCause}
use Rattle.mvt_wire.specs.Fronts.{number_at}
use Rattle.mvt_tile.specs.declared.fault.Fault.{Fault}
use Rattle.mvt_places.specs.declared.span.Span.{Span}
use Rattle.mvt_places.specs.declared.target.Target.{Target}
use Rattle.mvt_places.specs.declared.target.Target.TheVariants as at
use Rattle.mvt_places.specs.Places.{target_of, layer_name_at, feature_id_at, place_at}
use Rattle.mvt_places.specs.Sentences.{sentence_for}
use Rattle.mvt_places.specs.Shown.{hex, shown}

-- ---- the layer and the feature: `layer 2 "water", feature 12, id 77`

-- a name as JSON, in which what a terminal obeys is spelled too; bytes that are no UTF-8 are shown by U+FFFD
abbrev pub name_text : Option (List ℕ) → List ℕ
name_text None = []
name_text (Some name) = codes " " ++ shown (quoted (utf8_lossy name))

-- a number behind a word, where there is one
abbrev pub told : List ℕ → Option ℕ → List ℕ
told word None = []
told word (Some n) = word ++ decimal n

unfoldable pub holders_line : Option ℕ → Option (List ℕ) → Option ℕ → Option ℕ → List ℕ
holders_line None name feature id = []
holders_line (Some layer) name feature id =
    codes "layer " ++ (decimal layer ++ (name_text name ++ (told (codes ", feature ") feature ++ (told (codes ", id ") id ++ codes "\n"))))

-- ---- the bytes, and what stands there: `bytes 1332 to 1333, integer 4 of the geometry: 128`

abbrev pub where_text : Span → List ℕ
where_text s =
    if nat_lt s.start s.end then
    (if s.start + 1 == s.end then codes "byte " ++ decimal s.start
    else codes "bytes " ++ (decimal s.start ++ (codes " to " ++ decimal (s.end - 1))))
    else codes "before byte " ++ decimal s.start

-- the number that bytes begin with
abbrev pub value_in : Result (ℕ × ℕ) WireCause → Option ℕ
value_in (Ok found) = Some found.0
value_in (Err cause) = None

abbrev pub value_text : List ℕ → List ℕ
value_text bytes = told (codes ": ") (value_in (number_at bytes))

-- the first byte of a tag, and what it says where it is the whole tag
unfoldable pub tag_text : ℕ → List ℕ
tag_text b =
    codes ", tag byte 0x" ++ (hex b ++ (if nat_lt b 128 then
    codes ": field " ++ (decimal (b / 8) ++ (codes ", wire type " ++ decimal (b % 8)))
    else []))

abbrev pub first_tag_text : List ℕ → List ℕ
first_tag_text [] = []
first_tag_text (b ∷ bs) = tag_text b

-- a number between words
unfoldable pub numbered : List ℕ → ℕ → List ℕ → List ℕ
numbered before n after = before ++ (decimal n ++ after)

-- what the bytes are
unfoldable pub what_text : Target → ℕ → List ℕ → List ℕ
what_text at.Field n bytes = first_tag_text bytes
what_text at.Name n bytes = first_tag_text bytes
what_text at.Rest n bytes = first_tag_text bytes
what_text at.Tag n bytes = numbered (codes ", tag ") n (codes " of the feature") ++ value_text bytes
what_text at.Tags n bytes = numbered (codes ", number of tags: ") n (codes ", the last") ++ value_text bytes
what_text at.Integer n bytes = numbered (codes ", integer ") n (codes " of the geometry") ++ value_text bytes
what_text at.Integers n bytes = numbered (codes ", number of integers: ") n []

abbrev pub bytes_in : List ℕ → Span → List ℕ
bytes_in input s = slice_range input s.start s.end

unfoldable pub place_line : List ℕ → Fault → Span → List ℕ
place_line input fault s =
    where_text s ++ (what_text (target_of fault.cause) fault.at (bytes_in input s) ++ codes "\n")

-- ---- the bytes round the place: `1328  09 9a 12 b4 [80 01] 0f 28 80 20`

-- what stands before and behind a byte: the place is put in brackets
abbrev pub opening : Span → ℕ → List ℕ
opening s p = if p == s.start then (if nat_lt s.start s.end then codes "[" else codes "[] ") else []

abbrev pub closing : Span → ℕ → List ℕ
closing s p = if (p + 1 == s.end) && nat_lt s.start s.end then codes "]" else []

unfoldable pub byte_text : Span → ℕ → ℕ → List ℕ
byte_text s p b = codes " " ++ (opening s p ++ (hex b ++ closing s p))

abbrev pub bytes_text : Span → ℕ → List ℕ → List ℕ
bytes_text s p [] = []
bytes_text s p (b ∷ bs) = byte_text s p b ++ bytes_text s (p + 1) bs

-- behind the last byte that is shown: the place is empty there, or goes on
abbrev pub end_text : Span → ℕ → List ℕ
end_text s to = if nat_lt to s.end then codes " .." else if nat_lt s.start s.end then [] else if s.start == to then codes " []" else []

-- a row: where it begins, and its bytes
unfoldable pub row_text : Span → ℕ → List ℕ → List ℕ → List ℕ
row_text s from bytes end = decimal from ++ (codes " " ++ (bytes_text s from bytes ++ (end ++ codes "\n")))

-- four bytes before the place and four behind it, at most 32 in all, in rows of 16
abbrev pub shown_from : Span → ℕ
shown_from s = s.start - 4

abbrev pub shown_to : ℕ → Span → ℕ
shown_to size s = min size (min (s.end + 4) (shown_from s + 32))

abbrev pub rows_between : List ℕ → Span → ℕ → ℕ → List ℕ
rows_between input s from to =
    if nat_lt (from + 16) to then
    row_text s from (slice_range input from (from + 16)) []
    ++ row_text s (from + 16) (slice_range input (from + 16) to) (end_text s to)
    else row_text s from (slice_range input from to) (end_text s to)

abbrev pub rows_text : List ℕ → Span → List ℕ
rows_text input s = rows_between input s (shown_from s) (shown_to (length input) s)

-- ---- all

unfoldable pub explanation_by : List ℕ → Fault → Option (List ℕ) → Option ℕ → Span → List ℕ
explanation_by input fault name id s =
    holders_line fault.layer name fault.feature id
    ++ (place_line input fault s ++ (sentence_for input fault.cause ++ (codes "\n" ++ rows_text input s)))

-- what is said of a fault of an input, of which so many bytes are judged
abbrev pub explanation : ℕ → List ℕ → Fault → List ℕ
explanation limit input fault =
    explanation_by input fault (layer_name_at limit input fault) (feature_id_at limit input fault) (place_at limit input fault)
