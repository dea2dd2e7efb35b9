-- The place of any fault lies in the bytes.
use Rattle.std.proofs.Common.{◌≡◌, ℕ, zero, suc, ◌==◌, ◌+◌, ◌-◌, ◌<◌, ◌≤◌, Bool, true, false, List, [], ◌∷◌, ◌++◌, length, take, drop, Option, Some, None, Result, Ok, Err, refl, ap, subst, ◌∙◌, arith, zero-add, length-append, length-drop, if◌then◌else◌}
use Rattle.std.specs.Prelude.{◌||◌, IfSome, min, slice_get, unwrap_or}
use Rattle.std.specs.List.{AllByRecursion, last_or}
use Rattle.std.specs.Option.{option_map_or}
use Rattle.std.proofs.lemmas.Bool.Decides.{nat_tests}
use Rattle.std.proofs.lemmas.List.{length-take}
use Rattle.mvt_base.proofs.ListLemmas.{all_weaker}
use Rattle.mvt_wire.specs.declared.fault.WireCause.{WireCause}
use Rattle.mvt_wire.specs.Field.{Content, varint, fixed64, bytes, fixed32, Entry, IsFieldAt, body_size}
use Rattle.mvt_wire.specs.Fields.{EndsBy, bytes_size}
use Rattle.mvt_wire.specs.Fronts.{entry_at, number_at}
use Rattle.mvt_wire.specs.Split.{SplitFrom, split}
use Rattle.mvt_wire.proofs.WireLaws.{field_function_spelled, field_function_field, number_function_number, split_function_is}
use Rattle.mvt_feature.specs.Selection.{only}
use Rattle.mvt_feature.specs.declared.numbers.feature.TheConstants.{TAGS, GEOMETRY}
use Rattle.mvt_message.specs.LayerFields.{bytes_of}
use Rattle.mvt_message.specs.declared.numbers.layer.TheConstants.{NAME, FEATURES, VALUES}
use Rattle.mvt_tile_value.specs.declared.numbers.tile.TheConstants.{LAYERS}
use Rattle.mvt_tile.specs.declared.fault.Fault.{Fault}
use Rattle.mvt_places.specs.declared.message.Form.{Form}
use Rattle.mvt_places.specs.declared.message.Form.TheVariants.{Any, Bytes}
use Rattle.mvt_places.specs.declared.span.Span.{Span}
use Rattle.mvt_places.specs.declared.target.Pick.{Pick}
use Rattle.mvt_places.specs.declared.target.Pick.TheVariants.{Nth, Last, Behind}
use Rattle.mvt_places.specs.declared.target.Target.{Target}
use Rattle.mvt_places.specs.declared.target.Target.TheVariants as at
use Rattle.mvt_places.specs.Messages.{Ends, Message, empty_at, end_in, end_with, field_span, fields_of, formed, has_byte, has_form, holding_inside, inside, last_formed, nth_inside}
use Rattle.mvt_places.specs.Places.{Holders, Reaches, asked, behind, feature_of, front, has_byte_at, holder, holders_in, in_feature, innermost, is_missing, layer_of, named_span, number_span, offset_span, picked, place_at, target_of, target_span, value_of}
use Rattle.mvt_places.specs.Spans.{EndsBelow, joined, spelling_before, spellings, spellings_in}
use Rattle.mvt_places.proofs.PickLemmas.{filter_all, find_all, flat_map_all, get_all, last_or_all, mapped_some}

-- ---- fields

bytes_least : (payload : List ℕ) (c : Content) → bytes_size c ≤ body_size payload c
bytes_least payload (varint n) = omega arith
bytes_least payload (fixed64 n) = omega arith
bytes_least payload (bytes d) = omega arith
bytes_least payload (fixed32 n) = omega arith

field_ends : (at : ℕ) (b : List ℕ) (e : Entry) → IsFieldAt at b e → 1 ≤ length b → EndsBy (at + length b) e
field_ends at b e is some =
    let begins : e.at ≡ at = is.begins in
    let ends : e.body + body_size is.field.payload e.content ≡ at + length b = is.ends in
    let least : bytes_size e.content ≤ body_size is.field.payload e.content = bytes_least is.field.payload e.content in
    let starts : e.at < at + length b = omega arith in
    let within : e.body + bytes_size e.content ≤ at + length b = omega arith in
    (starts, within)

fields_end_from : (at : ℕ) (b : List ℕ) (es : List Entry) (rest : List ℕ) → SplitFrom at b es rest
    → AllByRecursion (EndsBy (at + length b)) es
fields_end_from at b [] rest s = tt
fields_end_from at b (e ∷ es) rest s =
    let front : List ℕ = s.0 in
    let back : List ℕ = s.1 in
    let found : entry_at at (front ++ back) ≡ Ok (e, length front) = field_function_spelled at front back e s.3 in
    let some : 1 ≤ length front = (field_function_field at (front ++ back) e (length front) found).0 in
    let size : length b ≡ length front + length back = ap length s.2 ∙ length-append front back in
    let own : EndsBy (at + length front) e = field_ends at front e s.3 some in
    let begins : e.at < at + length front = own.0 in
    let ends : e.body + bytes_size e.content ≤ at + length front = own.1 in
    let starts : e.at < at + length b = omega arith in
    let within : e.body + bytes_size e.content ≤ at + length b = omega arith in
    let same : at + length front + length back ≡ at + length b = omega arith in
    ((starts, within), subst (λ (n : ℕ). AllByRecursion (EndsBy n) es) same (fields_end_from (at + length front) back es rest s.4))

fields_end : (b : List ℕ) → AllByRecursion (EndsBy (length b)) (split b).fields
fields_end b =
    subst (λ (n : ℕ). AllByRecursion (EndsBy n) (split b).fields) (zero-add (length b))
    (fields_end_from 0 b (split b).fields (split b).rest (split_function_is b))

formed_end : (form : Form) (k : ℕ) (m : Message) → AllByRecursion (EndsBy (length m.payload)) (formed form k (fields_of m))
formed_end form k m =
    let P : Entry → Type 0 = EndsBy (length m.payload) in
    filter_all P (λ (e : Entry). has_form form e.content) (only k (fields_of m))
    (filter_all P (λ (e : Entry). e.number == k) (fields_of m) (fields_end m.payload))

-- ---- the bytes of a field

end_after : (payload : List ℕ) (at : ℕ) → at ≤ length payload → (at ≤ end_in payload at) × (end_in payload at ≤ length payload)
end_after payload at within = by_found (entry_at at (drop at payload)) refl
  where
    by_found : (found : Result (Entry × ℕ) WireCause) → entry_at at (drop at payload) ≡ found
        → (at ≤ end_with at (length payload) found) × (end_with at (length payload) found ≤ length payload)
    by_found (Ok f) is =
        let most : f.1 ≤ length (drop at payload) = (field_function_field at (drop at payload) f.0 f.1 is).1 in
        let size : length (drop at payload) ≡ length payload - at = length-drop at payload in
        let after : at ≤ at + f.1 = omega arith in
        let ends : at + f.1 ≤ length payload = omega arith in
        (after, ends)
    by_found (Err cause) is = (within, omega arith)

span_ends : (place : ℕ) (m : Message) (at : ℕ) → at ≤ length m.payload → m.body + length m.payload ≤ place
    → EndsBelow place (field_span m at)
span_ends place m at within fits =
    let after : at ≤ end_in m.payload at = (end_after m.payload at within).0 in
    let ends : end_in m.payload at ≤ length m.payload = (end_after m.payload at within).1 in
    let ordered : m.body + at ≤ m.body + end_in m.payload at = omega arith in
    let below : m.body + end_in m.payload at ≤ place = omega arith in
    (ordered, below)

-- ---- messages

bytes_most : (c : Content) → length (bytes_of c) ≤ bytes_size c
bytes_most (varint n) = omega arith
bytes_most (fixed64 n) = omega arith
bytes_most (bytes d) = omega arith
bytes_most (fixed32 n) = omega arith

inside_ends : (place : ℕ) (m : Message) (e : Entry) → Ends place m → EndsBy (length m.payload) e → Ends place (inside m e)
inside_ends place m e fits ends =
    let most : length (bytes_of e.content) ≤ bytes_size e.content = bytes_most e.content in
    let whole : m.body + length m.payload ≤ place = fits.0 in
    let starts : e.at < length m.payload = ends.0 in
    let last : e.body + bytes_size e.content ≤ length m.payload = ends.1 in
    let at_most : e.at ≤ length m.payload = omega arith in
    let own : EndsBelow place (field_span m e.at) = span_ends place m e.at at_most whole in
    let body : m.body + e.body + length (bytes_of e.content) ≤ place = omega arith in
    (body, own.0, own.1)

nth_ends : (place k index : ℕ) (m : Message) → Ends place m → IfSome (nth_inside k index m) (Ends place)
nth_ends place k index m fits =
    mapped_some (Ends place) (inside m) (slice_get (formed Bytes k (fields_of m)) index)
    (get_all (λ (e : Entry). Ends place (inside m e)) (formed Bytes k (fields_of m)) index
    (all_weaker (EndsBy (length m.payload)) (λ (e : Entry). Ends place (inside m e)) (λ e ends. inside_ends place m e fits ends)
    (formed Bytes k (fields_of m)) (formed_end Bytes k m)))

holding_ends : (place k at : ℕ) (m : Message) → Ends place m → IfSome (holding_inside k at m) (Ends place)
holding_ends place k at m fits =
    mapped_some (Ends place) (inside m) _
    (find_all (λ (e : Entry). Ends place (inside m e)) (has_byte (at - m.body)) (formed Bytes k (fields_of m))
    (all_weaker (EndsBy (length m.payload)) (λ (e : Entry). Ends place (inside m e)) (λ e ends. inside_ends place m e fits ends)
    (formed Bytes k (fields_of m)) (formed_end Bytes k m)))

asked_ends : (place k : ℕ) (index : Option ℕ) (m : Option Message) → IfSome m (Ends place) → IfSome (asked k index m) (Ends place)
asked_ends place k None None fits = tt
asked_ends place k None (Some m) fits = tt
asked_ends place k (Some index) None fits = tt
asked_ends place k (Some index) (Some m) fits = nth_ends place k index m fits

front_ends : (limit : ℕ) (input : List ℕ) → Ends (length input) (front limit input)
front_ends limit input =
    let size : length (take limit input) ≡ min limit (length input) = length-take limit input in
    let most : length (take limit input) ≤ length input = omega arith in
    let whole : 0 + length (take limit input) ≤ length input = omega arith in
    (whole, omega arith, most)

-- ---- an offset

has_reaches : (place : ℕ) (m : Message) → has_byte_at place m ≡ true → Reaches place m
has_reaches place m has = grind (arith, nat_tests)

value_ends : (place below : ℕ) (layer : Option Message) → IfSome layer (Ends below) → IfSome (value_of place layer) (Ends below)
value_ends place below None fits = tt
value_ends place below (Some layer) fits = holding_ends below VALUES place layer fits

-- a message that lies below a place, and another place in it
abbrev Holds : ℕ → ℕ → Message → Type 0
Holds below place m = Ends below m × Reaches place m

innermost_holds : (below place : ℕ) (inner : Option Message) (outer : Message) → IfSome inner (Ends below) → Holds below place outer
    → Holds below place (innermost place inner outer)
innermost_holds below place None outer fits holds = holds
innermost_holds below place (Some m) outer fits holds = by_test (has_byte_at place m) refl
  where
    by_test : (b : Bool) → has_byte_at place m ≡ b → Holds below place (if b then m else outer)
    by_test true has = (fits, has_reaches place m has)
    by_test false has = holds

holder_holds : (below place : ℕ) (input : Message) (layer feature : Option Message) → IfSome layer (Ends below)
    → IfSome feature (Ends below)
    → Holds below place input → Holds below place (holder place input layer feature)
holder_holds below place input layer feature layer_fits feature_fits holds =
    innermost_holds below place feature _ feature_fits
    (innermost_holds below place (value_of place layer) _ (value_ends place below layer layer_fits)
    (innermost_holds below place layer input layer_fits holds))

-- what holds a fault lies below the end
record Fit (h : Holders) : Type 0 where
  input : Ends h.end h.input
  front : h.input.body ≡ 0
  layer : IfSome h.layer (Ends h.end)
  feature : IfSome h.feature (Ends h.end)

offset_within : (h : Holders) (place : ℕ) → Fit h → EndsBelow h.end (offset_span h place)
offset_within h place fit =
    let within : ℕ = min place (length h.input.payload) in
    let m : Message = holder within h.input h.layer h.feature in
    let front : h.input.body ≡ 0 = fit.front in
    let low : h.input.body ≤ within = omega arith in
    let high : within ≤ h.input.body + length h.input.payload = omega arith in
    let holds : Holds h.end within m = holder_holds h.end within h.input h.layer h.feature fit.layer fit.feature (fit.input, (low, high)) in
    let whole : m.body + length m.payload ≤ h.end = holds.0.0 in
    let begins : m.body ≤ within = holds.1.0 in
    let ends : within ≤ m.body + length m.payload = holds.1.1 in
    let place_fits : within - m.body ≤ length m.payload = omega arith in
    span_ends h.end m (within - m.body) place_fits whole

-- a field that was found in a message
entry_within : (place : ℕ) (m : Message) (e : Entry) → Ends place m → EndsBy (length m.payload) e → EndsBelow place (field_span m e.at)
entry_within place m e fits ends =
    let starts : e.at < length m.payload = ends.0 in
    let at_most : e.at ≤ length m.payload = omega arith in
    span_ends place m e.at at_most fits.0

last_ends : (form : Form) (k : ℕ) (m : Message) → IfSome (last_formed form k m) (EndsBy (length m.payload))
last_ends form k m = last_or_all (EndsBy (length m.payload)) None (formed form k (fields_of m)) tt (formed_end form k m)

named_within : (h : Holders) (place : ℕ) (layer : Option Message) → Fit h → IfSome layer (Ends h.end)
    → EndsBelow h.end (named_span h place layer)
named_within h place None fit fits = offset_within h place fit
named_within h place (Some layer) fit fits = by_name (last_formed Bytes NAME layer) (last_ends Bytes NAME layer)
  where
    by_name : (o : Option Entry) → IfSome o (EndsBy (length layer.payload))
        → EndsBelow h.end (option_map_or (λ (e : Entry). field_span layer e.at) o (offset_span h place))
    by_name None ends = offset_within h place fit
    by_name (Some e) ends = entry_within h.end layer e fits ends

-- ---- an index

spellings_below : (place n at : ℕ) (b : List ℕ) → at + length b ≤ place → AllByRecursion (EndsBelow place) (spellings n at b)
spellings_below place zero at b fits = tt
spellings_below place (suc n) at b fits = by_found (λ k after. spellings_below place n (at + k) (drop k b) after) (number_at b) refl
  where
    by_found : ((k : ℕ) → at + k + length (drop k b) ≤ place → AllByRecursion (EndsBelow place) (spellings n (at + k) (drop k b)))
        → (found : Result (ℕ × ℕ) WireCause) → number_at b ≡ found
        → AllByRecursion (EndsBelow place) (spelling_before at (λ size. spellings n (at + size) (drop size b)) found)
    by_found more (Ok f) is =
        let most : f.1 ≤ length b = (number_function_number b f.0 f.1 is).0 in
        let size : length (drop f.1 b) ≡ length b - f.1 = length-drop f.1 b in
        let after : at + f.1 + length (drop f.1 b) ≤ place = omega arith in
        let ordered : at ≤ at + f.1 = omega arith in
        let below : at + f.1 ≤ place = omega arith in
        ((ordered, below), more f.1 after)
    by_found more (Err cause) is = tt

content_below : (place : ℕ) (m : Message) (body : ℕ) (c : Content) → m.body + length m.payload ≤ place
    → body + bytes_size c ≤ length m.payload → AllByRecursion (EndsBelow place) (spellings_in m body c)
content_below place m body (varint n) fits ends =
    let size : length (drop body m.payload) ≡ length m.payload - body = length-drop body m.payload in
    let below : m.body + body + length (drop body m.payload) ≤ place = omega arith in
    spellings_below place 1 (m.body + body) (drop body m.payload) below
content_below place m body (fixed64 n) fits ends = tt
content_below place m body (bytes d) fits ends =
    let below : m.body + body + length d ≤ place = omega arith in
    spellings_below place (length d) (m.body + body) d below
content_below place m body (fixed32 n) fits ends = tt

joined_below : (place k : ℕ) (m : Message) → m.body + length m.payload ≤ place → AllByRecursion (EndsBelow place) (joined k m)
joined_below place k m fits =
    let P : Entry → Type 0 = EndsBy (length m.payload) in
    flat_map_all P (EndsBelow place) (λ (e : Entry). spellings_in m e.body e.content)
    (λ e ends. content_below place m e.body e.content fits ends.1) (only k (fields_of m))
    (filter_all P (λ (e : Entry). e.number == k) (fields_of m) (fields_end m.payload))

empty_within : (place : ℕ) (s : Span) → EndsBelow place s → EndsBelow place (empty_at s.end)
empty_within place s ends = (omega arith, ends.1)

behind_within : (place : ℕ) (m : Message) (field : Option Entry) (last : Option Span) → Ends place m
    → IfSome field (EndsBy (length m.payload))
    → IfSome last (EndsBelow place) → EndsBelow place (behind m field last)
behind_within place m field (Some last) fits ends below = empty_within place last below
behind_within place m (Some e) None fits ends below = empty_within place (field_span m e.at) (entry_within place m e fits ends)
behind_within place m None None fits ends below = (fits.1, fits.2)

picked_within : (place : ℕ) (pick : Pick) (spans : List Span) → AllByRecursion (EndsBelow place) spans
    → IfSome (picked pick spans) (EndsBelow place)
picked_within place (Nth index) spans all = get_all (EndsBelow place) spans index all
picked_within place Last spans all = last_or_all (EndsBelow place) None spans tt all
picked_within place Behind spans all = tt

some_within : (place : ℕ) (o : Option Span) (d : Span) → IfSome o (EndsBelow place) → EndsBelow place d → EndsBelow place (unwrap_or o d)
some_within place None d held ends = ends
some_within place (Some s) d held ends = held

number_within : (place k : ℕ) (pick : Pick) (m : Message) → Ends place m → EndsBelow place (number_span k pick m)
number_within place k pick m fits =
    let all : AllByRecursion (EndsBelow place) (joined k m) = joined_below place k m fits.0 in
    some_within place (picked pick (joined k m)) (behind m (last_formed Any k m) (last_or None (joined k m)))
    (picked_within place pick (joined k m) all)
    (behind_within place m (last_formed Any k m) (last_or None (joined k m)) fits (last_ends Any k m)
    (last_or_all (EndsBelow place) None (joined k m) tt all))

feature_within : (end k : ℕ) (pick : Pick) (m : Option Message) → IfSome m (Ends end) → EndsBelow end (in_feature end k pick m)
feature_within end k pick None fits = (omega arith, omega arith)
feature_within end k pick (Some m) fits = number_within end k pick m fits

-- ---- the place

target_within : (t : Target) (place : ℕ) (h : Holders) → Fit h → EndsBelow h.end (target_span t place h)
target_within at.Field place h fit = offset_within h place fit
target_within at.Name place h fit = named_within h place h.layer fit fit.layer
target_within at.Rest place h fit = (omega arith, omega arith)
target_within at.Tag place h fit = feature_within h.end TAGS (Nth place) h.feature fit.feature
target_within at.Tags place h fit = feature_within h.end TAGS Last h.feature fit.feature
target_within at.Integer place h fit = feature_within h.end GEOMETRY (Nth place) h.feature fit.feature
target_within at.Integers place h fit = feature_within h.end GEOMETRY Behind h.feature fit.feature

holders_fit : (limit : ℕ) (input : List ℕ) (fault : Fault) → Fit (holders_in limit input fault)
holders_fit limit input fault =
    let layer : IfSome (layer_of limit input fault) (Ends (length input)) =
    asked_ends (length input) LAYERS fault.layer (Some (front limit input)) (front_ends limit input) in
    record {
      input = front_ends limit input;
      front = refl;
      layer = layer;
      feature = asked_ends (length input) FEATURES fault.feature (layer_of limit input fault) layer;
    }

pub place_within : (limit : ℕ) (input : List ℕ) (fault : Fault) → EndsBelow (length input) (place_at limit input fault)
place_within limit input fault =
    by_test (is_missing fault.layer (layer_of limit input fault) || is_missing fault.feature (feature_of limit input fault))
  where
    by_test : (b : Bool) → EndsBelow (length input)
        (if b then empty_at (length input) else target_span (target_of fault.cause) fault.at (holders_in limit input fault))
    by_test true = (omega arith, omega arith)
    by_test false = target_within (target_of fault.cause) fault.at (holders_in limit input fault) (holders_fit limit input fault)
