-- The first fields of bytes, and those of a canonical layer.
use Rattle.std.proofs.Common.{arith, ◌≡◌, ◌^◌, ◌<◌, ◌≤◌, ◌+◌, ◌*◌, ℕ, List, [], ◌∷◌, ◌++◌, length, map, drop, Option, Some, None, Ok, Err, Bor, refl, sym, ap, ap₂, subst, ◌∙◌, append_assoc, append-nil, length-append, length-drop}
use mathlib.Core.Logic.{◌⊎◌, inl, inr}
use Rattle.std.proofs.Math.Seq.{drop-append_seam}
use Rattle.std.proofs.lemmas.List.{append_cancel_left}
use Rattle.std.proofs.lemmas.List.Folds.{drop_split}
use Rattle.std.specs.List.{slice_range}
use Rattle.mvt_wire.specs.declared.field.Field.{Field}
use Rattle.mvt_wire.specs.declared.fault.WireFault.{WireFault}
use Rattle.mvt_wire.specs.Field.{Entry, IsFieldAt, bytes, content_of, entry_of, varint, wire_type}
use Rattle.mvt_wire.specs.Fields.{IsNext}
use Rattle.mvt_wire.specs.Fronts.{entry_at}
use Rattle.mvt_wire.specs.Spelling.{IsFit, Plain, plain_of, short_field}
use Rattle.mvt_wire.specs.Split.{Whole}
use Rattle.mvt_wire.proofs.WireLaws.{field_function_spelled, short_lengths_bytes, short_lengths_field, short_lengths_some, spelled_whole_field, spelled_whole_whole}
use Rattle.mvt_feature.specs.declared.feature.Feature.{Feature}
use Rattle.mvt_feature.specs.Canonical.{plain}
use Rattle.mvt_message.specs.declared.item.Item.TheVariants.{Layer}
use Rattle.mvt_message.specs.declared.item.Layer.{Layer as ALayer}
use Rattle.mvt_message.specs.declared.numbers.layer.TheConstants.{EXTENT, FEATURES, NAME, VERSION}
use Rattle.mvt_message.specs.CanonicalItems.{canonical_item, keys_of, values_of}
use Rattle.mvt_message.specs.ValidItems.{ValidItem, ValidLayer}
use Rattle.mvt_tile_value.specs.declared.numbers.tile.TheConstants.{LAYERS}
use Rattle.mvt_tile_value.specs.Beginning.{IsNoLayer}
use Rattle.mvt_tile_value.specs.Comparing.{IsAfter}
use Rattle.mvt_tile_value.proofs.ComparingLemmas.{after_none}

-- the field at the front

the_entry : (field : Plain) (es : List Entry) → Whole (short_field field.number field.content ++ []) es → map plain_of es ≡ field ∷ []
    → (e : Entry) × IsFieldAt 0 (short_field field.number field.content) e × (plain_of e ≡ field)
the_entry field [] whole are = absurd (cc are)
the_entry field (e ∷ []) whole are =
    let front : whole.0 ≡ short_field field.number field.content =
    sym (append-nil whole.0) ∙ ap (λ b. whole.0 ++ b) (sym whole.4.0) ∙ sym whole.2 ∙ append-nil (short_field field.number field.content) in
    (e, subst (λ b. IsFieldAt 0 b e) front whole.3, cc are)
the_entry field (e ∷ (d ∷ es)) whole are = absurd (cc are)

front_entry : (field : Plain) → IsFit field → (e : Entry) × IsFieldAt 0 (short_field field.number field.content) e × (plain_of e ≡ field)
front_entry field fit = let w = spelled_whole_whole (field ∷ []) (fit, tt) in the_entry field w.0 w.1 w.2

pub front_field : (b more : List ℕ) (field : Plain) (found : Field × ℕ) → IsFit field
    → b ≡ short_field field.number field.content ++ more → IsNext b 0 (Ok (Some found))
    → (found.0.number ≡ field.number) × (content_of found.0.payload ≡ field.content) × (drop found.1 b ≡ more)
front_field b more field found fit is next =
    let f = short_field field.number field.content in
    let (e, at, same) = front_entry field fit in
    let one : entry_at 0 b ≡ Ok (e, length f) = ap (entry_at 0) is ∙ field_function_spelled 0 f more e at in
    let taken = slice_range b 0 found.1 in
    let other : entry_at 0 b ≡ Ok (entry_of found.0, length taken) =
    ap (entry_at 0) (drop_split b 0 found.1 (omega arith)) ∙ field_function_spelled 0 taken (drop found.1 b) (entry_of found.0) next.2 in
    let pairs : ◌≡◌ {A = Entry × ℕ} (entry_of found.0, length taken) (e, length f) = cc (one, other) in
    let equal : entry_of found.0 ≡ e = ap (λ (p : Entry × ℕ). p.0) pairs in
    let plain_is : plain_of (entry_of found.0) ≡ field = ap plain_of equal ∙ same in
    let size : length taken ≡ length f = ap (λ (p : Entry × ℕ). p.1) pairs in
    let split = drop_split b 0 found.1 (omega arith) in
    let ends : found.1 ≡ length f =
    omega (arith, size, next.1, ap length split, length-append taken (drop found.1 b), length-drop found.1 b) in
    (ap (λ (p : Plain). p.number) plain_is, ap (λ (p : Plain). p.content) plain_is, ap₂ drop ends is ∙ drop-append_seam f more)

pub front_there : (b more : List ℕ) (field : Plain) → b ≡ short_field field.number field.content ++ more → IsNext b 0 (Ok None) → ⊥
front_there b more field is next =
    omega (
      arith,
      ap length is,
      next,
      length-append (short_field field.number field.content) more,
      short_lengths_field field.number field.content,
      short_lengths_some (8 * field.number + wire_type field.content),
    )

pub front_sound : (b more : List ℕ) (field : Plain) (fault : WireFault) → IsFit field → b ≡ short_field field.number field.content ++ more
    → IsNext b 0 (Err fault) → ⊥
front_sound b more field fault fit is next =
    next.1 (short_field field.number field.content) more field.number field.content is (spelled_whole_field field fit)

-- a canonical layer begins with its version and its name, and then comes a feature, or the extent ends it

abbrev layer_payload : ALayer → List ℕ
layer_payload layer = canonical_item (Layer layer)

abbrev IsBody : ALayer → List ℕ → Type 0
IsBody layer body =
    ((d : List ℕ) × (more : List ℕ)
    × (body ≡ short_field FEATURES (bytes d) ++ more)) ⊎ (body ≡ short_field EXTENT (varint layer.extent) ++ [])

pub record HasFronts (layer : ALayer) : Type 0 where
  pub body : List ℕ
  pub is : layer_payload layer ≡ short_field VERSION (varint 2) ++ (short_field NAME (bytes layer.name) ++ body)
  pub body_is : IsBody layer body

fronts_of : (name : List ℕ) (features : List Feature) (extent : ℕ)
    → HasFronts (record { name = name; features = features; extent = extent })
unfolding canonical_item keys_of values_of
fronts_of name [] extent = record { body = _; is = refl; body_is = inr refl }
fronts_of name (f ∷ features) extent = record { body = _; is = refl; body_is = inl (_, _, refl) }

pub fronts : (layer : ALayer) → HasFronts layer
fronts layer = fronts_of layer.name layer.features layer.extent

pub by_body : (layer : ALayer) (body : List ℕ) (P : Type 0) → IsBody layer body
    → ((d more : List ℕ) → body ≡ short_field FEATURES (bytes d) ++ more → P)
    → (body ≡ short_field EXTENT (varint layer.extent) ++ [] → P) → P
by_body layer body P (inl (d, more, is)) feature extent = feature d more is
by_body layer body P (inr is) feature extent = extent is

-- these fields fit

pub fits_bytes : (number : ℕ) (b d more : List ℕ) → 1 ≤ number → number < 2 ^ 29 → length b < 2 ^ 64
    → b ≡ short_field number (bytes d) ++ more → IsFit (plain number (bytes d)) × (length more < 2 ^ 64) × (length d < 2 ^ 64)
fits_bytes number b d more first last few is =
    let size = ap length is in
    let parts = length-append (short_field number (bytes d)) more in
    let own = short_lengths_bytes number d in (
      record { first = first; last = last; content = omega (arith, few, size, parts, own) },
      omega (arith, few, size, parts),
      omega (arith, few, size, parts, own),
    )

pub version_fits : IsFit (plain VERSION (varint 2))
version_fits = record { first = omega arith; last = omega arith; content = omega arith }

pub extent_fits : (layer : ALayer) → ValidItem (Layer layer) → IsFit (plain EXTENT (varint layer.extent))
unfolding ValidItem ValidLayer
extent_fits layer valid = let few = valid.1 in record { first = omega arith; last = omega arith; content = omega (arith, few) }

-- no layer follows
pub no_layer_after : (input front : List ℕ) (left : Option (Bor (List ℕ))) (layer : ALayer) → IsNoLayer left → ValidItem (Layer layer)
    → IsAfter input front left
    → IsAfter input (front ++ short_field LAYERS (bytes (canonical_item (Layer layer)))) None
no_layer_after input front None layer none valid is = after_none input front (short_field LAYERS (bytes (layer_payload layer))) is
no_layer_after input front (Some rest) layer none valid is = λ more e.
    let f = short_field LAYERS (bytes (layer_payload layer)) in
    none layer more valid (append_cancel_left front rest.now (f ++ more) (sym is ∙ e ∙ append_assoc front f more))
