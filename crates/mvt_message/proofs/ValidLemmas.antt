-- Valid items.
use Rattle.std.proofs.Common.{◌≡◌, ◌≢◌, ℕ, ◌^◌, ◌<◌, List, [], ◌∷◌, map, Option, Some, None, refl, sym, ap, ◌∙◌, subst, arith}
use Rattle.std.specs.Prelude.{IsUtf8, unwrap_or}
use Rattle.std.specs.List.{AllByRecursion}
use Rattle.std.specs.Option.{option_map}
use Rattle.mvt_base.specs.Reports.{Reports}
use Rattle.mvt_base.specs.Related.{AreRelated}
use Rattle.mvt_base.proofs.ListLemmas.{all_weaker}
use Rattle.mvt_base.proofs.SelectionLemmas.{only_number, only_all, last_selected}
use Rattle.mvt_wire.specs.Field.{Content, varint, bytes, fixed64, fixed32, Entry}
use Rattle.mvt_wire.specs.Split.{Whole, split}
use Rattle.mvt_feature.specs.declared.feature.Feature.{Feature}
use Rattle.mvt_feature.specs.declared.message_error.MessageError.{MessageError}
use Rattle.mvt_feature.specs.declared.message_error.MessageError.TheVariants.{Memory, Fault}
use Rattle.mvt_feature.specs.Faults.{fault_of}
use Rattle.mvt_feature.specs.Features.{number_in, number_of}
use Rattle.mvt_feature.specs.Ranges.{AreBytes, IsInRange}
use Rattle.mvt_feature.specs.Forms.{uint32, string, HasForm}
use Rattle.mvt_feature.specs.Selection.{only, last_only, HaveForm}
use Rattle.mvt_feature.specs.Valid.{ValidValue, ValidFeature}
use Rattle.mvt_geometry.proofs.GeometryLaws.{old_geometries_stay}
use Rattle.mvt_wire.proofs.WireLaws.{split_function_only, split_function_whole}
use Rattle.mvt_feature.proofs.FeatureLaws.{read_is_valid_feature, read_is_valid_fields, read_is_valid_value}
use Rattle.mvt_message.specs.declared.numbers.layer.TheConstants.{NAME, FEATURES, KEYS, VALUES, EXTENT, VERSION}
use Rattle.mvt_message.specs.declared.item.Item.{Item as AnItem}
use Rattle.mvt_message.specs.declared.item.Layer.{Layer as ALayer}
use Rattle.mvt_message.specs.declared.item.Item.TheVariants.{Layer, Foreign}
use Rattle.mvt_message.specs.LayerFields.{bytes_of, version_in, name_in, extent_in, keys_in}
use Rattle.mvt_message.specs.Items.{HoldsValue, HoldsFeature, IsLayer, AreItem, IsItem}
use Rattle.mvt_message.specs.ValidItems.{ValidLayer, AreOfVersion, ValidItem, WasValidFeature, WasValidItem}
use Rattle.mvt_message.specs.Inner.{header_fault, IsFault}
use Rattle.mvt_message.proofs.OrFaultLemmas.{head_clean, head_keeps}

pub old_feature : (f : Feature) → WasValidFeature f → ValidFeature f
old_feature f was =
    record { id = was.id; attributes = was.attributes; distinct = was.distinct; drawn = old_geometries_stay f.geometry was.drawn }

pub old_items : (item : AnItem) → WasValidItem item → ValidItem item
unfolding WasValidItem ValidItem ValidLayer
old_items (Layer layer) was = (was.0, was.1, all_weaker WasValidFeature ValidFeature old_feature layer.features was.2)
old_items (Foreign version content) was = was

-- what is read is valid
no_bytes : AreBytes []
no_bytes k = omega arith

bytes_in_range : (c : Content) → IsInRange c → AreBytes (bytes_of c)
bytes_in_range (bytes d) h = h
bytes_in_range (varint n) h = no_bytes
bytes_in_range (fixed64 n) h = no_bytes
bytes_in_range (fixed32 n) h = no_bytes

text_utf8 : (c : Content) → HasForm string c → IsUtf8 (bytes_of c)
text_utf8 (bytes d) h = h
text_utf8 (varint n) h = absurd h
text_utf8 (fixed64 n) h = absurd h
text_utf8 (fixed32 n) h = absurd h

-- the keys are texts
texts_utf8 : (k : ℕ) (xs : List Entry) → HaveForm k (HasForm string) xs
    → AllByRecursion IsUtf8 (map (λ (x : Entry). bytes_of x.content) (only k xs))
texts_utf8 k xs forms =
    of_all (only k xs) (only_all (λ (x : Entry). x.number) (λ (x : Entry). x.number ≡ k → HasForm string x.content) k xs forms)
    (only_number (λ (x : Entry). x.number) k xs)
  where
    of_all : (ys : List Entry) → AllByRecursion (λ (x : Entry). x.number ≡ k → HasForm string x.content) ys
        → AllByRecursion (λ (x : Entry). x.number ≡ k) ys → AllByRecursion IsUtf8 (map (λ (x : Entry). bytes_of x.content) ys)
    of_all [] h g = tt
    of_all (y ∷ ys) h g = (text_utf8 y.content (h.0 g.0), of_all ys h.1 g.1)

name_utf8 : (xs : List Entry) (name : List ℕ) → HaveForm NAME (HasForm string) xs → name_in xs ≡ Some name → IsUtf8 name
name_utf8 xs name forms is = of_option (last_only NAME xs) refl is
  where
    of_option : (o : Option Entry) → last_only NAME xs ≡ o → option_map (λ (x : Entry). bytes_of x.content) o ≡ Some name → IsUtf8 name
    of_option None e h = cc
    of_option (Some x) e h =
        let same : bytes_of x.content ≡ name = cc in
        subst IsUtf8 same (text_utf8 x.content
        (last_selected (λ (x : Entry). x.number) (λ (y : Entry). HasForm string y.content) NAME xs x forms e))

extent_small : (xs : List Entry) → HaveForm EXTENT (HasForm uint32) xs → extent_in xs < 2 ^ 32
extent_small xs forms = of_option (last_only EXTENT xs) refl
  where
    of_content : (c : Content) → HasForm uint32 c → unwrap_or (number_of c) 4096 < 2 ^ 32
    of_content (varint n) h = h
    of_content (bytes d) h = absurd h
    of_content (fixed64 n) h = absurd h
    of_content (fixed32 n) h = absurd h

    of_option : (o : Option Entry) → last_only EXTENT xs ≡ o → unwrap_or (number_in o) 4096 < 2 ^ 32
    of_option None e = omega arith
    of_option (Some x) e =
        of_content x.content (last_selected (λ (x : Entry). x.number) (λ (y : Entry). HasForm uint32 y.content) EXTENT xs x forms e)

-- what holds of each of the things related
related_right : {X Y : Type 0} → (P : X → Type 0) (R : X → Y → Type 0) (Q : Y → Type 0) → ((x : X) (y : Y) → P x → R x y → Q y)
    → (xs : List X) (ys : List Y) → AllByRecursion P xs → AreRelated R xs ys → AllByRecursion Q ys
related_right P R Q gives [] [] all h = tt
related_right P R Q gives [] (y ∷ ys) all h = absurd h
related_right P R Q gives (x ∷ xs) [] all h = absurd h
related_right P R Q gives (x ∷ xs) (y ∷ ys) all h = (gives x y all.0 h.0, related_right P R Q gives xs ys all.1 h.1)

layer_valid : (xs : List Entry) (layer : ALayer) → AllByRecursion (λ (x : Entry). IsInRange x.content) xs → IsLayer xs layer
    → ValidLayer layer
unfolding ValidLayer
layer_valid xs layer range is =
    let keys = texts_utf8 KEYS xs is.forms.1.1.0 in
    let values = related_right (λ (x : Entry). IsInRange x.content) HoldsValue ValidValue
    (λ x v here holds. read_is_valid_value (bytes_of x.content) v (bytes_in_range x.content here) holds) (only VALUES xs) is.values
    (only_all (λ (x : Entry). x.number) (λ (x : Entry). IsInRange x.content) VALUES xs range) is.values_are in (
      name_utf8 xs layer.name is.forms.0 is.name,
      subst (λ n. n < 2 ^ 32) (sym is.extent) (extent_small xs is.forms.1.1.1.1.0),
      related_right (λ (x : Entry). IsInRange x.content) (HoldsFeature (keys_in xs) is.values) ValidFeature
          (λ x f here holds. read_is_valid_feature (bytes_of x.content) (keys_in xs) is.values f
          (bytes_in_range x.content here) keys values holds) (only FEATURES xs) layer.features
          (only_all (λ (x : Entry). x.number) (λ (x : Entry). IsInRange x.content) FEATURES xs range) is.features,
    )

pub item_valid : (payload : List ℕ) (item : AnItem) → AreBytes payload → IsItem payload item → ValidItem item
unfolding IsItem ValidItem
item_valid payload item are_bytes (xs, whole, forms, are) = by_item item are
  where
    by_item : (i : AnItem) → AreItem xs payload i → ValidItem i
    by_item (Layer layer) is = layer_valid xs layer (read_is_valid_fields payload xs are_bytes whole) is.1
    by_item (Foreign version content) is = (xs, subst (λ b. Whole b xs) (sym is.2) whole, forms, is.0, is.1)

-- the bytes of a layer of another version
pub of_version : (payload : List ℕ) (version found : ℕ) → header_fault payload 0 0 ≡ None → version_in (split payload).fields ≡ Some found
    → found ≡ version → version ≢ 2 → AreOfVersion version payload
of_version payload version found head is same other =
    let parts = head_clean payload 0 0 head in
    ((split payload).fields, split_function_whole payload parts.0, parts.1, is ∙ ap Some same, other)

pub version_of : (payload : List ℕ) (version : ℕ) → AreOfVersion version payload → (header_fault payload 0 0 ≡ None)
    × (version_in (split payload).fields ≡ Some version) × (version ≢ 2)
version_of payload version (xs, whole, forms, is, other) =
    let only = split_function_only payload [] xs whole in
    let here : version_in (split payload).fields ≡ Some version = ap version_in (sym only.0) ∙ is in
    (head_keeps payload 0 0 version (sym only.1) (subst (HaveForm VERSION (HasForm uint32)) only.0 forms) here, here, other)

-- a fault of the head leaves no version
pub no_version : (payload : List ℕ) (version : ℕ) (e : MessageError) → IsFault e → Reports (fault_of e) (header_fault payload 0 0)
    → AreOfVersion version payload → ⊥
no_version payload version Memory is reported_here of = is
no_version payload version (Fault feature at cause) is reported_here of = let clean = (version_of payload version of).0 in cc

pub found_version : (payload : List ℕ) (version found : ℕ) → version_in (split payload).fields ≡ Some found → AreOfVersion version payload
    → (found ≡ version) × (version ≢ 2)
found_version payload version found is of =
    let parts = version_of payload version of in
    let same : Some found ≡ Some version = sym is ∙ parts.1 in
    (cc, parts.2)
