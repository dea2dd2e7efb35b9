-- What is wrong with rows, as it is found while they are written.
use Rattle.std.proofs.Common.{◌≡◌, ℕ, ◌+◌, ◌<◌, nat_lt, Bool, true, false, List, [], ◌∷◌, length, take, drop, get_or, slice_get, IsUtf8, Option, Some, None, Result, Ok, Err, IfErr, IfOk, refl, sym, ap, ◌∙◌, subst, arith, if◌then◌else◌}
use Rattle.std.specs.List.{AllByRecursion, flat_map}
use Rattle.std.specs.Option.{option_and_then, option_map, option_or}
use Rattle.std.specs.Result.{IsErrAnd}
use Rattle.std.specs.Str.{is_utf8}
use Rattle.std.proofs.lemmas.Bool.{cond-false, ltb-true, ne_eqb}
use Rattle.std.proofs.lemmas.Option.{none-some, same_Some, slice_get-get_or, slice_get_within, get_or_from_slice_get}
use Rattle.std.proofs.lemmas.Str.{IsUtf8-from_is_utf8, is_utf8-from_IsUtf8}
use Rattle.mvt_attrs.specs.FirstUses.{lent}
use Rattle.mvt_base.specs.Related.{AreRelated}
use Rattle.mvt_base.proofs.ListLemmas.{around}
use Rattle.mvt_attrs.specs.Values.{Value}
use Rattle.mvt_attrs.specs.declared.resolving.TagCause.{TagCause}
use Rattle.mvt_attrs.proofs.AttrsLaws.{attributes_or_fault_clean}
use Rattle.mvt_geometry.specs.declared.shape.Geometry.{Geometry as AGeometry}
use Rattle.mvt_geometry.specs.declared.shape.Kind.{Kind as AKind}
use Rattle.mvt_feature.specs.declared.feature.Feature.{Feature}
use Rattle.mvt_feature.specs.Valid.{ValidFeature}
use Rattle.mvt_message.specs.declared.item.Item.{Item}
use Rattle.mvt_message.specs.declared.item.Item.TheVariants.{Layer, Foreign}
use Rattle.mvt_message.specs.declared.item.Layer.{Layer as ALayer}
use Rattle.mvt_message.specs.Items.{names_in}
use Rattle.mvt_message.specs.ValidItems.{AreOfVersion, ValidItem, ValidLayer}
use Rattle.mvt_tile_value.specs.Tiles.{HasDistinctNames}
use Rattle.mvt_tile.specs.TileRules.{repeats}
use Rattle.mvt_rows.specs.declared.rows.FeatureRow.{FeatureRow}
use Rattle.mvt_rows.specs.declared.rows.LayerRow.{LayerRow}
use Rattle.mvt_rows.specs.declared.rows.PartRow.{PartRow}
use Rattle.mvt_rows.specs.declared.rows.PointRow.{PointRow}
use Rattle.mvt_rows.specs.declared.rows_cause.RowsCause.{RowsCause}
use Rattle.mvt_rows.specs.declared.rows_cause.RowsFault.{RowsFault}
use Rattle.mvt_rows.specs.declared.rows_cause.RowsCause.TheVariants.{NameSpan, NameText, KeysSpan, Key, ValuesSpan, Value as ValueCause, FeaturesSpan, HasId, TagsSpan, Kind, Geometry, Drawing, RepeatedName}
use Rattle.mvt_rows.specs.declared.rows.Span.{Span}
use Rattle.mvt_rows.specs.declared.rows_error.RowPartError.{RowPartError}
use Rattle.mvt_rows.specs.declared.rows_error.RowPartError.TheVariants as parts
use Rattle.mvt_rows.specs.declared.rows_error.RowError.{RowError}
use Rattle.mvt_rows.specs.declared.rows_error.RowError.TheVariants.{Memory, Wrong}
use Rattle.mvt_rows.specs.declared.writing.layers.LayerParts.{LayerParts}
use Rattle.mvt_rows.specs.declared.undrawn.Undrawn.{Undrawn}
use Rattle.mvt_rows.specs.Drawing.{AreDrawnIf, IsUndrawable}
use Rattle.mvt_rows.specs.RowsFaults.{IsFaultOf, IsFeatureWrong, IsFeatureWrongIn, IsFirstWrong, IsForeignWrong, IsInsideWrong, IsLayerWrongBy, IsRowWrong, IsUndrawn, IsValidFeatureOf, IsValidItemOf, IsWrongBy, feature_cause, geometry_cause, name_cause, of_tag_cause, or_wrong, parts_cause}
use Rattle.mvt_rows.specs.Tables.{Table}
use Rattle.mvt_rows.specs.TileRows.{drawn_of, each, geometry_of, id_of, part_of, text_of, utf8_of, value_of, IsFeature, IsLayer}
use Rattle.mvt_rows.specs.Writing.{AreLayerParts, IsRefused}
use Rattle.mvt_rows.specs.Written.{IfWrong, IsNoTile, NotWritten, at_feature, at_layer, if_any}
use Rattle.mvt_rows.proofs.TileLemmas.{some_same}
use Rattle.mvt_rows.proofs.WritingLemmas.{no_tile, related_at, related_with}

-- ---- what is told

wrong_too : (P Q : Option ℕ → RowsCause → Type 0) → ((f : Option ℕ) (c : RowsCause) → P f c → Q f c) → (e : RowError) → IfWrong P e
    → IfWrong Q e
wrong_too P Q next Memory h = tt
wrong_too P Q next (Wrong f c) h = next f c h

-- what is told of a part is told of the whole
pub wrong_in : {A : Type 0} → (r : Result A RowError) (e : RowError) (P Q : Option ℕ → RowsCause → Type 0) → IsErrAnd r (λ f. f ≡ e)
    → IfWrong P e → ((f : Option ℕ) (c : RowsCause) → P f c → Q f c) → IfErr r (IfWrong Q)
wrong_in (Ok x) e P Q h k next = tt
wrong_in (Err f) e P Q h k next = subst (IfWrong Q) (sym h) (wrong_too P Q next e k)

-- what is looked for is there

pub any_there : {X : Type 0} → (P : X → Type 0) (made : Result X RowPartError) (r : Result (Option X) RowError) (o : Option X) (x : X)
    → IfOk made P → r ≡ if_any made → r ≡ Ok o → o ≡ Some x → P x
any_there P (Ok y) r o x h is ok some = subst P (let same : y ≡ x = cc in same) h
any_there P (Err parts.Memory) r o x h is ok some = cc
any_there P (Err parts.NoPart) r o x h is ok some = cc

pub text_found : (texts : List ℕ) (span : Span) (bytes name : List ℕ) → part_of texts span ≡ Some bytes → IsUtf8 bytes → name ≡ bytes
    → text_of texts span ≡ Some name
text_found texts span bytes name part utf8 same =
    ap (option_and_then utf8_of) part ∙ ap (λ (b : Bool). if b then Some bytes else None) (is_utf8-from_IsUtf8 bytes utf8)
    ∙ ap Some (sym same)

or_there : {X Y : Type 0} → (o : Option X) (wrong : Y) (next : X → Option Y) (x : X) → o ≡ Some x → or_wrong o wrong next ≡ next x
or_there o wrong next x is = ap (λ o. or_wrong o wrong next) is

chained : {X Y Z : Type 0} → (o : Option X) (f : X → Option Y) (y : Y) (first second : Z) (next : Y → Option Z)
    → option_and_then f o ≡ Some y
    → or_wrong o first (λ x. or_wrong (f x) second next) ≡ next y
chained None f y first second next h = cc
chained (Some x) f y first second next h = ap (λ o. or_wrong o second next) h

-- ---- features

pub row_wrong : (t : Table) (keys : List (List ℕ)) (values : List Value) (row : FeatureRow) (f : Option ℕ) (c : RowsCause)
    → (f ≡ None) × (feature_cause t keys values row ≡ Some c) → IsFeatureWrong t keys values row f c
row_wrong t keys values row f c h = (h.0, subst (λ o. IsWrongBy o (geometry_of t row) c) (sym h.1) refl)

is_undrawn : (of_rows : Option AGeometry) (found : Undrawn) → IsUndrawable of_rows found → IsUndrawn of_rows (Drawing found)
is_undrawn None found h = h
is_undrawn (Some g) found h = record { undrawn = found; rule = h.1; cause_is = refl; invalid = h.0 }

pub undrawn : (t : Table) (keys : List (List ℕ)) (values : List Value) (row : FeatureRow) (integers : List ℕ) (kind : Result AKind Undrawn)
    (found : Undrawn)
    → feature_cause t keys values row ≡ None → AreDrawnIf (geometry_of t row) kind integers → kind ≡ Err found
    → IsFeatureWrong t keys values row None (Drawing found)
undrawn t keys values row integers kind found clean drawn refused = (
  refl,
  subst (λ o. IsWrongBy o (geometry_of t row) (Drawing found)) (sym clean)
      (is_undrawn (geometry_of t row) found (subst (λ k. AreDrawnIf (geometry_of t row) k integers) refused drawn)),
)

first_here : {X : Type 0} → (xs : List X) (i : ℕ) (d : X) → i < length xs → slice_get xs i ≡ Some (get_or xs i d)
first_here xs i d within = slice_get-get_or xs i d within

-- the first feature that is wrong, behind those that are written
pub feature_blamed : (t : Table) (keys others : List (List ℕ)) (values : List Value) (rows : List FeatureRow) (i : ℕ) (d : FeatureRow)
    (features : List Feature) (e : RowError) → others ≡ keys → AreRelated (IsValidFeatureOf t keys values) (take i rows) features
    → i < length rows → IfWrong (IsFeatureWrong t others values (get_or rows i d)) e
    → IfWrong (IsFeatureWrongIn t keys values rows) (at_feature i e)
feature_blamed t keys others values rows i d features Memory same are within h = tt
feature_blamed t keys others values rows i d features (Wrong f c) same are within h = record {
  row = get_or rows i d;
  there = first_here rows i d within;
  before = features;
  valid = are;
  wrong = subst (λ k. IsWrongBy (feature_cause t k values (get_or rows i d)) (geometry_of t (get_or rows i d)) c) same h.1;
}

-- ---- layers

pub part_wrong : (t : Table) (row : LayerRow) (f : Option ℕ) (c : RowsCause) → (f ≡ None) × (parts_cause t row ≡ Some c)
    → IsInsideWrong t row f c
part_wrong t row None c h = h.1
part_wrong t row (Some j) c h = cc

pub features_wrong : (t : Table) (row : LayerRow) (parts : LayerParts) (keys : List (List ℕ)) (values : List Value)
    → AreLayerParts t row parts
    → parts_cause t row ≡ None → keys ≡ lent parts.keys.items → values ≡ parts.values.items → (f : Option ℕ) (c : RowsCause)
    → IsFeatureWrongIn t keys values parts.rows.now f c → IsInsideWrong t row f c
features_wrong t row parts keys values are clean keys_are values_are None c h = absurd h
features_wrong t row parts keys values are clean keys_are values_are (Some j) c h = record {
  none = clean;
  keys = keys;
  has_keys = are.keys ∙ ap Some (sym keys_are);
  values = values;
  has_values = are.values ∙ ap Some (sym values_are);
  rows = parts.rows.now;
  has_rows = are.rows;
  first = h;
}

-- what is wrong with a layer of version 2
pub layer_blamed : (t : Table) (names : List (List ℕ)) (row : LayerRow) → row.version ≡ 2 → (f : Option ℕ) (c : RowsCause)
    → IsLayerWrongBy t row (name_cause t names row) f c → IsRowWrong t names row f c
layer_blamed t names row is f c wrong = record { layer = λ _. wrong; foreign = λ other. absurd (other is) }

pub name_blamed : (t : Table) (names : List (List ℕ)) (row : LayerRow) (c : RowsCause) → row.version ≡ 2 → name_cause t names row ≡ Some c
    → IsRowWrong t names row None c
name_blamed t names row c is wrong =
    layer_blamed t names row is None c (subst (λ o. IsLayerWrongBy t row o None c) (sym wrong) (refl, refl))

pub inside_blamed : (t : Table) (names : List (List ℕ)) (row : LayerRow) → row.version ≡ 2 → name_cause t names row ≡ None
    → (f : Option ℕ) (c : RowsCause) → IsInsideWrong t row f c → IsRowWrong t names row f c
inside_blamed t names row is named f c wrong =
    layer_blamed t names row is f c (subst (λ o. IsLayerWrongBy t row o f c) (sym named) wrong)

-- the name of a layer

abbrev named_if : List (List ℕ) → List ℕ → Option RowsCause
named_if names name = if repeats names (name ∷ []) then Some RepeatedName else None

no_utf8 : (bytes : List ℕ) (b : Bool) → is_utf8 bytes ≡ b → (IsUtf8 bytes → ⊥) → (if b then Some bytes else None) ≡ None
no_utf8 bytes true is none = absurd (none (IsUtf8-from_is_utf8 bytes is))
no_utf8 bytes false is none = refl

pub name_no_text : (t : Table) (names : List (List ℕ)) (row : LayerRow) (bytes : List ℕ) → part_of t.texts row.name ≡ Some bytes
    → (IsUtf8 bytes → ⊥) → name_cause t names row ≡ Some NameText
name_no_text t names row bytes part none =
    or_there (part_of t.texts row.name) NameSpan (λ bytes. or_wrong (utf8_of bytes) NameText (named_if names)) bytes part
    ∙ ap (λ o. or_wrong o NameText (named_if names)) (no_utf8 bytes (is_utf8 bytes) refl none)

pub name_found : (t : Table) (names : List (List ℕ)) (row : LayerRow) (name : List ℕ) (b : Bool) → text_of t.texts row.name ≡ Some name
    → repeats names (name ∷ []) ≡ b → name_cause t names row ≡ (if b then Some RepeatedName else None)
name_found t names row name b text is =
    chained (part_of t.texts row.name) utf8_of name NameSpan NameText (named_if names) text
    ∙ ap (λ (b : Bool). if b then Some RepeatedName else None) is

-- ---- what can be written isn't wrong

parts_clean : (t : Table) (row : LayerRow) (keys : List (List ℕ)) (values : List Value) (rows : List FeatureRow)
    → option_and_then (each (text_of t.texts)) (part_of t.keys row.keys) ≡ Some keys
    → option_and_then (each (value_of t.texts)) (part_of t.values row.values) ≡ Some values
    → part_of t.features row.features ≡ Some rows → parts_cause t row ≡ None
parts_clean t row keys values rows has_keys has_values has_rows =
    chained (part_of t.keys row.keys) (each (text_of t.texts)) keys KeysSpan Key _ has_keys
    ∙ chained (part_of t.values row.values) (each (value_of t.texts)) values ValuesSpan ValueCause _ has_values
    ∙ or_there (part_of t.features row.features) FeaturesSpan (λ _. None) rows has_rows

nothing_then : {X Y : Type 0} → (f : X → Option Y) → ((x : X) → f x ≡ None) → (o : Option X) → option_and_then f o ≡ None
nothing_then f none None = refl
nothing_then f none (Some x) = none x

not_kind : (kind n : ℕ) → 3 < kind → n < 4 → (kind ≡ n → ⊥)
not_kind kind n large small is = omega (arith, large, small, is)

drawn_none : (points : List PointRow) (kind : ℕ) (parts : List PartRow) → 3 < kind → drawn_of points kind parts ≡ None
drawn_none points kind parts large =
    cond-false _ _ _ (ne_eqb kind 1 (not_kind kind 1 large (omega arith)))
    ∙ cond-false _ _ _ (ne_eqb kind 2 (not_kind kind 2 large (omega arith)))
    ∙ cond-false _ _ _ (ne_eqb kind 3 (not_kind kind 3 large (omega arith)))

geometry_none : (t : Table) (row : FeatureRow) → 3 < row.kind → geometry_of t row ≡ None
geometry_none t row large =
    cond-false _ _ _ (ne_eqb row.kind 0 (not_kind row.kind 0 large (omega arith)))
    ∙ nothing_then (drawn_of t.points row.kind) (λ parts. drawn_none t.points row.kind parts large) (part_of t.parts row.parts)

kind_drawn : (t : Table) (row : FeatureRow) (g : AGeometry) (b : Bool) → geometry_of t row ≡ Some g → nat_lt 3 row.kind ≡ b → b ≡ false
kind_drawn t row g true drawn is = absurd (none-some g (sym (geometry_none t row (ltb-true 3 row.kind is)) ∙ drawn))
kind_drawn t row g false drawn is = refl

feature_clean : (t : Table) (keys : List (List ℕ)) (values : List Value) (row : FeatureRow) (f : Feature) → IsFeature t keys values row f
    → feature_cause t keys values row ≡ None
feature_clean t keys values row f h =
    let resolved = attributes_or_fault_clean keys values h.tags f.attributes h.attributes in
    let kind = kind_drawn t row f.geometry (nat_lt 3 row.kind) h.geometry refl in
    or_there (id_of row) HasId _ f.id h.id ∙ or_there (part_of t.tags row.tags) TagsSpan _ h.tags h.tagged
    ∙ ap (λ o. option_or (option_map (λ (fault : ℕ × TagCause). of_tag_cause fault.1) o) (geometry_cause t row)) resolved
    ∙ ap (λ (b : Bool). if b then Some Kind else or_wrong (geometry_of t row) Geometry (λ _. None)) kind
    ∙ or_there (geometry_of t row) Geometry (λ _. None) f.geometry h.geometry

pub feature_right : (t : Table) (keys : List (List ℕ)) (values : List Value) (row : FeatureRow) (f : Feature) (c : RowsCause)
    → IsFeature t keys values row f → ValidFeature f → IsWrongBy (feature_cause t keys values row) (geometry_of t row) c → ⊥
feature_right t keys values row f c is valid wrong =
    (subst (λ o. IsUndrawn o c) is.geometry
    (subst (λ o. IsWrongBy o (geometry_of t row) c) (feature_clean t keys values row f is) wrong)).invalid valid.drawn

-- the features of a layer that can be written
layer_right : (t : Table) (row : LayerRow) (keys : List (List ℕ)) (values : List Value) (rows : List FeatureRow) (features : List Feature)
    (j : ℕ) (c : RowsCause) → AreRelated (IsValidFeatureOf t keys values) rows features → IsFirstWrong t keys values rows j c → ⊥
layer_right t row keys values rows features j c are first =
    let within = slice_get_within rows j first.row first.there in
    let here = get_or_from_slice_get rows j first.row first.row first.there in
    let (before, f, after, parts, front, is) =
    related_at (IsValidFeatureOf t keys values) (take j rows) (get_or rows j first.row) (drop (j + 1) rows) features
    (subst (λ l. AreRelated (IsValidFeatureOf t keys values) l features) (around rows j first.row within) are) in
    let it : IsValidFeatureOf t keys values first.row f = subst (λ r. IsValidFeatureOf t keys values r f) here is in
    feature_right t keys values first.row f c it.0 it.1 first.wrong

inside_right : (t : Table) (row : LayerRow) (layer : ALayer) (f : Option ℕ) (c : RowsCause) → IsLayer t row layer
    → AllByRecursion ValidFeature layer.features → IsInsideWrong t row f c → ⊥
inside_right t row layer None c is valid wrong =
    none-some c (sym (parts_clean t row is.keys is.values is.rows is.has_keys is.has_values is.has_rows) ∙ wrong)
inside_right t row layer (Some j) c is valid wrong =
    let keys : is.keys ≡ wrong.keys = some_same _ _ _ is.has_keys wrong.has_keys in
    let values : is.values ≡ wrong.values = some_same _ _ _ is.has_values wrong.has_values in
    let rows : is.rows ≡ wrong.rows = some_same _ _ _ is.has_rows wrong.has_rows in
    let related : AreRelated (IsFeature t wrong.keys wrong.values) wrong.rows layer.features =
    subst (λ r. AreRelated (IsFeature t wrong.keys wrong.values) r layer.features) rows
    (subst (λ v. AreRelated (IsFeature t wrong.keys v) is.rows layer.features) values
    (subst (λ k. AreRelated (IsFeature t k is.values) is.rows layer.features) keys is.features)) in
    layer_right t row wrong.keys wrong.values wrong.rows layer.features j c
    (related_with (IsFeature t wrong.keys wrong.values) ValidFeature wrong.rows layer.features related valid) wrong.first

named_right : (t : Table) (names : List (List ℕ)) (row : LayerRow) (layer : ALayer) (b : Bool) (f : Option ℕ) (c : RowsCause)
    → IsLayer t row layer → AllByRecursion ValidFeature layer.features → repeats names (layer.name ∷ []) ≡ b
    → IsLayerWrongBy t row (if b then Some RepeatedName else None) f c → b ≡ true
named_right t names row layer true f c is valid repeated wrong = refl
named_right t names row layer false f c is valid repeated wrong = absurd (inside_right t row layer f c is valid wrong)

foreign_right : (version : ℕ) (o : Option (List ℕ)) (content : List ℕ) (c : RowsCause) → o ≡ Some content → AreOfVersion version content
    → IsForeignWrong version o c → ⊥
foreign_right version None content c is valid wrong = none-some content is
foreign_right version (Some bytes) content c is valid wrong = wrong.1
    (subst (AreOfVersion version) (sym (same_Some bytes content is)) valid)

-- a row that is wrong is no item that can be written, but for its name
pub wrong_refuses : (t : Table) (row : LayerRow) (items : List Item) (f : Option ℕ) (c : RowsCause)
    → IsRowWrong t (flat_map names_in items) row f c → IsRefused t row items
unfolding ValidItem ValidLayer
wrong_refuses t row items f c wrong (Layer layer) h =
    let names = flat_map names_in items in
    let b = repeats names (layer.name ∷ []) in
    named_right t names row layer b f c h.0.1 h.1.2 refl
    (subst (λ o. IsLayerWrongBy t row o f c) (name_found t names row layer.name b h.0.1.name refl) (wrong.layer h.0.0))
wrong_refuses t row items f c wrong (Foreign version content) h =
    let valid : AreOfVersion row.version content = subst (λ v. AreOfVersion v content) h.0.1 h.1 in
    absurd (foreign_right row.version (part_of t.texts row.bytes) content c h.0.2 valid (wrong.foreign h.0.0).1)

-- ---- tiles

-- the first row that is wrong, behind those that are written
pub layer_fault : (t : Table) (i : ℕ) (d : LayerRow) (items : List Item) (e : RowError)
    → AreRelated (IsValidItemOf t) (take i t.layers) items
    → HasDistinctNames items → i < length t.layers → IfWrong (IsRowWrong t (flat_map names_in items) (get_or t.layers i d)) e
    → NotWritten t (at_layer i e)
layer_fault t i d items Memory are distinct within h = tt
layer_fault t i d items (Wrong f c) are distinct within h = (
  no_tile t i d items are within (wrong_refuses t (get_or t.layers i d) items f c h),
  record {
    row = get_or t.layers i d;
    there = first_here t.layers i d within;
    before = items;
    valid = are;
    distinct = distinct;
    wrong = h;
  },
)

-- rows with which something is wrong are no tile that can be written
pub fault_is_no_tile : (t : Table) (fault : RowsFault) → IsFaultOf t fault → IsNoTile t
fault_is_no_tile t fault h =
    let here : get_or t.layers fault.layer h.row ≡ h.row = get_or_from_slice_get t.layers fault.layer h.row h.row h.there in
    no_tile t fault.layer h.row h.before h.valid (slice_get_within t.layers fault.layer h.row h.there)
    (subst (λ r. IsRefused t r h.before) (sym here) (wrong_refuses t h.row h.before fault.feature fault.cause h.wrong))
