-- What is written of rows, row by row.
use Rattle.std.proofs.Common.{◌≡◌, ℕ, ◌+◌, ◌<◌, ◌≤◌, ◌^◌, Bool, true, false, ◌||◌, List, [], ◌∷◌, ◌++◌, append-nil, not, if◌then◌else◌, ◌≢◌, length, take, drop, get_or, bytes_eq, IsUtf8, Option, Some, None, Vec, Global, Result, Ok, IfOk, IfErr, refl, sym, ap, ap₂, ◌∙◌, subst}
use Rattle.std.specs.List.{AllByRecursion, list_any, flat_map}
use Rattle.std.specs.Option.{option_and_then, ok_or}
use Rattle.std.specs.Str.{is_utf8}
use Rattle.std.proofs.lemmas.Bool.{false≢true, not-false, not-true}
use Rattle.std.proofs.lemmas.Grind.{flat_map-append}
use Rattle.std.proofs.lemmas.List.Folds.{list_any-append}
use Rattle.std.proofs.lemmas.Option.{same_Some}
use Rattle.std.proofs.lemmas.Str.{IsUtf8-from_is_utf8}
use Rattle.std.proofs.lemmas.List.{take_all}
use Rattle.mvt_attrs.specs.FirstUses.{lent}
use Rattle.mvt_base.specs.declared.TheConstants.{LIMIT}
use Rattle.mvt_base.specs.Related.{AreRelated}
use Rattle.mvt_base.proofs.ListLemmas.{around, related_once}
use Rattle.mvt_attrs.specs.Values.{Value}
use Rattle.mvt_attrs.specs.Tags.{Names}
use Rattle.mvt_attrs.proofs.AttrsLaws.{attributes_or_fault_there}
use Rattle.mvt_geometry.specs.declared.shape.Kind.{Kind}
use Rattle.mvt_geometry.specs.Drawing.{Draws}
use Rattle.mvt_feature.specs.declared.feature.Feature.{Feature}
use Rattle.mvt_feature.specs.Valid.{ValidFeature}
use Rattle.mvt_feature.proofs.FeatureLaws.{read_is_valid_attributes}
use Rattle.mvt_message.specs.declared.item.Item.{Item}
use Rattle.mvt_message.specs.declared.item.Item.TheVariants.{Layer, Foreign}
use Rattle.mvt_message.specs.declared.item.Layer.{Layer as ALayer}
use Rattle.mvt_message.specs.Items.{names_in}
use Rattle.mvt_message.specs.declared.layer_writer.LayerWriter.{LayerWriter}
use Rattle.mvt_message.specs.Rewriting.{HasWritten, HasWrittenUpTo}
use Rattle.mvt_message.specs.CanonicalItems.{canonical_item}
use Rattle.mvt_message.specs.ValidItems.{AreOfVersion, ValidItem, ValidLayer}
use Rattle.mvt_tile_value.specs.CanonicalTiles.{canonical}
use Rattle.mvt_tile_value.specs.Encoding.{AreEncoded}
use Rattle.mvt_tile_value.specs.Tiles.{HasDistinctNames}
use Rattle.mvt_tile_value.specs.ValidTiles.{Valid}
use Rattle.mvt_tile.specs.TileRules.{repeats}
use Rattle.mvt_tile.proofs.TileLaws.{names_apart_before, names_apart_more}
use Rattle.mvt_rows.specs.declared.rows.FeatureRow.{FeatureRow}
use Rattle.mvt_rows.specs.declared.rows.LayerRow.{LayerRow}
use Rattle.mvt_rows.specs.declared.rows.Span.{Span}
use Rattle.mvt_rows.specs.declared.writing.RowsWriter.{RowsWriter}
use Rattle.mvt_rows.specs.declared.rows_error.RowsError.{RowsError}
use Rattle.mvt_rows.specs.declared.rows_error.RowsError.TheVariants.{TooLarge}
use Rattle.mvt_rows.specs.declared.writing.features.FeatureParts.{FeatureParts}
use Rattle.mvt_rows.specs.declared.writing.layers.LayerParts.{LayerParts}
use Rattle.mvt_rows.specs.Drawing.{AreDrawnIf}
use Rattle.mvt_rows.specs.Tables.{Table}
use Rattle.mvt_rows.specs.TileRows.{geometry_of, part_of, text_of, utf8_of, IsFeature, IsItem, IsTileOf}
use Rattle.mvt_rows.specs.Written.{IsNoTile, IsWritten, NotWritten}
use Rattle.mvt_rows.specs.RowsFaults.{IsValidFeatureOf, IsValidItemOf, IsValidLayerOf}
use Rattle.mvt_rows.specs.Writing.{AreNames, AreFeatureParts, AreInRange, AreLayerParts, IsRefused, HasAdded, HasAddedRow}
use Rattle.mvt_rows.proofs.TileLemmas.{some_same, item_once, related_more}

-- ---- lists

pub related_with : {X Y : Type 0} → (R : X → Y → Type 0) (P : Y → Type 0) (xs : List X) (ys : List Y) → AreRelated R xs ys
    → AllByRecursion P ys
    → AreRelated (λ x y. R x y × P y) xs ys
related_with R P [] [] h k = tt
related_with R P [] (y ∷ ys) h k = h
related_with R P (x ∷ xs) [] h k = h
related_with R P (x ∷ xs) (y ∷ ys) h k = ((h.0, k.0), related_with R P xs ys h.1 k.1)

related_alone : {X Y : Type 0} → (R : X → Y → Type 0) (P : Y → Type 0) (xs : List X) (ys : List Y) → AreRelated (λ x y. R x y × P y) xs ys
    → AreRelated R xs ys × AllByRecursion P ys
related_alone R P [] [] h = (tt, tt)
related_alone R P [] (y ∷ ys) h = absurd h
related_alone R P (x ∷ xs) [] h = absurd h
related_alone R P (x ∷ xs) (y ∷ ys) h = let rest = related_alone R P xs ys h.1 in ((h.0.0, rest.0), (h.0.1, rest.1))

-- what is related to a list is made of what is related to its parts
pub related_at : {X Y : Type 0} → (R : X → Y → Type 0) (front : List X) (x : X) (back : List X) (ys : List Y)
    → AreRelated R (front ++ x ∷ back) ys
    → (before : List Y) × (y : Y) × (after : List Y) × (ys ≡ before ++ y ∷ after) × AreRelated R front before × R x y
related_at R [] x back [] h = absurd h
related_at R [] x back (y ∷ ys) h = ([], y, ys, refl, tt, h.0)
related_at R (z ∷ front) x back [] h = absurd h
related_at R (z ∷ front) x back (y ∷ ys) h =
    let (before, at, after, is, are, here) = related_at R front x back ys h.1 in
    (y ∷ before, at, after, ap (λ l. y ∷ l) is, (h.0, are), here)

-- ---- features

pub feature_of_parts : (t : Table) (keys : List (List ℕ)) (values : List Value) (row : FeatureRow) (integers : List ℕ)
    (parts : FeatureParts)
    (kind : Kind) → AreInRange keys values → AreFeatureParts t keys values row integers parts → parts.kind ≡ Ok kind
    → (f : Feature) × (f.id ≡ parts.id) × Draws kind integers f.geometry × Names keys values parts.tags.now f.attributes
    × IsValidFeatureOf t keys values row f
feature_of_parts t keys values row integers parts kind range are is =
    let (geometry, geometry_is, draws) = subst (λ k. AreDrawnIf (geometry_of t row) k integers) is are.geometry in
    let attributes = attributes_or_fault_there keys values parts.tags.now are.tags in
    let f : Feature = record { id = parts.id; attributes = attributes.0; geometry = geometry } in (
      f,
      refl,
      draws,
      attributes.1.named,
      (
        record { id = are.id; tags = parts.tags.now; tagged = are.tagged; attributes = attributes.1; geometry = geometry_is },
        record {
          id = are.id_fits;
          attributes = read_is_valid_attributes keys values parts.tags.now attributes.0 range.keys_are range.values_are attributes.1.named;
          distinct = attributes.1.distinct;
          drawn = draws.valid;
        },
      ),
    )

pub features_written : (t : Table) (keys others : List (List ℕ)) (values : List Value) (rows : List FeatureRow) (i : ℕ) (d : FeatureRow)
    (features : List Feature) (w : LayerWriter)
    → others ≡ keys → AreRelated (IsValidFeatureOf t keys values) (take i rows) features → i < length rows
    → ((f : Feature) × IsValidFeatureOf t others values (get_or rows i d) f × HasWrittenUpTo LIMIT others values w (features ++ f ∷ []))
    → (all : List Feature) × AreRelated (IsValidFeatureOf t keys values) (take (i + 1) rows) all × HasWrittenUpTo LIMIT keys values w all
features_written t keys others values rows i d features w same so_far within next =
    let (f, is, written) =
    subst (λ k. (f : Feature) × IsValidFeatureOf t k values (get_or rows i d) f × HasWrittenUpTo LIMIT k values w (features ++ f ∷ []))
    same next in (
      features ++ f ∷ [],
      related_more (IsValidFeatureOf t keys values) rows i d features f (features ++ f ∷ []) so_far within is refl,
      written,
    )

-- ---- layers

layer_of_parts : (t : Table) (row : LayerRow) (parts : LayerParts) (name : List ℕ) (features : List Feature)
    → text_of t.texts row.name ≡ Some name → IsUtf8 name → row.extent < 2 ^ 32 → AreLayerParts t row parts
    → AreRelated (IsValidFeatureOf t (lent parts.keys.items) parts.values.items) parts.rows.now features
    → IsValidLayerOf t row (record { name = name; extent = row.extent; features = features })
unfolding ValidLayer
layer_of_parts t row parts name features named utf8 extent are related =
    let both = related_alone (IsFeature t (lent parts.keys.items) parts.values.items) ValidFeature parts.rows.now features related in (
      record {
        name = named;
        extent = refl;
        keys = lent parts.keys.items;
        has_keys = are.keys;
        values = parts.values.items;
        has_values = are.values;
        rows = parts.rows.now;
        has_rows = are.rows;
        features = both.0;
      },
      (utf8, extent, both.1),
    )

-- the same of the lists that are handed on
pub parts_range : (t : Table) (row : LayerRow) (parts : LayerParts) (keys : List (List ℕ)) (values : List Value) → AreLayerParts t row parts
    → keys ≡ lent parts.keys.items → values ≡ parts.values.items → AreInRange keys values
parts_range t row parts keys values are keys_are values_are =
    subst (λ k. AreInRange k values) (sym keys_are) (subst (λ v. AreInRange (lent parts.keys.items) v) (sym values_are) are.in_range)

pub layer_made : (t : Table) (row : LayerRow) (parts : LayerParts) (name : List ℕ) (features : List Feature) (keys : List (List ℕ))
    (values : List Value)
    → text_of t.texts row.name ≡ Some name → IsUtf8 name → row.extent < 2 ^ 32 → AreLayerParts t row parts
    → keys ≡ lent parts.keys.items → values ≡ parts.values.items → AreRelated (IsValidFeatureOf t keys values) parts.rows.now features
    → IsValidLayerOf t row (record { name = name; extent = row.extent; features = features })
layer_made t row parts name features keys values named utf8 extent are keys_are values_are related =
    layer_of_parts t row parts name features named utf8 extent are
    (subst (λ k. AreRelated (IsValidFeatureOf t k parts.values.items) parts.rows.now features) keys_are
    (subst (λ v. AreRelated (IsValidFeatureOf t keys v) parts.rows.now features) values_are related))

-- a name is UTF-8
utf8_if : (bytes : List ℕ) (b : Bool) → is_utf8 bytes ≡ b → (text : List ℕ) → (if b then Some bytes else None) ≡ Some text → IsUtf8 text
utf8_if bytes true is text h = subst IsUtf8 (same_Some bytes text h) (IsUtf8-from_is_utf8 bytes is)
utf8_if bytes false is text h = cc

utf8_part : (o : Option (List ℕ)) (text : List ℕ) → option_and_then utf8_of o ≡ Some text → IsUtf8 text
utf8_part None text h = cc
utf8_part (Some bytes) text h = utf8_if bytes (is_utf8 bytes) refl text h

pub utf8_there : (texts : List ℕ) (span : Span) (text : List ℕ) → text_of texts span ≡ Some text → IsUtf8 text
utf8_there texts span text h = utf8_part (part_of texts span) text h

-- a layer without features
pub nothing_written : (limit : ℕ) (keys : List (List ℕ)) (values : List Value) (w : LayerWriter) → HasWritten keys values w []
    → HasWrittenUpTo limit keys values w []
nothing_written limit keys values w written =
    record { kept = []; left_out = []; features_are = refl; written = written; past = λ some. absurd (some refl) }

-- ---- names

repeats_by : (names others given : List (List ℕ)) → ((n : List ℕ) → list_any (bytes_eq n) names ≡ list_any (bytes_eq n) others)
    → repeats names given ≡ repeats others given
repeats_by names others [] same = refl
repeats_by names others (n ∷ given) same = ap₂ (λ a b. a || b) (same n) (repeats_by names others given same)

-- the name of one item more, where it has one, is new
pub named_more : (names after : List (List ℕ)) (items : List Item) (item : Item) → AreNames names items → HasDistinctNames items
    → repeats names (names_in item) ≡ false
    → ((n : List ℕ) → list_any (bytes_eq n) after ≡ (list_any (bytes_eq n) names || list_any (bytes_eq n) (names_in item)))
    → AreNames after (items ++ item ∷ []) × HasDistinctNames (items ++ item ∷ [])
named_more names after items item named distinct new more =
    let all : flat_map names_in (items ++ item ∷ []) ≡ flat_map names_in items ++ names_in item =
    flat_map-append names_in items (item ∷ []) ∙ ap (λ ns. flat_map names_in items ++ ns) (append-nil (names_in item)) in (
      λ n. more n ∙ ap (λ b. b || list_any (bytes_eq n) (names_in item)) (named n)
          ∙ sym (ap (list_any (bytes_eq n)) all ∙ list_any-append (bytes_eq n) (flat_map names_in items) (names_in item)),
      names_apart_more items item distinct (sym (repeats_by names (flat_map names_in items) (names_in item) named) ∙ new),
    )

pub or_nothing : (a : Bool) → a ≡ (a || false)
or_nothing true = refl
or_nothing false = refl

-- the name of a layer is one of those before it
pub name_repeated : (names : List (List ℕ)) (items : List Item) (name text : List ℕ) (new : Bool) → AreNames names items → text ≡ name
    → new ≡ not (repeats names (text ∷ [])) → new ≡ false → repeats (flat_map names_in items) (name ∷ []) ≡ true
name_repeated names items name text new are same added there =
    ap (λ n. repeats (flat_map names_in items) (n ∷ [])) (sym same) ∙ sym (repeats_by names (flat_map names_in items) (text ∷ []) are)
    ∙ not-false (repeats names (text ∷ [])) (sym added ∙ there)

-- the name of a layer is none of those before it
pub name_fresh : (names : List (List ℕ)) (items : List Item) (name text : List ℕ) (new : Bool) → AreNames names items → text ≡ name
    → new ≡ not (repeats names (text ∷ [])) → new ≡ true → repeats (flat_map names_in items) (name ∷ []) ≡ false
name_fresh names items name text new are same added is_new =
    ap (λ n. repeats (flat_map names_in items) (n ∷ [])) (sym same) ∙ sym (repeats_by names (flat_map names_in items) (text ∷ []) are)
    ∙ not-true (repeats names (text ∷ [])) (sym added ∙ is_new)

-- the name of a layer is new
pub layer_named : (names after : List (List ℕ)) (items : List Item) (layer : ALayer) (text : List ℕ) (new : Bool) → AreNames names items
    → HasDistinctNames items → text ≡ layer.name → new ≡ not (repeats names (text ∷ [])) → new ≡ true
    → ((n : List ℕ) → list_any (bytes_eq n) after ≡ (list_any (bytes_eq n) names || list_any (bytes_eq n) (text ∷ [])))
    → AreNames after (items ++ Layer layer ∷ []) × HasDistinctNames (items ++ Layer layer ∷ [])
layer_named names after items layer text new named distinct same added is_new more =
    named_more names after items (Layer layer) named distinct
    (ap (λ n. repeats names (n ∷ [])) (sym same) ∙ not-true (repeats names (text ∷ [])) (sym added ∙ is_new))
    (λ n. more n ∙ ap (λ t. list_any (bytes_eq n) names || list_any (bytes_eq n) (t ∷ [])) same)

-- ---- items

pub layer_added : (t : Table) (row : LayerRow) (layer : ALayer) (items : List Item) (old w : RowsWriter) (name text : List ℕ) (new : Bool)
    → row.version ≡ 2 → text_of t.texts row.name ≡ Some name → text ≡ name → HasAdded old items → IsValidLayerOf t row layer
    → new ≡ not (repeats old.names (text ∷ [])) → new ≡ true
    → ((n : List ℕ) → list_any (bytes_eq n) w.names ≡ (list_any (bytes_eq n) old.names || list_any (bytes_eq n) (text ∷ [])))
    → AreEncoded LIMIT (items ++ Layer layer ∷ []) w.out → HasAddedRow t row w items
unfolding ValidItem
layer_added t row layer items old w name text new is named same has valid added is_new more encoded =
    let names =
    layer_named old.names w.names items layer text new has.named has.distinct (same ∙ some_same _ _ _ named valid.0.name)
    added is_new more in
    (Layer layer, ((is, valid.0), valid.1), record { named = names.0; distinct = names.1; encoded = encoded })

pub foreign_added : (t : Table) (row : LayerRow) (content : List ℕ) (items : List Item) (old w : RowsWriter)
    → row.version ≢ 2 → part_of t.texts row.bytes ≡ Some content → AreOfVersion row.version content → HasAdded old items
    → w.names ≡ old.names → AreEncoded LIMIT (items ++ Foreign row.version content ∷ []) w.out → HasAddedRow t row w items
unfolding ValidItem
foreign_added t row content items old w not2 named valid has same encoded =
    let names =
    named_more old.names w.names items (Foreign row.version content) has.named has.distinct refl
    (λ n. ap (list_any (bytes_eq n)) same ∙ or_nothing (list_any (bytes_eq n) old.names)) in (
      Foreign row.version content,
      ((not2, refl, named), valid),
      record { named = names.0; distinct = names.1; encoded = encoded },
    )

pub canonical_foreign : (version : ℕ) (content : List ℕ) → content ≡ canonical_item (Foreign version content)
unfolding canonical_item
canonical_foreign version content = refl

-- ---- tiles

pub valid_item_once : (t : Table) (row : LayerRow) (a b : Item) → IsValidItemOf t row a → IsValidItemOf t row b → a ≡ b
valid_item_once t row a b h k = item_once t row a b h.0 k.0

-- rows of which one is refused are no tile
pub no_tile : (t : Table) (i : ℕ) (d : LayerRow) (items : List Item) → AreRelated (IsValidItemOf t) (take i t.layers) items
    → i < length t.layers → IsRefused t (get_or t.layers i d) items → IsNoTile t
no_tile t i d items are within refused tile is valid =
    let all = related_with (IsItem t) ValidItem t.layers tile.items is valid.items in
    let (before, item, after, parts, front, here) =
    related_at (IsValidItemOf t) (take i t.layers) (get_or t.layers i d) (drop (i + 1) t.layers) tile.items
    (subst (λ l. AreRelated (IsValidItemOf t) l tile.items) (around t.layers i d within) all) in
    let same = related_once (IsValidItemOf t) (valid_item_once t) (take i t.layers) before items front are in
    let apart = names_apart_before before item after (subst HasDistinctNames parts valid.names) in
    false≢true
    (sym apart ∙ ap (λ fs. repeats (flat_map names_in fs) (names_in item)) same ∙ refused item here)

-- all rows are written
pub all_written : (t : Table) (i : ℕ) (items : List Item) → length t.layers ≤ i → AreRelated (IsValidItemOf t) (take i t.layers) items
    → HasDistinctNames items → IsTileOf t (record { items = items }) × Valid (record { items = items })
all_written t i items past are distinct =
    let both = related_alone (IsItem t) ValidItem t.layers items
    (subst (λ l. AreRelated (IsValidItemOf t) l items) (take_all i t.layers past) are) in
    (both.0, record { items = both.1; names = distinct })

pub out_written : (t : Table) (items : List Item) (out : Option (Vec ℕ Global)) (r : Result (Vec ℕ Global) RowsError)
    → IsTileOf t (record { items = items }) × Valid (record { items = items }) → AreEncoded LIMIT items out
    → r ≡ ok_or out TooLarge → IfOk r (λ made. IsWritten t made.items) × IfErr r (NotWritten t)
unfolding canonical
out_written t items None r is encoded made =
    subst (λ (r : Result (Vec ℕ Global) RowsError). IfOk r (λ made. IsWritten t made.items) × IfErr r (NotWritten t)) (sym made)
    (tt, (record { items = items }, is.0, is.1, encoded))
out_written t items (Some bytes) r is encoded made =
    subst (λ (r : Result (Vec ℕ Global) RowsError). IfOk r (λ made. IsWritten t made.items) × IfErr r (NotWritten t)) (sym made)
    ((record { items = items }, is.0, is.1, encoded.0), tt)
