-- Rows that are no tile, and that rows are one tile at most.
use Rattle.std.proofs.Common.{◌≡◌, ℕ, ◌+◌, ◌<◌, List, [], ◌∷◌, ◌++◌, length, take, get_or, Option, Some, Ok, Err, Result, refl, sym, ap, ◌∙◌, subst}
use Rattle.std.proofs.lemmas.List.{take_more}
use Rattle.mvt_base.specs.Related.{AreRelated}
use Rattle.mvt_base.proofs.ListLemmas.{related-append, related_once}
use Rattle.mvt_attrs.specs.Values.{Value}
use Rattle.mvt_attrs.proofs.AttrsLaws.{attributes_or_fault_once}
use Rattle.mvt_attrs.specs.Tags.{Resolved}
use Rattle.mvt_geometry.specs.declared.shape.Point.{Point}
use Rattle.mvt_geometry.specs.declared.shape.Polygon.{Polygon}
use Rattle.mvt_feature.specs.declared.feature.Feature.{Feature}
use Rattle.mvt_message.specs.declared.item.Item.{Item}
use Rattle.mvt_message.specs.declared.item.Item.TheVariants.{Layer, Foreign}
use Rattle.mvt_message.specs.declared.item.Layer.{Layer as ALayer}
use Rattle.mvt_tile_value.specs.declared.tile.Tile.{Tile}
use Rattle.mvt_rows.specs.declared.rows_error.RowPartError.{RowPartError}
use Rattle.mvt_rows.specs.declared.rows_error.RowPartError.TheVariants.{Memory, NoPart}
use Rattle.mvt_rows.specs.declared.rows.FeatureRow.{FeatureRow}
use Rattle.mvt_rows.specs.declared.rows.LayerRow.{LayerRow}
use Rattle.mvt_rows.specs.Tables.{Table}
use Rattle.mvt_rows.specs.TileRows.{IsFeature, IsLayer, IsItem, IsTileOf, with_inner}
use Rattle.mvt_rows.specs.Written.{IfNoPart}
use Rattle.std.specs.Option.{option_map}
use Rattle.std.specs.Result.{IfErr, IsErrAnd}
use Rattle.std.proofs.lemmas.Option.{same_Some}

pub fails_too : (P Q : Type 0) → (P → Q) → (r : RowPartError) → IfNoPart P r → IfNoPart Q r
fails_too P Q f Memory h = tt
fails_too P Q f NoPart h = f h

-- what was refused with this refusal was refused for the same reason, and one that follows from it
pub fails_in : {A : Type 0} → (r : Result A RowPartError) (e : RowPartError) (P Q : Type 0) → IsErrAnd r (λ f. f ≡ e) → IfNoPart P e
    → (P → Q)
    → IfErr r (IfNoPart Q)
fails_in (Ok x) e P Q h k next = tt
fails_in (Err f) e P Q h k next = subst (IfNoPart Q) (sym h) (fails_too P Q next e k)

pub related_more : {X Y : Type 0} → (R : X → Y → Type 0) (xs : List X) (i : ℕ) (d : X) (ys : List Y) (y : Y) (now : List Y)
    → AreRelated R (take i xs) ys → i < length xs → R (get_or xs i d) y → now ≡ ys ++ y ∷ [] → AreRelated R (take (i + 1) xs) now
related_more R xs i d ys y now so_far within here is =
    subst (AreRelated R (take (i + 1) xs)) (sym is)
    (subst (λ front. AreRelated R front (ys ++ y ∷ [])) (sym (take_more xs i d within))
    (related-append R (take i xs) ys (get_or xs i d ∷ []) (y ∷ []) so_far (here, tt)))

pub inner_last : (front : List Polygon) (p : Polygon) (ring : List Point)
    → with_inner (front ++ p ∷ []) ring ≡ Some (front ++ record p { rest = p.rest ++ ring ∷ [] } ∷ [])
inner_last [] p ring = refl
inner_last (a ∷ []) p ring = refl
inner_last (a ∷ (b ∷ front)) p ring = ap (option_map (λ more. a ∷ more)) (inner_last (b ∷ front) p ring)

pub some_same : {X : Type 0} → (o : Option X) (x y : X) → o ≡ Some x → o ≡ Some y → x ≡ y
some_same o x y h k = same_Some x y (sym h ∙ k)

feature_once : (t : Table) (keys : List (List ℕ)) (values : List Value) (row : FeatureRow) (f g : Feature) → IsFeature t keys values row f
    → IsFeature t keys values row g → f ≡ g
feature_once t keys values row f g h k =
    let tags : h.tags ≡ k.tags = some_same _ _ _ h.tagged k.tagged in
    let attributes : f.attributes ≡ g.attributes = attributes_or_fault_once keys values k.tags f.attributes g.attributes
    (subst (λ tags. Resolved keys values tags f.attributes) tags h.attributes) k.attributes in
    let id : f.id ≡ g.id = some_same _ _ _ h.id k.id in
    let geometry : f.geometry ≡ g.geometry = some_same _ _ _ h.geometry k.geometry in
    ap (λ x. record f { id = x }) id ∙ ap (λ x. record f { id = g.id; attributes = x }) attributes
    ∙ ap (λ x. record f { id = g.id; attributes = g.attributes; geometry = x }) geometry

layer_once : (t : Table) (row : LayerRow) (a b : ALayer) → IsLayer t row a → IsLayer t row b → a ≡ b
layer_once t row a b h k =
    let keys : h.keys ≡ k.keys = some_same _ _ _ h.has_keys k.has_keys in
    let values : h.values ≡ k.values = some_same _ _ _ h.has_values k.has_values in
    let rows : h.rows ≡ k.rows = some_same _ _ _ h.has_rows k.has_rows in
    let name : a.name ≡ b.name = some_same _ _ _ h.name k.name in
    let extent : a.extent ≡ b.extent = h.extent ∙ sym k.extent in
    let shown : AreRelated (IsFeature t k.keys k.values) k.rows a.features = subst
    (λ r. AreRelated (IsFeature t k.keys k.values) r a.features) rows
    (subst (λ v. AreRelated (IsFeature t k.keys v) h.rows a.features) values (subst
    (λ l. AreRelated (IsFeature t l h.values) h.rows a.features) keys h.features)) in
    let features : a.features ≡ b.features = related_once (IsFeature t k.keys k.values)
    (feature_once t k.keys k.values) k.rows a.features b.features shown k.features in
    ap (λ x. record a { name = x }) name ∙ ap (λ x. record a { name = b.name; extent = x }) extent
    ∙ ap (λ x. record a { name = b.name; extent = b.extent; features = x }) features

pub item_once : (t : Table) (row : LayerRow) (a b : Item) → IsItem t row a → IsItem t row b → a ≡ b
item_once t row (Layer a) (Layer b) h k = ap Layer (layer_once t row a b h.1 k.1)
item_once t row (Layer a) (Foreign version content) h k = absurd (k.0 h.0)
item_once t row (Foreign version content) (Layer b) h k = absurd (h.0 k.0)
item_once t row (Foreign version content) (Foreign other others) h k =
    ap (λ v. Foreign v content) (h.1 ∙ sym k.1) ∙ ap (Foreign other) (some_same _ _ _ h.2 k.2)

pub tile_once : (t : Table) (a b : Tile) → IsTileOf t a → IsTileOf t b → a ≡ b
tile_once t a b h k = ap (λ x. record a { items = x }) (related_once (IsItem t) (item_once t) t.layers a.items b.items h k)
