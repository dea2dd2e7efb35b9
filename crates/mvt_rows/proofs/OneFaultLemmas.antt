-- What is wrong with rows is one thing: the first row, its first feature, its first cause.
use Rattle.std.proofs.Common.{◌⊎◌, inl, inr, ◌≡◌, ℕ, ◌+◌, ◌<◌, Bool, true, false, ◌==◌, List, ◌∷◌, ◌++◌, length, take, drop, get_or, slice_get, Option, Some, None, refl, sym, ap, ap₂, ◌∙◌, subst, arith, take-append-drop, length-take}
use Rattle.std.specs.List.{flat_map}
use Rattle.std.proofs.lemmas.Bool.{cases_order, eqb-true, eqb-false, false≢true}
use Rattle.std.proofs.lemmas.List.{get_or-take, take-append-le}
use Rattle.std.proofs.lemmas.Option.{none-some, same_Some, slice_get_within, get_or_from_slice_get}
use Rattle.mvt_base.specs.Related.{AreRelated}
use Rattle.mvt_base.proofs.ListLemmas.{around, related_once}
use Rattle.mvt_attrs.specs.Values.{Value}
use Rattle.mvt_geometry.specs.declared.shape.Geometry.{Geometry as AGeometry}
use Rattle.mvt_message.specs.Items.{names_in}
use Rattle.mvt_tile_value.specs.Tiles.{HasDistinctNames}
use Rattle.mvt_tile.specs.TileRules.{repeats}
use Rattle.mvt_tile.proofs.TileLaws.{names_apart_before}
use Rattle.mvt_rows.specs.declared.rows.FeatureRow.{FeatureRow}
use Rattle.mvt_rows.specs.declared.rows.LayerRow.{LayerRow}
use Rattle.mvt_rows.specs.declared.rows_cause.RowsCause.{RowsCause}
use Rattle.mvt_rows.specs.declared.rows_cause.RowsFault.{RowsFault}
use Rattle.mvt_rows.specs.declared.rows_cause.RowsCause.TheVariants.{Drawing}
use Rattle.mvt_rows.specs.RowsFaults.{IsFaultOf, IsFirstWrong, IsForeignWrong, IsInsideWrong, IsLayerWrongBy, IsRowWrong, IsUndrawn, IsValidFeatureOf, IsValidItemOf, IsWrongBy, feature_cause, name_cause}
use Rattle.mvt_rows.specs.Tables.{Table}
use Rattle.mvt_rows.specs.TileRows.{geometry_of, part_of}
use Rattle.mvt_rows.proofs.FaultLemmas.{feature_right, wrong_refuses}
use Rattle.mvt_rows.proofs.TileLemmas.{some_same}
use Rattle.mvt_rows.proofs.WritingLemmas.{related_at, valid_item_once}

-- what is related to the first entries of a list, by an entry among them
front_at : {X Y : Type 0} → (R : X → Y → Type 0) (xs : List X) (i j : ℕ) (x : X) (ys : List Y) → slice_get xs i ≡ Some x → i < j
    → AreRelated R (take j xs) ys
    → (before : List Y) × (y : Y) × (after : List Y) × (ys ≡ before ++ y ∷ after) × AreRelated R (take i xs) before × R x y
front_at R xs i j x ys there less are =
    let within = slice_get_within xs i x there in
    let size = length-take j xs in
    let here : i < length (take j xs) = omega (arith, within, less, size) in
    let front : take i (take j xs) ≡ take i xs =
    sym (take-append-le i (take j xs) (drop j xs) (omega (arith, here))) ∙ ap (take i) (take-append-drop j xs) in
    let at : get_or (take j xs) i x ≡ x = get_or-take j xs i x less ∙ get_or_from_slice_get xs i x x there in
    let parts : take j xs ≡ take i xs ++ x ∷ drop (i + 1) (take j xs) =
    around (take j xs) i x here ∙ ap₂ (λ l y. l ++ y ∷ drop (i + 1) (take j xs)) front at in
    related_at R (take i xs) x (drop (i + 1) (take j xs)) ys (subst (λ l. AreRelated R l ys) parts are)

-- ---- features

undrawn_once : (g : Option AGeometry) (c d : RowsCause) → IsUndrawn g c → IsUndrawn g d → c ≡ d
undrawn_once None c d h k = absurd h
undrawn_once (Some g) c d h k = h.cause_is ∙ ap Drawing (same_Some h.undrawn k.undrawn (sym h.rule ∙ k.rule)) ∙ sym k.cause_is

wrong_once : (o : Option RowsCause) (g : Option AGeometry) (c d : RowsCause) → IsWrongBy o g c → IsWrongBy o g d → c ≡ d
wrong_once None g c d h k = undrawn_once g c d h k
wrong_once (Some wrong) g c d h k = h ∙ sym k

module _ (t : Table) (keys : List (List ℕ)) (values : List Value) (rows : List FeatureRow) where
  feature_before : (i j : ℕ) (c d : RowsCause) → i < j → IsFirstWrong t keys values rows i c → IsFirstWrong t keys values rows j d → ⊥
  feature_before i j c d less first later =
      let (before, f, after, parts, front, is) =
      front_at (IsValidFeatureOf t keys values) rows i j first.row later.before first.there less later.valid in
      feature_right t keys values first.row f c is.0 is.1 first.wrong

  first_once : (i j : ℕ) (c d : RowsCause) → IsFirstWrong t keys values rows i c → IsFirstWrong t keys values rows j d → (i ≡ j) × (c ≡ d)
  first_once i j c d h k = by_order (cases_order i j)
    where
      by_order : (i ≡ j) ⊎ ((i < j) ⊎ (j < i)) → (i ≡ j) × (c ≡ d)
      by_order (inr (inl less)) = absurd (feature_before i j c d less h k)
      by_order (inr (inr more)) = absurd (feature_before j i d c more k h)
      by_order (inl same) =
          let row : h.row ≡ k.row = same_Some h.row k.row (sym h.there ∙ ap (slice_get rows) same ∙ k.there) in (
            same,
            wrong_once (feature_cause t keys values k.row) (geometry_of t k.row) c d
                (subst (λ r. IsWrongBy (feature_cause t keys values r) (geometry_of t r) c) row h.wrong) k.wrong,
          )

-- ---- layers

module _ (t : Table) (row : LayerRow) where
  inside_once : (i j : Option ℕ) (c d : RowsCause) → IsInsideWrong t row i c → IsInsideWrong t row j d → (i ≡ j) × (c ≡ d)
  inside_once None None c d h k = (refl, same_Some c d (sym h ∙ k))
  inside_once None (Some j) c d h k = absurd (none-some c (sym k.none ∙ h))
  inside_once (Some i) None c d h k = absurd (none-some d (sym h.none ∙ k))
  inside_once (Some i) (Some j) c d h k =
      let keys : h.keys ≡ k.keys = some_same _ _ _ h.has_keys k.has_keys in
      let values : h.values ≡ k.values = some_same _ _ _ h.has_values k.has_values in
      let rows : h.rows ≡ k.rows = some_same _ _ _ h.has_rows k.has_rows in
      let first : IsFirstWrong t k.keys k.values k.rows i c =
      subst (λ r. IsFirstWrong t k.keys k.values r i c) rows
      (subst (λ v. IsFirstWrong t k.keys v h.rows i c) values (subst (λ l. IsFirstWrong t l h.values h.rows i c) keys h.first)) in
      let same = first_once t k.keys k.values k.rows i j c d first k.first in
      (ap Some same.0, same.1)

  layer_once : (o : Option RowsCause) (i j : Option ℕ) (c d : RowsCause) → IsLayerWrongBy t row o i c → IsLayerWrongBy t row o j d
      → (i ≡ j) × (c ≡ d)
  layer_once None i j c d h k = inside_once i j c d h k
  layer_once (Some wrong) i j c d h k = (h.0 ∙ sym k.0, h.1 ∙ sym k.1)

  foreign_once : (o : Option (List ℕ)) (c d : RowsCause) → IsForeignWrong row.version o c → IsForeignWrong row.version o d → c ≡ d
  foreign_once None c d h k = h ∙ sym k
  foreign_once (Some content) c d h k = h.0 ∙ sym k.0

  row_once : (names : List (List ℕ)) (i j : Option ℕ) (c d : RowsCause) → IsRowWrong t names row i c → IsRowWrong t names row j d
      → (i ≡ j) × (c ≡ d)
  row_once names i j c d h k = by_version (row.version == 2) refl
    where
      by_version : (b : Bool) → (row.version == 2) ≡ b → (i ≡ j) × (c ≡ d)
      by_version true is =
          let two = eqb-true row.version 2 is in
          layer_once (name_cause t names row) i j c d (h.layer two) (k.layer two)
      by_version false is =
          let other = eqb-false row.version 2 is in
          let left = h.foreign other in
          let right = k.foreign other in
          (left.0 ∙ sym right.0, foreign_once (part_of t.texts row.bytes) c d left.1 right.1)

-- ---- tiles

module _ (t : Table) where
  layer_before : (f g : RowsFault) → f.layer < g.layer → IsFaultOf t f → IsFaultOf t g → ⊥
  layer_before f g less first later =
      let (before, item, after, parts, front, is) =
      front_at (IsValidItemOf t) t.layers f.layer g.layer first.row later.before first.there less later.valid in
      let same = related_once (IsValidItemOf t) (valid_item_once t) (take f.layer t.layers) before first.before front first.valid in
      let apart = names_apart_before before item after (subst HasDistinctNames parts later.distinct) in
      false≢true
      (sym apart ∙ ap (λ items. repeats (flat_map names_in items) (names_in item)) same
      ∙ wrong_refuses t first.row first.before f.feature f.cause first.wrong item is)

  pub one_fault : (f g : RowsFault) → IsFaultOf t f → IsFaultOf t g → f ≡ g
  one_fault f g h k = by_order (cases_order f.layer g.layer)
    where
      by_order : (f.layer ≡ g.layer) ⊎ ((f.layer < g.layer) ⊎ (g.layer < f.layer)) → f ≡ g
      by_order (inr (inl less)) = absurd (layer_before f g less h k)
      by_order (inr (inr more)) = absurd (layer_before g f more k h)
      by_order (inl same) =
          let row : h.row ≡ k.row = same_Some h.row k.row (sym h.there ∙ ap (slice_get t.layers) same ∙ k.there) in
          let before : h.before ≡ k.before =
          related_once (IsValidItemOf t) (valid_item_once t) (take g.layer t.layers) h.before k.before
          (subst (λ n. AreRelated (IsValidItemOf t) (take n t.layers) h.before) same h.valid) k.valid in
          let wrong : IsRowWrong t (flat_map names_in k.before) k.row f.feature f.cause =
          subst (λ items. IsRowWrong t (flat_map names_in items) k.row f.feature f.cause) before
          (subst (λ r. IsRowWrong t (flat_map names_in h.before) r f.feature f.cause) row h.wrong) in
          let both = row_once t k.row (flat_map names_in k.before) f.feature g.feature f.cause g.cause wrong k.wrong in
          ap (λ n. let made : RowsFault = record f { layer = n } in made) same
          ∙ ap₂ (λ i c. let made : RowsFault = record g { feature = i; cause = c } in made) both.0 both.1
