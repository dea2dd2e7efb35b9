-- An extent by fields one after the other.
use Rattle.std.proofs.Common.{◌≡◌, ℕ, ◌<◌, ◌^◌, ◌==◌, Bool, true, false, List, [], ◌∷◌, Option, Some, None, unwrap_or, if◌then◌else◌, Ok, refl, sym, ap, ◌∙◌, subst}
use Rattle.std.specs.List.{last_or}
use Rattle.mvt_wire.specs.declared.field.Field.{Field}
use Rattle.mvt_wire.specs.Field.{Entry, content_of}
use Rattle.mvt_wire.specs.Fields.{GivesEntry}
use Rattle.mvt_wire.specs.Split.{Parts, split}
use Rattle.mvt_wire.proofs.WireLaws.{split_function_only}
use Rattle.mvt_feature.specs.Features.{number_in}
use Rattle.mvt_feature.specs.Ranges.{AreBytes}
use Rattle.mvt_feature.specs.Selection.{only}
use Rattle.mvt_message.specs.declared.item.Item.TheVariants.{Layer}
use Rattle.mvt_message.specs.declared.item.Layer.{Layer as ALayer}
use Rattle.mvt_message.specs.declared.numbers.layer.TheConstants.{EXTENT}
use Rattle.mvt_message.specs.Inner.{extent_after}
use Rattle.mvt_message.specs.Items.{IsItem}
use Rattle.mvt_message.specs.LayerFields.{extent_in}
use Rattle.mvt_message.specs.ValidItems.{ValidItem, ValidLayer}
use Rattle.mvt_message.proofs.ValidLemmas.{item_valid}

-- the last extent of fields after others
abbrev pub extent_from : ℕ → List Entry → ℕ
extent_from before [] = before
extent_from before (x ∷ xs) = extent_from (extent_after before x.number x.content) xs

extent_last : (o : Option Entry) (xs : List Entry)
    → extent_from (unwrap_or (number_in o) 4096) xs ≡ unwrap_or (number_in (last_or o (only EXTENT xs))) 4096
extent_last o [] = refl
extent_last o (x ∷ xs) = by_test (x.number == EXTENT) (extent_last (Some x) xs) (extent_last o xs)
  where
    by_test : (b : Bool)
        → extent_from (unwrap_or (number_in (Some x)) 4096) xs ≡ unwrap_or (number_in (last_or (Some x) (only EXTENT xs))) 4096
        → extent_from (unwrap_or (number_in o) 4096) xs ≡ unwrap_or (number_in (last_or o (only EXTENT xs))) 4096
        → extent_from (if b then unwrap_or (number_in (Some x)) 4096 else unwrap_or (number_in o) 4096) xs
        ≡ unwrap_or (number_in (last_or o (if b then x ∷ only EXTENT xs else only EXTENT xs))) 4096
    by_test true here over = here
    by_test false here over = over

-- that of a layer is the last of its fields
layer_extent : (payload : List ℕ) (layer : ALayer) → IsItem payload (Layer layer) → layer.extent ≡ extent_in (split payload).fields
unfolding IsItem
layer_extent payload layer (xs, whole, forms, are) =
    are.1.extent ∙ ap extent_in (split_function_only payload [] xs whole).0

within : (payload : List ℕ) (layer : ALayer) → AreBytes payload → IsItem payload (Layer layer) → layer.extent < 2 ^ 32
unfolding ValidItem ValidLayer
within payload layer are_bytes is = (item_valid payload (Layer layer) are_bytes is).1

-- one more field, and the last
module _ (payload : List ℕ) (extent : ℕ) (old new : Parts) where
  abbrev Same : ℕ → Parts → Type 0
  Same e to_come = extent_from 4096 (split payload).fields ≡ extent_from e to_come.fields

  pub extent_more : (field : Field) (e : ℕ) → Same extent old → GivesEntry old (Some (Ok field)) new
      → e ≡ extent_after extent field.number (content_of field.payload) → Same e new
  extent_more field e same step e_is =
      same ∙ ap (λ (p : Parts). extent_from extent p.fields) step.0 ∙ ap (λ n. extent_from n new.fields) (sym e_is)

  pub extent_ends : (layer : ALayer) → Same extent old → old.fields ≡ [] → IsItem payload (Layer layer) → extent ≡ layer.extent
  extent_ends layer same none is =
      sym (same ∙ ap (extent_from extent) none) ∙ extent_last None (split payload).fields ∙ sym (layer_extent payload layer is)

  pub extent_small : (layer : ALayer) → Same extent old → old.fields ≡ [] → AreBytes payload → IsItem payload (Layer layer)
      → extent < 2 ^ 32
  extent_small layer same none are_bytes is =
      subst (λ n. n < 2 ^ 32) (sym (extent_ends layer same none is)) (within payload layer are_bytes is)
