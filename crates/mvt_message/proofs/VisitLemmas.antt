-- The item that a visit tells.
use Rattle.std.proofs.Common.{◌≡◌, ℕ, List, sym, subst, ◌∙◌}
use Rattle.mvt_wire.specs.Split.{split}
use Rattle.mvt_feature.specs.declared.feature.Feature.{Feature}
use Rattle.mvt_message.specs.declared.item.Item.{Item as AnItem}
use Rattle.mvt_message.specs.declared.item.Item.TheVariants.{Layer, Foreign}
use Rattle.mvt_message.specs.declared.item.Layer.{Layer as ALayer}
use Rattle.mvt_message.specs.declared.visiting.Visited.{Visited}
use Rattle.mvt_message.specs.Items.{IsItem}
use Rattle.mvt_message.specs.Visiting.{HasLayer, IsVisited, OfFeatures}

module _ {V : Type 0} (HasGiven : V → Type 0) (HasFeatures : OfFeatures V) (payload : List ℕ) (visitor : V) (reported : Visited)
    (P : AnItem → Type 0) where
  -- of a layer
  pub layer_visited : ((number : ℕ) (content : List ℕ)
      → IsVisited HasGiven HasFeatures payload visitor reported (Foreign number content) → ⊥)
      → (item : AnItem) → IsVisited HasGiven HasFeatures payload visitor reported item → P item
      → (layer : ALayer) × HasLayer HasFeatures (split payload).fields visitor reported layer × P (Layer layer)
  layer_visited other (Layer layer) is p = (layer, is, p)
  layer_visited other (Foreign number content) is p = absurd (other number content is)

  -- of a foreign item
  pub foreign_visited : ((layer : ALayer) → IsVisited HasGiven HasFeatures payload visitor reported (Layer layer) → ⊥)
      → (item : AnItem) → IsVisited HasGiven HasFeatures payload visitor reported item → P item
      → (number : ℕ) × (content : List ℕ) × IsVisited HasGiven HasFeatures payload visitor reported (Foreign number content)
      × P (Foreign number content)
  foreign_visited other (Layer layer) is p = absurd (other layer is)
  foreign_visited other (Foreign number content) is p = (number, content, is, p)

-- what is known of a layer holds of its parts put together
pub put_together : (P : AnItem → Type 0) (layer : ALayer) (name : List ℕ) (extent : ℕ) (features : List Feature) → name ≡ layer.name
    → extent ≡ layer.extent → features ≡ layer.features → P (Layer layer)
    → P (Layer (record { name = name; extent = extent; features = features }))
put_together P layer name extent features names extents features_are h =
    subst P (λ j. Layer (record { name = sym names j; extent = sym extents j; features = sym features_are j })) h

-- a foreign item has its payload's bytes
pub foreign_bytes : (payload : List ℕ) (number : ℕ) (content : List ℕ) → IsItem payload (Foreign number content) → content ≡ payload
unfolding IsItem
foreign_bytes payload number content (fields, whole, forms, are) = are.2

pub foreign_made : (P : AnItem → Type 0) {number : ℕ} {content payload : List ℕ} (bytes : List ℕ) (reported : ℕ) → content ≡ payload
    → reported ≡ number → bytes ≡ payload → P (Foreign number content) → P (Foreign reported bytes)
foreign_made P bytes reported content_is reported_is bytes_are h = subst P
    (λ j. Foreign (sym reported_is j) ((content_is ∙ sym bytes_are) j)) h
