-- What is found of items, one after the other.
use Rattle.std.proofs.Common.{◌≡◌, ◌≢◌, ℕ, ◌+◌, ◌≤◌, Bool, false, ◌==◌, eqb, Bor, List, [], ◌∷◌, ◌++◌, length, bytes_eq, None, Ok, Err, Result, refl, sym, ap, ap₂, subst, ◌∙◌, arith, append_assoc, append-nil, length-append, zero-add}
use Rattle.std.specs.List.{sum_by}
use Rattle.std.specs.Result.{OnOk}
use Rattle.std.proofs.lemmas.Bool.{eqb-true, eq-eqb, ne_eqb, false≢true}
use Rattle.std.proofs.lemmas.Bool.Decides.{same_from_decides}
use Rattle.std.proofs.lemmas.List.{append_cancel_left, nil_from_length}
use Rattle.std.proofs.lemmas.List.Sums.{sum_by-append}
use Rattle.std.proofs.lemmas.Slice.Eq.{bytes_eq-Decides}
use Rattle.mvt_feature.specs.declared.feature.Feature.{Feature}
use Rattle.mvt_wire.specs.Split.{split}
use Rattle.mvt_message.specs.declared.item.Item.{Item}
use Rattle.mvt_message.specs.declared.item.Item.TheVariants.{Layer, Foreign}
use Rattle.mvt_message.specs.declared.item.Layer.{Layer as ALayer}
use Rattle.mvt_message.specs.declared.visiting.Visited.TheVariants as visited
use Rattle.mvt_message.specs.Items.{IsItem}
use Rattle.mvt_message.specs.ValidItems.{ValidItem}
use Rattle.mvt_message.specs.Visiting.{HasLayer, IsVisited, OfFeatures}
use Rattle.mvt_message.specs.CanonicalItems.{canonical_item}
use Rattle.mvt_tile_value.specs.declared.note.Note.{Note}
use Rattle.mvt_tile_value.specs.declared.note.Note.TheVariants.{NoFeatures, NoLayers}
use Rattle.mvt_tile_value.specs.declared.survey.Survey.{Survey}
use Rattle.mvt_tile_value.specs.declared.survey_builder.SurveyBuilder.{SurveyBuilder}
use Rattle.mvt_tile_value.specs.declared.tile.Tile.{Tile}
use Rattle.mvt_tile_value.specs.Beginning.{IsNoLayer}
use Rattle.mvt_tile_value.specs.Comparing.{IsAfter}
use Rattle.mvt_tile_value.specs.Findings.{AreFound}
use Rattle.mvt_tile_value.specs.Notes.{numbered, note_if, feature_notes, item_notes, layer_notes, notes_of}
use Rattle.mvt_tile_value.specs.Survey.{feature_count, survey_of}
use Rattle.mvt_tile_value.proofs.BeginningLemmas.{no_layer_after}
use Rattle.mvt_tile_value.proofs.NoteLemmas.{numbered-append}
use Rattle.mvt_tile_value.proofs.WritingLemmas.{written, field_of, written-append, written_one}

-- nothing is left, or something, or the input begins otherwise

pub end_there : (input front rest : List ℕ) (end : Bool) → input ≡ front ++ rest → end ≡ (length rest == 0) → end ≡ bytes_eq input front
end_there input front rest end is e =
    same_from_decides end (bytes_eq input front) (
      λ yes. is ∙ ap (λ r. front ++ r) (nil_from_length rest (eqb-true (length rest) 0 (sym e ∙ yes))) ∙ append-nil front,
      λ same. e ∙ eq-eqb (length rest) 0 (ap length (append_cancel_left front rest [] (sym is ∙ same ∙ sym (append-nil front)))),
    ) (bytes_eq-Decides input front)

pub end_nowhere : (input front : List ℕ) → ((more : List ℕ) → input ≢ front ++ more) → false ≡ bytes_eq input front
end_nowhere input front differs =
    same_from_decides false (bytes_eq input front) (
      λ impossible. absurd (false≢true impossible),
      λ same. absurd (differs [] (same ∙ sym (append-nil front))),
    ) (bytes_eq-Decides input front)

-- one item more

features_more : (items : List Item) (item : Item)
    → sum_by feature_count (items ++ item ∷ []) ≡ sum_by feature_count items + feature_count item
features_more items item =
    sum_by-append feature_count items (item ∷ []) ∙ ap (λ n. sum_by feature_count items + n) (zero-add (feature_count item))

pub found_more : (limit : ℕ) (input : List ℕ) (old new : SurveyBuilder) (items : List Item) (item : Item) (count index : ℕ)
    → AreFound limit input old items → length items ≡ index
    → count ≡ feature_count item → count ≤ 18446744073709551615 → new.features ≡ old.features + count
    → IsAfter input (written items ++ field_of item) new.left → new.notes.items ≡ old.notes.items ++ item_notes index item
    → AreFound limit input new (items ++ item ∷ [])
found_more limit input old new items item count index found at is most sum left noted = record {
  small = found.small;
  features = sum ∙ ap₂ (λ a b. a + b) found.features is ∙ sym (features_more items item);
  few = let before = found.few in omega (arith, length-append items (item ∷ []));
  left = subst (λ b. IsAfter input b new.left)
      (ap (λ b. written items ++ b) (sym (written_one item)) ∙ sym (written-append items (item ∷ []))) left;
  notes = noted ∙ ap (λ ns. ns ++ item_notes index item) found.notes
      ∙ ap (λ n. numbered item_notes 0 items ++ item_notes n item) (let place : index ≡ 0 + length items = omega arith in place)
      ∙ ap (λ ns. numbered item_notes 0 items ++ ns) (sym (append-nil (item_notes (0 + length items) item)))
      ∙ sym (numbered-append item_notes 0 items (item ∷ []));
}

-- of a layer, by the notes of its features
pub layer_noted : (index count : ℕ) (features : List Feature) (start mid own new : List Note) → count ≡ length features
    → mid ≡ start ++ note_if (count == 0) (NoFeatures index) → own ≡ numbered (feature_notes index features) 0 features
    → new ≡ mid ++ own → new ≡ start ++ layer_notes index features
layer_noted index count features start mid own new is e g whole =
    whole ∙ ap₂ (λ m o. m ++ o) e g
    ∙ append_assoc start (note_if (count == 0) (NoFeatures index)) (numbered (feature_notes index features) 0 features)
    ∙ ap (λ n. start ++ (note_if (n == 0) (NoFeatures index) ++ numbered (feature_notes index features) 0 features)) is

pub foreign_payload : (version : ℕ) (payload : List ℕ) → [] ++ (payload ++ []) ≡ canonical_item (Foreign version payload)
unfolding canonical_item
foreign_payload version payload = append-nil payload

-- of all items

notes_end : (items : List Item)
    → numbered item_notes 0 items ++ note_if (eqb (length items) 0) NoLayers ≡ note_if
    (eqb (length items) 0) NoLayers ++ numbered item_notes 0 items
notes_end [] = refl
notes_end (item ∷ items) =
    let some : eqb (length (item ∷ items)) 0 ≡ false = ne_eqb (length (item ∷ items)) 0 (λ e. omega (arith, e)) in
    let noted = numbered item_notes 0 (item ∷ items) in
    ap (λ b. noted ++ note_if b NoLayers) some ∙ append-nil noted ∙ ap (λ b. note_if b NoLayers ++ noted) (sym some)

pub noted_end : (tile : Tile) (layers : ℕ) (empty : Bool) (old new : List Note) → length tile.items ≡ layers → empty ≡ (layers == 0)
    → old ≡ numbered item_notes 0 tile.items → new ≡ old ++ note_if empty NoLayers → new ≡ notes_of tile
unfolding notes_of
noted_end tile layers empty old new count is so_far e =
    e ∙ ap₂ (λ ns b. ns ++ note_if b NoLayers) so_far (is ∙ ap (λ n. eqb n 0) (sym count)) ∙ notes_end tile.items

pub surveyed : (tile : Tile) (layers features : ℕ) (is answer : Bool) (notes : List Note) → length tile.items ≡ layers
    → features ≡ sum_by feature_count tile.items → is ≡ answer → notes ≡ notes_of tile
    → (let survey : Survey = record { layers = layers; features = features; is_canonical = is; notes = notes } in survey) ≡ survey_of tile
    answer
surveyed tile layers features is answer notes count sum same noted = rw (sym count, sum, same, noted) refl

-- of a layer that was visited
pub layer_told : {V : Type 0} (HasGiven : V → Type 0) (HasFeatures : OfFeatures V) (payload : List ℕ) (visitor : V) (name : Bor (List ℕ))
    (extent : ℕ) (P : Item → Type 0) (item : Item)
    → IsVisited HasGiven HasFeatures payload visitor (visited.Layer name extent) item → P item
    → (layer : ALayer) × HasLayer HasFeatures (split payload).fields visitor (visited.Layer name extent) layer × P (Layer layer)
layer_told HasGiven HasFeatures payload visitor name extent P (Layer layer) is p = (layer, is, p)
layer_told HasGiven HasFeatures payload visitor name extent P (Foreign version content) is p = absurd is

foreign_same : (version other : ℕ) (payload content : List ℕ) → version ≡ other → IsItem payload (Foreign other content)
    → Foreign other content ≡ Foreign version payload
unfolding IsItem
foreign_same version other payload content same of = ap₂ Foreign (sym same) of.3.2

pub foreign_told : {V : Type 0} (HasGiven : V → Type 0) (HasFeatures : OfFeatures V) (payload : List ℕ) (visitor : V) (version : ℕ)
    (item : Item)
    → IsVisited HasGiven HasFeatures payload visitor (visited.Foreign version) item → IsItem payload item → item ≡ Foreign version payload
foreign_told HasGiven HasFeatures payload visitor version (Layer layer) is of = absurd is
foreign_told HasGiven HasFeatures payload visitor version (Foreign other content) is of = foreign_same version other payload content is.0 of

-- one layer more that isn't canonical where it stands
pub layer_other : (limit : ℕ) (input : List ℕ) (old new : SurveyBuilder) (items : List Item) (layer : ALayer) (count index : ℕ)
    → AreFound limit input old items → length items ≡ index → IsNoLayer old.left → ValidItem (Layer layer)
    → count ≡ length layer.features → count ≤ 18446744073709551615 → new.features ≡ old.features + count → new.left ≡ None
    → new.notes.items ≡ old.notes.items ++ layer_notes index layer.features
    → AreFound limit input new (items ++ Layer layer ∷ [])
layer_other limit input old new items layer count index found at none valid is most sum left noted =
    found_more limit input old new items (Layer layer) count index found at is most sum
    (subst (IsAfter input (written items ++ field_of (Layer layer))) (sym left)
    (no_layer_after input (written items) old.left layer none valid found.left)) noted

-- two facts of a success, and one that always holds
pub on_ok_joined : {X E : Type 0} (result : Result X E) {P Q R S : Type 0} → (P → Q → R → S) → OnOk result P → OnOk result Q → R
    → OnOk result S
on_ok_joined (Ok x) all p q r = all p q r
on_ok_joined (Err e) all p q r = tt
