-- The named layers of a valid tile are a valid tile.
use Rattle.std.proofs.Common.{◌≡◌, ◌≢◌, ℕ, Bool, true, false, cond, List, [], ◌∷◌, ◌++◌, filter, bytes_eq, AllPairs, length, take, ◌≤◌, refl, sym, ap, subst, ◌∙◌}
use Rattle.std.specs.List.{AllByRecursion, list_any, flat_map}
use Rattle.std.proofs.lemmas.List.{take_all}
use Rattle.std.proofs.lemmas.List.Kept.{AllPairs-filter}
use Rattle.mvt_message.specs.declared.item.Item.{Item as AnItem}
use Rattle.mvt_message.specs.declared.item.Item.TheVariants.{Layer, Foreign}
use Rattle.mvt_message.specs.Items.{names_in}
use Rattle.mvt_message.specs.ValidItems.{ValidItem}
use Rattle.mvt_tile_value.specs.declared.tile.Tile.{Tile}
use Rattle.mvt_tile.specs.Extraction.{is_among, pick}
use Rattle.mvt_tile_value.specs.ValidTiles.{Valid}

all_kept : (b : Bool) (P : AnItem → Type 0) (x : AnItem) (xs : List AnItem) → P x → AllByRecursion P xs
    → AllByRecursion P (cond b (x ∷ xs) xs)
all_kept true P x xs h hs = (h, hs)
all_kept false P x xs h hs = hs

all_filtered : (P : AnItem → Type 0) (p : AnItem → Bool) (xs : List AnItem) → AllByRecursion P xs → AllByRecursion P (filter p xs)
all_filtered P p [] h = tt
all_filtered P p (x ∷ xs) h = all_kept (p x) P x (filter p xs) h.0 (all_filtered P p xs h.1)

names_kept : (b : Bool) (x : AnItem) (xs : List AnItem)
    → flat_map names_in (cond b (x ∷ xs) xs) ≡ cond b (names_in x ++ flat_map names_in xs) (flat_map names_in xs)
names_kept true x xs = refl
names_kept false x xs = refl

name_kept : (b : Bool) (name : List ℕ) (xs ys : List (List ℕ)) → xs ≡ ys → cond b (name ∷ xs) xs ≡ cond b (name ∷ ys) ys
name_kept true name xs ys e = ap (λ zs. name ∷ zs) e
name_kept false name xs ys e = e

nothing_kept : (b : Bool) (xs : List (List ℕ)) → cond b xs xs ≡ xs
nothing_kept true xs = refl
nothing_kept false xs = refl

abbrev is_one_of : List (List ℕ) → List ℕ → Bool
is_one_of names other = list_any (λ name. bytes_eq name other) names

names_filtered : (names : List (List ℕ)) (items : List AnItem)
    → flat_map names_in (filter (is_among names) items) ≡ filter (is_one_of names) (flat_map names_in items)
names_filtered names [] = refl
names_filtered names (Layer l ∷ items) =
    names_kept (is_one_of names l.name) (Layer l) (filter (is_among names) items)
    ∙ name_kept (is_one_of names l.name) l.name (flat_map names_in (filter (is_among names) items))
    (filter (is_one_of names) (flat_map names_in items)) (names_filtered names items)
names_filtered names (Foreign version bytes ∷ items) =
    names_kept (is_among names (Foreign version bytes)) (Foreign version bytes) (filter (is_among names) items)
    ∙ nothing_kept (is_among names (Foreign version bytes)) (flat_map names_in (filter (is_among names) items))
    ∙ names_filtered names items

picked_valid : (tile : Tile) (names : List (List ℕ)) → Valid tile → Valid (pick tile names)
picked_valid tile names valid = record {
  items = all_filtered ValidItem (is_among names) tile.items valid.items;
  names = subst (AllPairs (λ a b. a ≢ b)) (sym (names_filtered names tile.items))
      (AllPairs-filter (λ a b. a ≢ b) (is_one_of names) (flat_map names_in tile.items) valid.names);
}

-- what was kept of all items is a valid tile
pub kept_valid : (tile : Tile) (names : List (List ℕ)) (items picked : List AnItem) (i : ℕ) → items ≡ tile.items → length items ≤ i
    → picked ≡ filter (is_among names) (take i items) → Valid tile → Valid (record { items = picked })
kept_valid tile names items picked i same past kept valid =
    let all : picked ≡ filter (is_among names) tile.items = kept ∙ ap (filter (is_among names)) (take_all i items past ∙ same) in
    subst (λ (xs : List AnItem). Valid (record { items = xs })) (sym all) (picked_valid tile names valid)
