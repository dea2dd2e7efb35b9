-- The rules of top-level fields, and the items that those without a fault are.
use Rattle.std.proofs.Common.{◌≡◌, ℕ, Bool, true, false, cond, eqb, List, [], ◌∷◌, ◌++◌, length, Some, refl, sym, ap, ◌∙◌}
use Rattle.std.specs.Option.{option_or, option_map}
use Rattle.std.proofs.lemmas.Bool.{cond-true, cond-false}
use Rattle.mvt_base.specs.Rules.{Rules, when, map_faults, rows, under, first}
use Rattle.mvt_base.proofs.RuleLemmas.{first-map_faults, first-rows, option_or-right}
use Rattle.mvt_wire.specs.Field.{Content, bytes, Entry}
use Rattle.mvt_feature.specs.declared.cause.Cause.TheVariants.{WrongType}
use Rattle.mvt_message.specs.ItemRules.{item_rules, payload_names}
use Rattle.mvt_message.proofs.MessageLaws.{item_in_order_fault}
use Rattle.mvt_tile_value.specs.declared.numbers.tile.TheConstants.{LAYERS}
use Rattle.mvt_tile_value.specs.Tiles.{layers_of}
use Rattle.mvt_tile.specs.Faults.{outer_fault, in_layer}
use Rattle.mvt_tile.specs.Inner.Judging.{name_fault, payload_fault, repeated_at}
use Rattle.mvt_tile.specs.TileRules.{bytes_in, payload_of, names_before, repeats, layer_rules, is_bytes, field_rules}

cond_append : {A : Type 0} (b : Bool) (x : A) (xs ys : List A) → cond b (x ∷ xs) xs ++ ys ≡ cond b (x ∷ (xs ++ ys)) (xs ++ ys)
cond_append true x xs ys = refl
cond_append false x xs ys = refl

pub layers_of-append : (xs ys : List Entry) → layers_of (xs ++ ys) ≡ layers_of xs ++ layers_of ys
layers_of-append [] ys = refl
layers_of-append (x ∷ xs) ys =
    ap (λ zs. cond (eqb x.number LAYERS) (x ∷ zs) zs) (layers_of-append xs ys)
    ∙ sym (cond_append (eqb x.number LAYERS) x (layers_of xs) (layers_of ys))

pub layers_of-layer : (x : Entry) (xs : List Entry) → eqb x.number LAYERS ≡ true → layers_of (x ∷ xs) ≡ x ∷ layers_of xs
layers_of-layer x xs e = cond-true (eqb x.number LAYERS) (x ∷ layers_of xs) (layers_of xs) e

pub layers_of-other : (x : Entry) (xs : List Entry) → eqb x.number LAYERS ≡ false → layers_of (x ∷ xs) ≡ layers_of xs
layers_of-other x xs e = cond-false (eqb x.number LAYERS) (x ∷ layers_of xs) (layers_of xs) e

-- a field that holds no layer has no rules
pub field_other : (front : List Entry) (x : Entry) → eqb x.number LAYERS ≡ false → field_rules front x ≡ []
unfolding field_rules
field_other front x e =
    cond-false (eqb x.number LAYERS)
    (cond (is_bytes x.content) (rows (layer_rules front x)) (under 0 (when true (outer_fault x.at WrongType)))) [] e

field_layer : (front : List Entry) (x : Entry) → eqb x.number LAYERS ≡ true
    → field_rules front x ≡ cond (is_bytes x.content) (rows (layer_rules front x)) (under 0 (when true (outer_fault x.at WrongType)))
unfolding field_rules
field_layer front x e =
    cond-true (eqb x.number LAYERS)
    (cond (is_bytes x.content) (rows (layer_rules front x)) (under 0 (when true (outer_fault x.at WrongType)))) [] e

-- a layer field of another form
pub first-wrong : (front : List Entry) (x : Entry) → eqb x.number LAYERS ≡ true → is_bytes x.content ≡ false
    → first (field_rules front x) ≡ Some (outer_fault x.at WrongType)
first-wrong front x e f =
    ap first
    (field_layer front x e ∙ cond-false (is_bytes x.content) (rows (layer_rules front x))
    (under 0 (when true (outer_fault x.at WrongType))) f)

first-of_rows : {F : Type 0} (a b : Rules F) → first (rows ((1, a) ∷ ((2, b) ∷ []))) ≡ option_or (first a) (first b)
first-of_rows a b =
    first-rows 1 a ((2, b) ∷ []) ∙ ap (λ o. option_or (first a) o) (first-rows 2 b [] ∙ option_or-right (first b))

is_bytes_true : (c : Content) (d : List ℕ) → c ≡ bytes d → is_bytes c ≡ true
is_bytes_true c d e = ap is_bytes e

pub first-layer : (front : List Entry) (x : Entry) (d : List ℕ) → eqb x.number LAYERS ≡ true → x.content ≡ bytes d
    → first (field_rules front x) ≡ payload_fault (length (layers_of front)) (names_before front) d x.body x.at
first-layer front x d e held =
    let n = length (layers_of front) in
    let names = names_before front in
    let given = payload_names (payload_of x) in
    let of_rows : first (field_rules front x) ≡ first (rows (layer_rules front x)) =
    ap first
    (field_layer front x e
    ∙ cond-true (is_bytes x.content) (rows (layer_rules front x)) (under 0 (when true (outer_fault x.at WrongType)))
    (is_bytes_true x.content d held)) in
    let parts : first (rows (layer_rules front x))
    ≡ option_or (option_map (in_layer n) (first (item_rules (payload_of x) x.body x.at))) (name_fault n names given x.at) =
    first-of_rows (map_faults (in_layer n) (item_rules (payload_of x) x.body x.at)) (when (repeats names given) (repeated_at n x.at))
    ∙ ap (λ o. option_or o (name_fault n names given x.at)) (first-map_faults (in_layer n) (item_rules (payload_of x) x.body x.at)) in
    of_rows ∙ parts
    ∙ ap
    (λ c. option_or (option_map (in_layer n) (first (item_rules (bytes_in c) x.body x.at)))
    (name_fault n names (payload_names (bytes_in c)) x.at))
    held
    ∙ ap (λ o. option_or (option_map (in_layer n) o) (name_fault n names (payload_names d) x.at)) (sym (item_in_order_fault d x.body x.at))
