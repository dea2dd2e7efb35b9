-- The texts of the parts of a tile, piece by piece.
use Rattle.std.proofs.Common.{◌≡◌, ◌∙◌, ℕ, ℤ, pos, negsuc, List, [], ◌∷◌, ◌++◌, true, map, codes, refl, sym, ap, ap₂, subst, OnOk, Result, ◌-◌, ◌≤◌, length, take, drop, get_or, take_all, append_assoc, arith}
use Rattle.std.specs.Fmt.{signed_decimal}
use Rattle.std.specs.List.{flat_map}
use Rattle.json.specs.Print.{escape_byte}
use Rattle.serde_json.specs.Data.{Data, number, string}
use Rattle.serde_json.specs.Find.{of_integer}
use Rattle.serde_json.specs.View.{items_of}
use Rattle.serde_json.specs.Written.{compact_text, items_text}
use Rattle.mvt_geometry.specs.declared.shape.Point.{Point}
use Rattle.mvt_geometry.specs.declared.shape.Polygon.{Polygon}
use Rattle.mvt_feature.specs.declared.feature.Feature.{Feature}
use Rattle.mvt_message.specs.declared.item.Layer.{Layer as ALayer}
use Rattle.mvt_view.specs.Svg.{title_json}
use Rattle.mvt_view.specs.JsonForms.{alone, each, number_json, id_json, attribute_json, point_json, line_json, polygon_json, geometry_json, feature_json, layer_json, foreign_json}

pub integer_text : (z : ℤ) → compact_text (number (of_integer z)) ≡ signed_decimal z
integer_text (pos n) = refl
integer_text (negsuc n) = refl

-- entries after the first, and the end of their array
more_text : {A : Type 0} (f : A → Data) (xs : List A)
    → items_text true (items_of (map f xs)) ≡ flat_map (λ x. 44 ∷ compact_text (f x)) xs ++ 93 ∷ []
more_text f [] = refl
more_text f (x ∷ xs) =
    ap (λ t. 44 ∷ (compact_text (f x) ++ t)) (more_text f xs)
    ∙ sym (append_assoc (44 ∷ compact_text (f x)) (flat_map (λ y. 44 ∷ compact_text (f y)) xs) (93 ∷ []))

pub each_text : {A : Type 0} (f : A → Data) (x : A) (xs : List A)
    → compact_text (each f (x ∷ xs)) ≡ codes "[" ++ (compact_text (f x) ++ (flat_map (λ y. 44 ∷ compact_text (f y)) xs ++ codes "]"))
each_text f x xs = ap (λ t. 91 ∷ (compact_text (f x) ++ t)) (more_text f xs)

pub point_text : (p : Point) → compact_text (point_json p) ≡ 91 ∷ (signed_decimal p.x ++ (44 ∷ (signed_decimal p.y ++ codes "]")))
point_text p = ap₂ (λ x y. 91 ∷ (x ++ (44 ∷ (y ++ codes "]")))) (integer_text p.x) (integer_text p.y)

pub polygon_text : (p : Polygon) → compact_text (polygon_json p)
    ≡ codes "{\"outer\":" ++ (compact_text
    (line_json p.outer) ++ (codes ",\"rest\":" ++ (compact_text (each line_json p.rest) ++ codes "}")))
unfolding escape_byte
polygon_text p = refl

pub feature_text : (f : Feature) → compact_text (feature_json f)
    ≡ codes "{\"attributes\":" ++ (compact_text
    (each attribute_json f.attributes) ++ (codes ",\"geometry\":" ++ (compact_text (geometry_json f.geometry)
    ++ (codes ",\"id\":" ++ (compact_text (id_json f.id) ++ codes "}")))))
unfolding escape_byte
feature_text f = refl

pub title_text : (f : Feature) → compact_text (title_json f)
    ≡ codes "{\"attributes\":" ++ (compact_text
    (each attribute_json f.attributes) ++ (codes ",\"id\":" ++ (compact_text (id_json f.id) ++ codes "}")))
unfolding escape_byte
title_text f = refl

pub layer_text : (l : ALayer) → compact_text (layer_json l)
    ≡ codes "{\"extent\":" ++ (compact_text
    (number_json l.extent) ++ (codes ",\"features\":" ++ (compact_text (each feature_json l.features)
    ++ (codes ",\"name\":" ++ (compact_text (string l.name) ++ codes "}")))))
unfolding escape_byte
layer_text l = refl

pub foreign_text : (version size : ℕ) → compact_text (foreign_json version size)
    ≡ codes "{\"length\":" ++ (compact_text
    (number_json size) ++ (codes ",\"version\":" ++ (compact_text (number_json version) ++ codes "}")))
unfolding escape_byte
foreign_text version size = refl

-- an object of one member
abbrev Begins : List ℕ → List ℕ → Type 0
Begins key opening = (d : Data) → compact_text (alone key d) ≡ opening ++ (compact_text d ++ codes "}")

pub string_begins : Begins (codes "string") (codes "{\"string\":")
unfolding escape_byte
string_begins d = refl

pub float_begins : Begins (codes "float_bits") (codes "{\"float_bits\":")
unfolding escape_byte
float_begins d = refl

pub double_begins : Begins (codes "double_bits") (codes "{\"double_bits\":")
unfolding escape_byte
double_begins d = refl

pub int_begins : Begins (codes "int") (codes "{\"int\":")
unfolding escape_byte
int_begins d = refl

pub uint_begins : Begins (codes "uint") (codes "{\"uint\":")
unfolding escape_byte
uint_begins d = refl

pub sint_begins : Begins (codes "sint") (codes "{\"sint\":")
unfolding escape_byte
sint_begins d = refl

pub bool_begins : Begins (codes "bool") (codes "{\"bool\":")
unfolding escape_byte
bool_begins d = refl

pub unknown_begins : Begins (codes "unknown") (codes "{\"unknown\":")
unfolding escape_byte
unknown_begins d = refl

pub points_begins : Begins (codes "points") (codes "{\"points\":")
unfolding escape_byte
points_begins d = refl

pub lines_begins : Begins (codes "lines") (codes "{\"lines\":")
unfolding escape_byte
lines_begins d = refl

pub polygons_begins : Begins (codes "polygons") (codes "{\"polygons\":")
unfolding escape_byte
polygons_begins d = refl

pub foreign_begins : Begins (codes "foreign") (codes "{\"foreign\":")
unfolding escape_byte
foreign_begins d = refl

pub layers_begins : Begins (codes "layers") (codes "{\"layers\":")
unfolding escape_byte
layers_begins d = refl

-- what was appended, by another name
pub named : {A E : Type 0} (r : Result A E) (old new piece whole : List ℕ) → OnOk r (new ≡ old ++ piece) → whole ≡ piece
    → OnOk r (new ≡ old ++ whole)
named r old new piece whole told same = subst (λ t. OnOk r (new ≡ old ++ t)) (sym same) told

-- pieces that were appended one after another
pub joined : (old a b c whole t1 t2 t3 : List ℕ) → t1 ≡ old ++ a → t2 ≡ t1 ++ b → t3 ≡ t2 ++ c → whole ≡ a ++ (b ++ c) → t3 ≡ old ++ whole
joined old a b c whole t1 t2 t3 e1 e2 e3 same =
    e3 ∙ ap (λ t. t ++ c) (e2 ∙ ap (λ t. t ++ b) e1 ∙ append_assoc old a b) ∙ append_assoc old (a ++ b) c
    ∙ ap (λ t. old ++ t) (append_assoc a b c ∙ sym same)

pub joined_two : (old a b c d e whole t1 t2 t3 t4 t5 : List ℕ) → t1 ≡ old ++ a → t2 ≡ t1 ++ b → t3 ≡ t2 ++ c → t4 ≡ t3 ++ d → t5 ≡ t4 ++ e
    → whole ≡ a ++ (b ++ (c ++ (d ++ e))) → t5 ≡ old ++ whole
joined_two old a b c d e whole t1 t2 t3 t4 t5 e1 e2 e3 e4 e5 same =
    joined old (a ++ (b ++ c)) d e whole t3 t4 t5 (joined old a b c (a ++ (b ++ c)) t1 t2 t3 e1 e2 e3 refl) e4 e5
    (same ∙ ap (λ t. a ++ t) (sym (append_assoc b c (d ++ e))) ∙ sym (append_assoc a (b ++ c) (d ++ e)))

pub joined_three : (old a b c d e f g whole t1 t2 t3 t4 t5 t6 t7 : List ℕ) → t1 ≡ old ++ a → t2 ≡ t1 ++ b → t3 ≡ t2 ++ c → t4 ≡ t3 ++ d
    → t5 ≡ t4 ++ e
    → t6 ≡ t5 ++ f → t7 ≡ t6 ++ g → whole ≡ a ++ (b ++ (c ++ (d ++ (e ++ (f ++ g))))) → t7 ≡ old ++ whole
joined_three old a b c d e f g whole t1 t2 t3 t4 t5 t6 t7 e1 e2 e3 e4 e5 e6 e7 same =
    joined_two old (a ++ (b ++ c)) d e f g whole t3 t4 t5 t6 t7 (joined old a b c (a ++ (b ++ c)) t1 t2 t3 e1 e2 e3 refl) e4 e5 e6 e7
    (same ∙ ap (λ t. a ++ t) (sym (append_assoc b c (d ++ (e ++ (f ++ g))))) ∙ sym (append_assoc a (b ++ c) (d ++ (e ++ (f ++ g)))))

-- the first entry, those after it, and the brackets
pub list_text : {A : Type 0} (f : A → Data) (xs ys : List A) (x : A) (old t1 t2 t3 t4 : List ℕ) → ys ≡ xs → 1 ≤ length ys
    → x ≡ get_or ys 0 x
    → t1 ≡ old ++ codes "[" → t2 ≡ t1 ++ compact_text (f x)
    → t3 ≡ t2 ++ flat_map (λ y. 44 ∷ compact_text (f y)) (take (length ys - 1) (drop 1 ys)) → t4 ≡ t3 ++ codes "]"
    → t4 ≡ old ++ compact_text (each f xs)
list_text {A} f xs [] x old t1 t2 t3 t4 same some is e1 e2 e3 e4 = absurd (omega (arith, some))
list_text {A} f xs (y ∷ ys) x old t1 t2 t3 t4 same some is e1 e2 e3 e4 =
    let more : A → List ℕ = λ z. 44 ∷ compact_text (f z) in
    let rest : take (length (y ∷ ys) - 1) ys ≡ ys = take_all _ ys (omega arith) in
    joined old (codes "[" ++ compact_text (f x)) (flat_map more ys) (codes "]") (compact_text (each f xs)) t2 t3 t4
    (e2 ∙ ap (λ t. t ++ compact_text (f x)) e1 ∙ append_assoc old (codes "[") (compact_text (f x)))
    (e3 ∙ ap (λ zs. t2 ++ flat_map more zs) rest) e4
    (ap (λ zs. compact_text (each f zs)) (sym same) ∙ ap (λ z. compact_text (each f (z ∷ ys))) (sym is) ∙ each_text f x ys)
