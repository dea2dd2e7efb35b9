-- The payloads of the layers among fields, piece by piece.
use Rattle.std.proofs.Common.{◌≡◌, ◌≢◌, ◌==◌, ℕ, Bool, true, false, List, [], ◌∷◌, ◌++◌, map, refl, ap, ◌∙◌, append-nil, append_assoc, sym, if◌then◌else◌}
use Rattle.std.proofs.lemmas.Bool.{eq-eqb, ne_eqb}
use Rattle.std.proofs.lemmas.List.{map-append}
use Rattle.mvt_wire.specs.Field.{bytes, Entry}
use Rattle.mvt_wire.specs.Split.{Parts, shifted, split, split_from}
use Rattle.mvt_wire.proofs.WireLaws.{field_function_end, split_more_fields, split_steps_none}
use Rattle.mvt_message.specs.declared.item.Item.{Item}
use Rattle.mvt_tile_value.specs.declared.numbers.tile.TheConstants.{LAYERS}
use Rattle.mvt_tile_value.specs.Tiles.{layers_of}
use Rattle.mvt_tile.specs.Streams.{IsLive}
use Rattle.mvt_tile.specs.TileRules.{bytes_in, payload_of}
use Rattle.mvt_tile.specs.Visiting.{payloads_in, payloads_of}
use Rattle.mvt_tile.proofs.LayerLemmas.{layers_of-append, layers_of-layer, layers_of-other}
use Rattle.mvt_tile.proofs.ShiftLemmas.{split_at_place}

pub payloads_joined : (xs ys : List Entry) → payloads_of (xs ++ ys) ≡ payloads_of xs ++ payloads_of ys
payloads_joined xs ys = ap (map payload_of) (layers_of-append xs ys) ∙ map-append payload_of (layers_of xs) (layers_of ys)

-- none and one
pub payloads_nothing : payloads_in [] ≡ []
payloads_nothing = ap (λ (p : Parts). payloads_of p.fields) (split_steps_none 0 [] field_function_end)

pub payloads_other : (x : Entry) → x.number ≢ LAYERS → payloads_of (x ∷ []) ≡ []
payloads_other x other = ap (map payload_of) (layers_of-other x [] (ne_eqb x.number LAYERS other))

pub payloads_one : (x : Entry) (d : List ℕ) → x.number ≡ LAYERS → x.content ≡ bytes d → payloads_of (x ∷ []) ≡ d ∷ []
payloads_one x d is held =
    ap (map payload_of) (layers_of-layer x [] (eq-eqb x.number LAYERS is)) ∙ ap (λ c. bytes_in c ∷ []) held

-- one field more
pub payloads_after : (before : List (List ℕ)) (done : List Entry) (x : Entry)
    → (before ++ payloads_of done) ++ payloads_of (x ∷ []) ≡ before ++ payloads_of (done ++ x ∷ [])
payloads_after before done x =
    append_assoc before (payloads_of done) (payloads_of (x ∷ [])) ∙ ap (λ ps. before ++ ps) (sym (payloads_joined done (x ∷ [])))

-- fields at another place have the same payloads
payloads_shifted : (offset : ℕ) (xs : List Entry) → payloads_of (map (shifted offset) xs) ≡ payloads_of xs
payloads_shifted offset [] = refl
payloads_shifted offset (x ∷ xs) =
    by_test (x.number == LAYERS) (layers_of (map (shifted offset) xs)) (layers_of xs) (payloads_shifted offset xs)
  where
    by_test : (b : Bool) (ys zs : List Entry) → map payload_of ys ≡ map payload_of zs
        → map payload_of (if b then shifted offset x ∷ ys else ys) ≡ map payload_of (if b then x ∷ zs else zs)
    by_test true ys zs same = ap (λ ps. payload_of x ∷ ps) same
    by_test false ys zs same = same

-- a stream with a piece more
pub payloads_live : (limit offset : ℕ) (items : List Item) (raw s piece : List ℕ) → IsLive limit offset items raw s
    → payloads_in (s ++ piece) ≡ payloads_in s ++ payloads_in (raw ++ piece)
payloads_live limit offset items raw s piece live =
    let at = (split s).rest_at in
    ap payloads_of (split_more_fields 0 s piece)
    ∙ payloads_joined (split s).fields (split_from at ((split s).rest ++ piece)).fields
    ∙ ap (λ ps. payloads_in s ++ ps)
    (ap (λ b. payloads_of (split_from at (b ++ piece)).fields) live.rest
    ∙ ap (λ (p : Parts). payloads_of p.fields) (split_at_place at (raw ++ piece))
    ∙ payloads_shifted at (split (raw ++ piece)).fields)

-- a slice that is all of some bytes
pub payloads_whole : (front back all : List ℕ) → all ≡ front ++ back → back ≡ [] → payloads_in front ≡ payloads_in all
payloads_whole front back all is none = sym (ap payloads_in (is ∙ ap (λ b. front ++ b) none ∙ append-nil front))

pub payloads_behind : (raw front back all : List ℕ) → all ≡ front ++ back → back ≡ []
    → payloads_in (raw ++ front) ≡ payloads_in (raw ++ all)
payloads_behind raw front back all is none =
    sym (ap (λ b. payloads_in (raw ++ b)) (is ∙ ap (λ b. front ++ b) none ∙ append-nil front))
