-- Fields of a slice that stands at a place of the input.
use Rattle.std.proofs.Common.{◌≡◌, ℕ, ◌+◌, ◌≤◌, List, [], ◌∷◌, ◌++◌, length, drop, sym, ap, ap₂, ◌∙◌, arith, append_assoc, length-append, add-zero}
use Rattle.std.proofs.Math.Seq.{drop-append_seam}
use Rattle.mvt_wire.specs.Field.{Entry}
use Rattle.mvt_wire.specs.Split.{SplitFrom, shifted_parts, split, split_from}
use Rattle.mvt_wire.proofs.WireLaws.{split_function_is, split_shifts_split, split_steps_place}

-- the split of a slice at a place
pub split_at_place : (offset : ℕ) (b : List ℕ) → split_from offset b ≡ shifted_parts offset (split b)
split_at_place offset b = ap (λ n. split_from n b) (sym (add-zero offset)) ∙ split_shifts_split offset 0 b

front_of : (at : ℕ) (es : List Entry) (b rest : List ℕ) → SplitFrom at b es rest → (front : List ℕ) × (b ≡ front ++ rest)
front_of at [] b rest h = ([], h.0)
front_of at (e ∷ es) b rest h =
    let more = front_of (at + length h.0) es h.1 rest h.4 in
    (h.0 ++ more.0, h.2 ∙ ap (λ bs. h.0 ++ bs) more.1 ∙ sym (append_assoc h.0 more.0 rest))

-- the rest is what stands after its place
pub rest_dropped : (b : List ℕ) → (split b).rest ≡ drop (split b).rest_at b
rest_dropped b =
    let f = front_of 0 (split b).fields b (split b).rest (split_function_is b) in
    let place = split_steps_place 0 b in
    let sum : length b ≡ length f.0 + length (split b).rest = ap length f.1 ∙ length-append f.0 (split b).rest in
    let same : (split b).rest_at ≡ length f.0 = omega arith in
    sym (ap₂ drop same f.1 ∙ drop-append_seam f.0 (split b).rest)

pub place_within : (b : List ℕ) → (split b).rest_at ≤ length b
place_within b = let place = split_steps_place 0 b in omega arith
