-- A field that is as short as it can be is spelled in one way alone.
use Rattle.std.proofs.Common.{◌≡◌, ℕ, zero, suc, ◌+◌, ◌-◌, ◌*◌, ◌/◌, ◌^◌, ◌<◌, ◌≤◌, List, [], ◌∷◌, ◌++◌, length, take, drop, sym, ap, ap₂, subst, ◌∙◌, arith, length-append}
use Rattle.std.specs.Prelude.{slice_index, slice_range}
use Rattle.std.proofs.lemmas.List.{nil_from_length, append-nil, length-drop, length-take-le, take-append-drop, drop-drop}
use Rattle.std.proofs.lemmas.Nat.{mod_below}
use Rattle.byteorder.specs.Endian.{little_number, little_bytes, little_from}
use Rattle.byteorder.specs.Numbers.{little_from-cons, little_from-lt, little_number-reads_back, length-bytes_low_first}
use Rattle.std.specs.Int.{byte_at, bytes_low_first}
use Rattle.mvt_wire.specs.Varint.{short}
use Rattle.mvt_wire.specs.Field.{Content, varint, fixed64, bytes, fixed32, wire_type, IsPayload, IsField}
use Rattle.mvt_wire.specs.Spelling.{short_payload, short_field}
use Rattle.mvt_wire.proofs.ShortLemmas.{short_shortest, short_only}
use Rattle.mvt_wire.proofs.SpellingLemmas.{length-short_field}

-- each number of a list is a byte
abbrev pub AllBytes : List ℕ → Type 0
AllBytes b = (k : ℕ) → slice_index b k < 256

pub front_bytes : (xs ys : List ℕ) → AllBytes (xs ++ ys) → AllBytes xs
front_bytes [] ys h k = omega arith
front_bytes (x ∷ xs) ys h zero = h zero
front_bytes (x ∷ xs) ys h (suc k) = front_bytes xs ys (λ i. h (suc i)) k

pub back_bytes : (xs ys : List ℕ) → AllBytes (xs ++ ys) → AllBytes ys
back_bytes [] ys h = h
back_bytes (x ∷ xs) ys h = back_bytes xs ys (λ i. h (suc i))

-- four, or eight, bytes are those of the number that they are
same_low : (n : ℕ) (xs ys : List ℕ) → length xs ≡ n → length ys ≡ n → AllBytes xs → AllBytes ys
    → little_from 0 n xs ≡ little_from 0 n ys → xs ≡ ys
same_low zero xs ys lx ly bx by e = nil_from_length xs lx ∙ sym (nil_from_length ys ly)
same_low (suc n) [] ys lx ly bx by e = absurd (omega arith)
same_low (suc n) (x ∷ xs) [] lx ly bx by e = absurd (omega arith)
same_low (suc n) (x ∷ xs) (y ∷ ys) lx ly bx by e =
    let left = little_from-cons 0 n x xs in
    let right = little_from-cons 0 n y ys in
    let hx : x < 256 = bx 0 in
    let hy : y < 256 = by 0 in
    let whole : x + 256 * little_from 0 n xs ≡ y + 256 * little_from 0 n ys =
    ap (λ r. x + 256 * r) (sym left) ∙ e ∙ ap (λ r. y + 256 * r) right in
    let here : x ≡ y = omega arith in
    let more : little_from 0 n xs ≡ little_from 0 n ys = omega arith in
    ap₂ (λ a l. a ∷ l) here (same_low n xs ys (omega arith) (omega arith) (λ i. bx (suc i)) (λ i. by (suc i)) more)

byte_small : (i x : ℕ) → byte_at i x < 256
byte_small zero x = mod_below x 256 (omega arith)
byte_small (suc i) x = mod_below (x / 256 ^ suc i) 256 (omega arith)

-- the bytes of a number
low_bytes : (i n x : ℕ) → AllBytes (bytes_low_first i n x)
low_bytes i zero x k = omega arith
low_bytes i (suc n) x zero = byte_small i x
low_bytes i (suc n) x (suc k) = low_bytes (suc i) n x k

little_number-back : (n x : ℕ) → x < 256 ^ n → little_from 0 n (little_bytes n x) ≡ x
little_number-back n x fits = ap (little_from 0 n) (sym (append-nil (little_bytes n x))) ∙ little_number-reads_back n x [] fits

length-slice : (source : List ℕ) (at after : ℕ) → at < after → after ≤ length source → length (slice_range source at after) ≡ after - at
length-slice source at after some within = length-take-le (after - at) (drop at source) (omega (arith, length-drop at source))

behind_slice : (source : List ℕ) (at after : ℕ) → at < after → drop (after - at) (drop at source) ≡ drop after source
behind_slice source at after some =
    drop-drop (after - at) at source ∙ ap (λ k. drop k source) (omega arith)

little_once : (n : ℕ) (b : List ℕ) → AllBytes b → length b ≡ n → b ≡ little_bytes n (little_number n b)
little_once n b all len =
    let x = little_number n b in
    let fits : x < 256 ^ n = little_from-lt 0 n b all in
    let back : little_from 0 n (little_bytes n x) ≡ x = little_number-back n x fits in
    same_low n b (little_bytes n x) len (length-bytes_low_first 0 n x) all (low_bytes 0 n x) (sym back)

-- the payload
payload_shortest : (b : List ℕ) (c : Content) → IsPayload b c → length (short_payload c) ≤ length b
payload_shortest b (varint n) is = short_shortest b n is
payload_shortest b (fixed64 n) is = omega (arith, length-bytes_low_first 0 8 n, is.0)
payload_shortest b (bytes d) (size, spells, is) =
    omega (arith, ap length is, length-append size d, length-append (short (length d)) d, short_shortest size (length d) spells)
payload_shortest b (fixed32 n) is = omega (arith, length-bytes_low_first 0 4 n, is.0)

payload_only : (b : List ℕ) (c : Content) → AllBytes b → IsPayload b c → length b ≡ length (short_payload c) → b ≡ short_payload c
payload_only b (varint n) all is len = short_only b n all is len
payload_only b (fixed64 n) all is len = little_once 8 b all is.0 ∙ ap (little_bytes 8) (sym is.1)
payload_only b (bytes d) all (size, spells, is) len =
    let whole : length size + length d ≡ length (short (length d)) + length d =
    sym (length-append size d) ∙ ap length (sym is) ∙ len ∙ length-append (short (length d)) d in
    is ∙ ap (λ s. s ++ d) (short_only size (length d) (front_bytes size d (subst AllBytes is all)) spells (omega arith))
payload_only b (fixed32 n) all is len = little_once 4 b all is.0 ∙ ap (little_bytes 4) (sym is.1)

pub field_only : (b : List ℕ) (number : ℕ) (c : Content) → AllBytes b → IsField b number c
    → length b ≡ length (short_field number c) → b ≡ short_field number c
unfolding short_field
field_only b number c all f len =
    let parts : AllBytes (f.tag ++ f.payload) = subst AllBytes f.joined all in
    let tag = short_shortest f.tag _ f.tagged in
    let payload = payload_shortest f.payload c f.carries in
    let whole : length f.tag + length f.payload ≡ length (short (8 * number + wire_type c)) + length (short_payload c) =
    sym (length-append f.tag f.payload) ∙ ap length (sym f.joined) ∙ len ∙ length-short_field number c in
    f.joined
    ∙ ap₂ (λ x y. x ++ y) (short_only f.tag _ (front_bytes f.tag f.payload parts) f.tagged (omega arith))
    (payload_only f.payload c (back_bytes f.tag f.payload parts) f.carries (omega arith))

-- the field that stands at a place of a source, in its shortest spelling
pub stands_short : (source : List ℕ) (at after number : ℕ) (c : Content) → AllBytes source → at < after → after ≤ length source
    → IsField (slice_range source at after) number c → after - at ≡ length (short_field number c)
    → drop at source ≡ short_field number c ++ drop after source
stands_short source at after number c all some within f len =
    let front = slice_range source at after in
    let size : length front ≡ after - at = length-slice source at after some within in
    let back : drop (after - at) (drop at source) ≡ drop after source = behind_slice source at after some in
    let parts : front ++ drop after source ≡ drop at source =
    ap (λ r. front ++ r) (sym back) ∙ take-append-drop (after - at) (drop at source) in
    let are : AllBytes (drop at source) = back_bytes (take at source) (drop at source)
    (subst AllBytes (sym (take-append-drop at source)) all) in
    sym parts
    ∙ ap (λ x. x ++ drop after source)
    (field_only front number c (front_bytes front (drop after source) (subst AllBytes (sym parts) are)) f (size ∙ len))

-- how long a field is
pub short_len_varint : (number n : ℕ) → length (short (8 * number)) + length (short n) ≡ length (short_field number (varint n))
short_len_varint number n =
    let tag : length (short (8 * number)) ≡ length (short (8 * number + 0)) = ap (λ k. length (short k)) (omega arith) in
    omega (arith, tag, length-short_field number (varint n))

pub short_len_eight : (number n : ℕ) → length (short (8 * number + 1)) + 8 ≡ length (short_field number (fixed64 n))
short_len_eight number n = omega (arith, length-short_field number (fixed64 n), length-bytes_low_first 0 8 n)

pub short_len_four : (number n : ℕ) → length (short (8 * number + 5)) + 4 ≡ length (short_field number (fixed32 n))
short_len_four number n = omega (arith, length-short_field number (fixed32 n), length-bytes_low_first 0 4 n)
