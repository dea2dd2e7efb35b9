-- What is said of a refused tile, byte by byte and part by part.
use Rattle.std.proofs.Common.{◌≡◌, ℕ, ◌+◌, ◌<◌, ◌≤◌, List, [], ◌∷◌, ◌++◌, length, take, get_or, Option, Some, None, sym, ap, ◌∙◌, append_assoc, append-nil, arith}
use Rattle.std.proofs.lemmas.List.{length-take}
use Rattle.mvt_base.proofs.ListLemmas.{front_more}
use Rattle.mvt_wire.specs.Fronts.{number_at}
use Rattle.mvt_wire.specs.Varint.{Spells, SpellsNone}
use Rattle.mvt_wire.proofs.WireLaws.{number_function_none}
use Rattle.mvt_tile.specs.declared.fault.Fault.{Fault}
use Rattle.mvt_places.specs.declared.span.Span.{Span}
use Rattle.mvt_places.specs.Explanations.{byte_text, bytes_text, explanation_by, value_in}
use Rattle.mvt_places.specs.Messages.{span}
use Rattle.mvt_places.proofs.SpanLemmas.{spelled_at}

pub value_spelled : (b : List ℕ) (n k : ℕ) → k ≤ length b → Spells (take k b) n → Some n ≡ value_in (number_at b)
value_spelled b n k within spells = sym (ap value_in (spelled_at b n k within spells))

pub value_none : (b : List ℕ) → SpellsNone b → None ≡ value_in (number_at b)
value_none b none = sym (ap value_in (number_function_none b none))

bytes_text-append : (s : Span) (p : ℕ) (xs ys : List ℕ) → bytes_text s p (xs ++ ys) ≡ bytes_text s p xs ++ bytes_text s (p + length xs) ys
bytes_text-append s p [] ys = ap (λ k. bytes_text s k ys) (let e : p ≡ p + 0 = omega arith in e)
bytes_text-append s p (x ∷ xs) ys =
    ap (λ t. byte_text s p x ++ t) (bytes_text-append s (p + 1) xs ys)
    ∙ sym (append_assoc (byte_text s p x) (bytes_text s (p + 1) xs) (bytes_text s (p + 1 + length xs) ys))
    ∙ ap (λ k. (byte_text s p x ++ bytes_text s (p + 1) xs) ++ bytes_text s k ys)
    (let e : p + 1 + length xs ≡ p + length (x ∷ xs) = omega arith in e)

-- one byte more
pub bytes_more : (s : Span) (p : ℕ) (bytes : List ℕ) (i b : ℕ) (start old new : List ℕ) → i < length bytes → b ≡ get_or bytes i b
    → old ≡ start ++ bytes_text s p (take i bytes) → new ≡ old ++ byte_text s (p + i) b
    → new ≡ start ++ bytes_text s p (take (i + 1) bytes)
bytes_more s p bytes i b start old new h is so_far e =
    let front = take i bytes in
    let len : p + length front ≡ p + i = omega (arith, length-take i bytes) in
    let more : bytes_text s p (take (i + 1) bytes) ≡ bytes_text s p front ++ byte_text s (p + i) b =
    ap (bytes_text s p) (front_more bytes i b h is) ∙ bytes_text-append s p front (b ∷ [])
    ∙ ap (λ k. bytes_text s p front ++ (byte_text s k b ++ [])) len
    ∙ ap (λ t. bytes_text s p front ++ t) (append-nil (byte_text s (p + i) b)) in
    e ∙ ap (λ t. t ++ byte_text s (p + i) b) so_far ∙ append_assoc start (bytes_text s p front) (byte_text s (p + i) b)
    ∙ ap (λ t. start ++ t) (sym more)

-- the same place
pub explained : (input : List ℕ) (fault : Fault) (n m : Option (List ℕ)) (i j : Option ℕ) (a e : ℕ) (s : Span) → n ≡ m → i ≡ j
    → a ≡ s.start → e ≡ s.end
    → explanation_by input fault n i (span a e) ≡ explanation_by input fault m j s
explained input fault n m i j a e s names ids starts ends =
    ap (λ x. explanation_by input fault x i (span a e)) names ∙ ap (λ x. explanation_by input fault m x (span a e)) ids
    ∙ ap (λ x. explanation_by input fault m j (span x e)) starts ∙ ap (λ x. explanation_by input fault m j (span s.start x)) ends
