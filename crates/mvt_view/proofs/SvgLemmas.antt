-- The pictures of a list of items, item by item.
use Rattle.std.proofs.Common.{◌≡◌, ℕ, ◌+◌, ◌<◌, List, [], ◌∷◌, ◌++◌, length, take, get_or, sym, ap, ◌∙◌, append_assoc, append-nil, arith}
use Rattle.std.proofs.lemmas.List.{length-take}
use Rattle.mvt_base.proofs.ListLemmas.{front_more}
use Rattle.mvt_message.specs.declared.item.Item.{Item}
use Rattle.mvt_view.specs.Svg.{item_svg, items_svg}

items_svg-append : (n : ℕ) (xs ys : List Item) → items_svg n (xs ++ ys) ≡ items_svg n xs ++ items_svg (n + length xs) ys
items_svg-append n [] ys = ap (λ k. items_svg k ys) (let e : n ≡ n + 0 = omega arith in e)
items_svg-append n (x ∷ xs) ys =
    ap (λ t. item_svg n x ++ t) (items_svg-append (n + 1) xs ys)
    ∙ sym (append_assoc (item_svg n x) (items_svg (n + 1) xs) (items_svg (n + 1 + length xs) ys))
    ∙ ap (λ k. (item_svg n x ++ items_svg (n + 1) xs) ++ items_svg k ys)
    (let e : n + 1 + length xs ≡ n + length (x ∷ xs) = omega arith in e)

-- one item more
pub items_more : (items : List Item) (i : ℕ) (item : Item) (start old new : List ℕ) → i < length items
    → item ≡ get_or items i item → old ≡ start ++ items_svg 0 (take i items) → new ≡ old ++ item_svg i item
    → new ≡ start ++ items_svg 0 (take (i + 1) items)
items_more items i item start old new h is so_far e =
    let front = take i items in
    let len : 0 + length front ≡ i = omega (arith, length-take i items) in
    let more : items_svg 0 (take (i + 1) items) ≡ items_svg 0 front ++ item_svg i item =
    ap (items_svg 0) (front_more items i item h is) ∙ items_svg-append 0 front (item ∷ [])
    ∙ ap (λ k. items_svg 0 front ++ (item_svg k item ++ [])) len ∙ ap (λ t. items_svg 0 front ++ t) (append-nil (item_svg i item)) in
    e ∙ ap (λ t. t ++ item_svg i item) so_far ∙ append_assoc start (items_svg 0 front) (item_svg i item) ∙ ap (λ t. start ++ t) (sym more)
