use Rattle.std.proofs.Common.{rules, arith, ◌≡◌, ◌-ℤ◌, ◌*ℤ◌, ap₂, ◌∙◌, to_z, of_z, w32, w64}
use Rattle.std.specs.Int.{w128}
use Rattle.std.proofs.lemmas.Int.{ints, to_z-of_z}
use Rattle.mvt_rings.specs.Nesting.{side, in_parts}
use Rattle.mvt_rings.proofs.NestingLemmas.{difference_fits}
use Rattle.mvt_rings.proofs.nesting.side.Goals as goal

pub overflow_sub-result : goal.overflow_sub-result
overflow_sub-result c =
    let forth : to_z w128 (of_z w128 c.product.result) ≡ c.product.result = omega (arith, ints) in
    let back : to_z w128 (of_z w128 c.product-2.result) ≡ c.product-2.result = omega (arith, ints) in
    rw (forth, back) (difference_fits c.product.result c.product-2.result c.product.ensures.small c.product-2.ensures.small)

pub returns : goal.returns
unfolding side
returns c =
    let forth : to_z w128 (of_z w128 c.product.result) ≡ c.product.result = omega (arith, ints) in
    let back : to_z w128 (of_z w128 c.product-2.result) ≡ c.product-2.result = omega (arith, ints) in
    let fits = difference_fits c.product.result c.product-2.result c.product.ensures.small c.product-2.ensures.small in
    let from_x : to_z w32 (of_z w32 c.args.edge.from.x) ≡ c.args.edge.from.x = search rules in
    let from_y : to_z w32 (of_z w32 c.args.edge.from.y) ≡ c.args.edge.from.y = search rules in
    let to_x : to_z w32 (of_z w32 c.args.edge.to.x) ≡ c.args.edge.to.x = search rules in
    let to_y : to_z w32 (of_z w32 c.args.edge.to.y) ≡ c.args.edge.to.y = search rules in
    let x : to_z w64 (of_z w64 c.args.spot.x) ≡ c.args.spot.x = search rules in
    let y : to_z w64 (of_z w64 c.args.spot.y) ≡ c.args.spot.y = search rules in
    let same_right : to_z w64 (of_z w64 c.difference-right.result) ≡ c.difference-right.result = omega (arith, ints) in
    let same_down : to_z w64 (of_z w64 c.difference-down.result) ≡ c.difference-down.result = omega (arith, ints) in
    let same_below : to_z w128 (of_z w128 c.beyond.result) ≡ c.beyond.result = omega (arith, ints) in
    let same_beside : to_z w128 (of_z w128 c.beyond-2.result) ≡ c.beyond-2.result = omega (arith, ints) in
    let right = same_right ∙ (c.difference-right.ensures.value ∙ ap₂ (λ a b. a -ℤ b) to_x from_x) in
    let down = same_down ∙ (c.difference-down.ensures.value ∙ ap₂ (λ a b. a -ℤ b) to_y from_y) in
    let below = same_below ∙ (c.beyond.ensures.value ∙ ap₂ (λ a b. a -ℤ in_parts 2 b) y from_y) in
    let beside = same_beside ∙ (c.beyond-2.ensures.value ∙ ap₂ (λ a b. a -ℤ in_parts 2 b) x from_x) in
    rw (forth, back)
    (to_z-of_z w128 _ fits
    ∙ ap₂ (λ p q. p -ℤ q) (c.product.ensures.value ∙ ap₂ (λ a b. a *ℤ b) right below)
    (c.product-2.ensures.value ∙ ap₂ (λ a b. a *ℤ b) down beside))
