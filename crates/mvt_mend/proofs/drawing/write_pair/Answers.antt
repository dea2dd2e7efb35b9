use Rattle.std.proofs.Common.{rules, ◌≡◌, ◌-ℤ◌, sym, ap, ap₂, ◌∙◌, to_z, of_z, w32, w64}
use Rattle.mvt_wire.specs.Zigzag.{zig}
use Rattle.mvt_geometry.specs.Shape.{wide}
use Rattle.mvt_geometry.specs.Table.{is_outside}
use Rattle.mvt_mend.proofs.ReadingLemmas.{in_range_fits, fits}
use Rattle.mvt_mend.proofs.DrawingLemmas.{far_x, far_y, near, pushed}
use Rattle.mvt_mend.proofs.drawing.write_pair.Goals as goal

pub returns-then-is_outside-clause-near : goal.returns-then-is_outside-clause-near
returns-then-is_outside-clause-near c =
    let here_x : to_z w32 (of_z w32 c.args.from.x) ≡ c.args.from.x = search rules in
    let there_x : to_z w32 (of_z w32 c.args.to.x) ≡ c.args.to.x = search rules in
    let same_x : to_z w64 (of_z w64 c.difference-x.result) ≡ c.difference-x.result = search rules in
    let x : to_z w64 (of_z w64 c.difference-x.result) ≡ c.args.to.x -ℤ c.args.from.x =
    same_x ∙ c.difference-x.ensures ∙ ap₂ (λ a b. a -ℤ b) there_x here_x in
    far_x c.args.from c.args.to (sym (ap (λ z. is_outside wide z) x) ∙ sym c.is_outside.ensures.is ∙ c.if-is_outside.true)

pub returns-then-is_outside-2-clause-near : goal.returns-then-is_outside-2-clause-near
returns-then-is_outside-2-clause-near c =
    let here_x : to_z w32 (of_z w32 c.args.from.x) ≡ c.args.from.x = search rules in
    let there_x : to_z w32 (of_z w32 c.args.to.x) ≡ c.args.to.x = search rules in
    let same_x : to_z w64 (of_z w64 c.difference-x.result) ≡ c.difference-x.result = search rules in
    let x : to_z w64 (of_z w64 c.difference-x.result) ≡ c.args.to.x -ℤ c.args.from.x =
    same_x ∙ c.difference-x.ensures ∙ ap₂ (λ a b. a -ℤ b) there_x here_x in
    let here_y : to_z w32 (of_z w32 c.args.from.y) ≡ c.args.from.y = search rules in
    let there_y : to_z w32 (of_z w32 c.args.to.y) ≡ c.args.to.y = search rules in
    let same_y : to_z w64 (of_z w64 c.difference-y.result) ≡ c.difference-y.result = search rules in
    let y : to_z w64 (of_z w64 c.difference-y.result) ≡ c.args.to.y -ℤ c.args.from.y =
    same_y ∙ c.difference-y.ensures ∙ ap₂ (λ a b. a -ℤ b) there_y here_y in
    far_y c.args.from c.args.to (sym (ap (λ z. is_outside wide z) x) ∙ sym c.is_outside.ensures.is ∙ c.if-is_outside.false)
    (sym (ap (λ z. is_outside wide z) y) ∙ sym c.is_outside-2.ensures.is ∙ c.if-is_outside-2.true)

pub overflow_cast-x : goal.overflow_cast-x
overflow_cast-x c = in_range_fits _ (c.is_outside.ensures.inside c.if-is_outside.false)

pub overflow_cast-y : goal.overflow_cast-y
overflow_cast-y c = in_range_fits _ (c.is_outside-2.ensures.inside c.if-is_outside-2.false)

pub returns-clause-near : goal.returns-clause-near
returns-clause-near c =
    let here_x : to_z w32 (of_z w32 c.args.from.x) ≡ c.args.from.x = search rules in
    let there_x : to_z w32 (of_z w32 c.args.to.x) ≡ c.args.to.x = search rules in
    let same_x : to_z w64 (of_z w64 c.difference-x.result) ≡ c.difference-x.result = search rules in
    let x : to_z w64 (of_z w64 c.difference-x.result) ≡ c.args.to.x -ℤ c.args.from.x =
    same_x ∙ c.difference-x.ensures ∙ ap₂ (λ a b. a -ℤ b) there_x here_x in
    let here_y : to_z w32 (of_z w32 c.args.from.y) ≡ c.args.from.y = search rules in
    let there_y : to_z w32 (of_z w32 c.args.to.y) ≡ c.args.to.y = search rules in
    let same_y : to_z w64 (of_z w64 c.difference-y.result) ≡ c.difference-y.result = search rules in
    let y : to_z w64 (of_z w64 c.difference-y.result) ≡ c.args.to.y -ℤ c.args.from.y =
    same_y ∙ c.difference-y.ensures ∙ ap₂ (λ a b. a -ℤ b) there_y here_y in
    near c.args.from c.args.to (sym (ap (λ z. is_outside wide z) x) ∙ sym c.is_outside.ensures.is ∙ c.if-is_outside.false)
    (sym (ap (λ z. is_outside wide z) y) ∙ sym c.is_outside-2.ensures.is ∙ c.if-is_outside-2.false)

pub returns-clause-drawn : goal.returns-clause-drawn
returns-clause-drawn c =
    let here_x : to_z w32 (of_z w32 c.args.from.x) ≡ c.args.from.x = search rules in
    let there_x : to_z w32 (of_z w32 c.args.to.x) ≡ c.args.to.x = search rules in
    let same_x : to_z w64 (of_z w64 c.difference-x.result) ≡ c.difference-x.result = search rules in
    let x : to_z w64 (of_z w64 c.difference-x.result) ≡ c.args.to.x -ℤ c.args.from.x =
    same_x ∙ c.difference-x.ensures ∙ ap₂ (λ a b. a -ℤ b) there_x here_x in
    let here_y : to_z w32 (of_z w32 c.args.from.y) ≡ c.args.from.y = search rules in
    let there_y : to_z w32 (of_z w32 c.args.to.y) ≡ c.args.to.y = search rules in
    let same_y : to_z w64 (of_z w64 c.difference-y.result) ≡ c.difference-y.result = search rules in
    let y : to_z w64 (of_z w64 c.difference-y.result) ≡ c.args.to.y -ℤ c.args.from.y =
    same_y ∙ c.difference-y.ensures ∙ ap₂ (λ a b. a -ℤ b) there_y here_y in
    λ _. pushed c.args.integers.now.items _ _ _ _ _ _ c.in_ok-push.ensures.items c.in_ok-push-2.ensures.items
    (c.zigzag32.ensures ∙ ap zig (fits _ (c.is_outside.ensures.inside c.if-is_outside.false) ∙ x))
    (c.zigzag32-2.ensures ∙ ap zig (fits _ (c.is_outside-2.ensures.inside c.if-is_outside-2.false) ∙ y))
