use Rattle.std.proofs.Common.{rules, ◌≡◌, ◌≢◌, ◌⊎◌, inl, inr, to_z, of_z, w32, true, false}
use Rattle.mvt_geometry.proofs.ValidLemmas.{to_step, from_step}
use Rattle.mvt_geometry.proofs.validity.is_step.Goals as goal
use Rattle.mvt_geometry.proofs.validity.is_step.Goals.{else-is_line-via-then-is_line+else-eq, else-is_line-via-else-is_line}

pub returns-then-moves : goal.returns-then-moves
returns-then-moves c =
    let from_x : to_z w32 (of_z w32 c.args.from.x) ≡ c.args.from.x = search rules in
    let from_y : to_z w32 (of_z w32 c.args.from.y) ≡ c.args.from.y = search rules in
    let to_x : to_z w32 (of_z w32 c.args.to.x) ≡ c.args.to.x = search rules in
    let to_y : to_z w32 (of_z w32 c.args.to.y) ≡ c.args.to.y = search rules in
    let x = rw (from_x, to_x) at c.moves.ensures in
    let y = rw (from_y, to_y) at c.moves-then-moves.ensures in
    let apart : ((c.args.is_line ≡ true) × (c.args.from ≢ c.args.to)) ⊎ (c.args.is_line ≡ false) =
    elim c.else-is_line.branch [
      | else-is_line-via-then-is_line+else-eq w ↦ inl (w.if-is_line.true, search rules)
      | else-is_line-via-else-is_line w ↦ inr w.if-is_line.false
    ] in (
      λ t. let in_x = x.0 c.if-moves.true in let in_y = y.0 t in
          to_step c.args.is_line c.args.from c.args.to apart (in_x.0, in_y.0) (in_x.1, in_y.1),
      λ step. let both =
          from_step c.args.is_line c.args.from c.args.to step in y.1 (both.0.1, both.1.1),
    )
