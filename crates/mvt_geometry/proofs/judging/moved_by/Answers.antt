use Rattle.std.proofs.Common.{rules, ◌≡◌, ℤ, ap₂, to_z, of_z, w32}
use Rattle.mvt_geometry.specs.declared.shape.Point.{Point}
use Rattle.mvt_geometry.proofs.PathLemmas.{moved_number}
use Rattle.mvt_geometry.proofs.judging.moved_by.Goals as goal

pub returns : goal.returns
returns c =
    let from = c.args.from in
    let from_x : to_z w32 (of_z w32 from.x) ≡ from.x = search rules in
    let from_y : to_z w32 (of_z w32 from.y) ≡ from.y = search rules in
    let by_x : to_z w32 (of_z w32 c.unzigzag32.result) ≡ c.unzigzag32.result = search rules in
    let by_y : to_z w32 (of_z w32 c.unzigzag32-2.result) ≡ c.unzigzag32-2.result = search rules in
    let x = moved_number from.x c.unzigzag32.result _ _ _ from_x by_x c.unzigzag32.ensures c.requires.0 in
    let y = moved_number from.y c.unzigzag32-2.result _ _ _ from_y by_y c.unzigzag32-2.ensures c.requires.1 in
    ap₂ (λ (a b : ℤ). let p : Point = record { x = a; y = b } in p) x y
