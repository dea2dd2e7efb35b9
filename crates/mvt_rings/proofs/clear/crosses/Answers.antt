use Rattle.std.proofs.Common.{rules, ◌≡◌, Bool, true, false, sym, subst}
use Rattle.std.specs.Int.Signed.{lt_z}
use Rattle.mvt_rings.specs.Placing.{is_level_with}
use Rattle.mvt_rings.specs.Rings.{differ}
use Rattle.mvt_rings.specs.Clear.{is_left_of, is_right_of, Says, spot_of}
use Rattle.mvt_rings.proofs.AwayLemmas.{clear_apart, clear_left, clear_right, point_left, point_right, point_silent}
use Rattle.mvt_rings.proofs.clear.crosses.Goals as goal

pub returns-then-not-is_level_with-clause-clear : goal.returns-then-not-is_level_with-clause-clear
returns-then-not-is_level_with-clause-clear c =
    let is : is_level_with c.args.bounds c.args.edge ≡ false = search rules in clear_apart _ _ is

pub returns-then-not-is_level_with-clause-says : goal.returns-then-not-is_level_with-clause-says
returns-then-not-is_level_with-clause-says c =
    let is : is_level_with c.args.bounds c.args.edge ≡ false = search rules in point_silent _ _ _ is

pub returns-then-is_left_of-clause-clear : goal.returns-then-is_left_of-clause-clear
returns-then-is_left_of-clause-clear c =
    let is : is_left_of c.args.bounds c.args.edge ≡ true = search rules in clear_left _ _ is

pub returns-then-is_left_of-clause-says : goal.returns-then-is_left_of-clause-says
returns-then-is_left_of-clause-says c =
    let is : is_left_of c.args.bounds c.args.edge ≡ true = search rules in point_left _ _ _ is

pub returns-then-is_right_of-clause-clear : goal.returns-then-is_right_of-clause-clear
returns-then-is_right_of-clause-clear c =
    let is : is_right_of c.args.bounds c.args.edge ≡ true = search rules in clear_right _ _ is

pub returns-then-is_right_of-clause-says : goal.returns-then-is_right_of-clause-says
returns-then-is_right_of-clause-says c =
    let is : is_right_of c.args.bounds c.args.edge ≡ true = search rules in
    let rows : c.differ.result ≡ differ (lt_z c.args.point.y c.args.edge.from.y) (lt_z c.args.point.y c.args.edge.to.y) = search rules in
    λ at. subst (λ (b : Bool). Says (spot_of c.args.point) b c.args.edge) (sym rows) (point_right _ _ _ is at)
