use Rattle.std.proofs.Common.{rules, ◌≡◌, ◌≢◌, length}
use Rattle.mvt_geometry.specs.declared.shape.Kind.TheVariants as kinds
use Rattle.mvt_geometry.proofs.CommandLemmas.{empty_ends, unknown_calm}
use Rattle.mvt_geometry.proofs.judging.judge.Goals as goal

pub returns-then-eq-clause-ok : goal.returns-then-eq-clause-ok
returns-then-eq-clause-ok c = let is : c.args.kind ≡ kinds.Unknown = search rules in rw is (unknown_calm c.args.integers.now)

pub returns-then-is_empty-clause-err : goal.returns-then-is_empty-clause-err
returns-then-is_empty-clause-err c =
    let known : c.args.kind ≢ kinds.Unknown = search rules in
    let none : length c.args.integers.now ≡ 0 = search rules in
    empty_ends c.args.kind c.args.integers.now known none
