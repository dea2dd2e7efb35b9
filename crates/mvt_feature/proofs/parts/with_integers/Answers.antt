use Rattle.std.proofs.Common.{◌≡◌, ◌≢◌, ◌==◌, [], length, sym, ◌∙◌, ap, rules}
use Rattle.std.proofs.lemmas.Bool.{eqb-true}
use Rattle.std.proofs.lemmas.List.{nil_from_length}
use Rattle.mvt_feature.proofs.OrderingLemmas.{integers_met}
use Rattle.mvt_feature.proofs.parts.with_integers.Goals as goal

pub returns-clause-met : goal.returns-clause-met
returns-clause-met c = λ met.
    let none : c.args.before.now.integers.now ≡ [] = nil_from_length c.args.before.now.integers.now
    (eqb-true (length c.args.before.now.integers.now) 0 (sym c.is_empty.ensures ∙ c.if-not-is_empty.false)) in
    let some : c.in_ok-integers.integers.now ≢ [] = λ e. let same = ap (λ d. length d == 0) e in cc in
    integers_met c.args.payload.now c.args.at c.in_ok-integers.after c.args.before.now met c.in_ok-integers.integers none some
    c.in_ok-integers.ensures.field (search rules)
