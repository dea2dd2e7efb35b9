use Rattle.std.proofs.Common.{◌≡◌, ◌≢◌, [], length, sym, ◌∙◌, rules}
use Rattle.std.proofs.lemmas.Bool.{eqb-true}
use Rattle.std.proofs.lemmas.List.{nil_from_length}
use Rattle.mvt_feature.proofs.OrderingLemmas.{tags_met}
use Rattle.mvt_feature.proofs.parts.with_tags.Goals as goal

pub returns-clause-met : goal.returns-clause-met
returns-clause-met c = λ met.
    let none : c.args.before.now.tags.now ≡ [] = nil_from_length c.args.before.now.tags.now
    (eqb-true (length c.args.before.now.tags.now) 0 (sym c.is_empty.ensures ∙ c.if-not-is_empty.false)) in
    let some : c.in_ok-tags.tags.now ≢ [] = λ e. cc in
    tags_met c.args.payload.now c.args.at c.in_ok-tags.after c.args.before.now met c.in_ok-tags.tags none some
    c.in_ok-tags.ensures.field (search rules)
