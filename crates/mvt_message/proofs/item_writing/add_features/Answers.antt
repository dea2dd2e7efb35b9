use Rattle.std.proofs.Common.{[], Err, ap, subst, sym, take}
use Rattle.std.proofs.lemmas.List.{take_all}
use Rattle.mvt_base.specs.declared.TheConstants.{LIMIT}
use Rattle.mvt_base.proofs.ListLemmas.{front_more}
use Rattle.mvt_message.specs.Rewriting.{HasWrittenUpTo}
use Rattle.mvt_message.proofs.PutLemmas.{exit_is, features_full, pool_full}
use Rattle.mvt_message.proofs.RewriteLemmas.{nothing_written}
use Rattle.mvt_message.proofs.item_writing.add_features.Goals as goal

pub loop-feature-init : goal.loop-feature-init
loop-feature-init c = nothing_written c.args.writer.now c.requires.nothing

pub loop-feature-preserved : goal.loop-feature-preserved
loop-feature-preserved c =
    let i = c.loop-feature.feature-index in
    let features = c.args.features.now in
    subst (HasWrittenUpTo LIMIT [] [] c.add.new.self)
    (sym (front_more features i c.feature-item.result c.loop-feature-test.true c.feature-item.is))
    (c.in_ok-add.ensures.added (take i features) c.loop-feature.invariant)

pub returns-in_err-add-clause-too_large : goal.returns-in_err-add-clause-too_large
returns-in_err-add-clause-too_large c = λ h.
    let full = pool_full _ (exit_is c.from_residual-in_err-add.result c.from_residual-in_err-add.ensures.1 h) in
    let many = c.in_err-add.ensures.too_many (take c.loop-feature.feature-index c.args.features.now) c.loop-feature.invariant
    (ap Err full) in
    features_full c.args.features.now c.loop-feature.feature-index c.feature-item.result LIMIT c.loop-feature-test.true c.feature-item.is
    many

pub returns-clause-added : goal.returns-clause-added
returns-clause-added c =
    subst (HasWrittenUpTo LIMIT [] [] c.loop-feature.writer)
    (take_all c.loop-feature.feature-index c.args.features.now c.loop-feature-test.false) c.loop-feature.invariant
