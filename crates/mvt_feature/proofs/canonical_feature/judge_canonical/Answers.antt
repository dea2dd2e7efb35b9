use Rattle.std.proofs.Common.{[]}
use Rattle.std.proofs.lemmas.Result.{IfOk-weaker}
use Rattle.mvt_geometry.specs.Visiting.{HasDrawn}
use Rattle.mvt_feature.proofs.CopyingPartsLemmas.{parts_in_place}
use Rattle.mvt_feature.proofs.canonical_feature.judge_canonical.Goals as goal

pub returns-in-None-clause-told : goal.returns-in-None-clause-told
returns-in-None-clause-told g c = λ _. ([], [], g.met.V.GeometryVisitor.begins c.args.visitor.now)

pub returns-in-Some-clause-found : goal.returns-in-Some-clause-found
returns-in-Some-clause-found g c =
    IfOk-weaker c.judge_parts.result _ _
    (λ known found held count.
    parts_in_place (HasDrawn g.V.GeometryVisitor.has_parts g.V.GeometryVisitor.has_integers c.args.visitor.now c.judge_parts.new.visitor)
    c.args.payload.now c.in-Some.parts c.args.keys.now held c.args.used known c.in-Some.ensures.parts (found held count))
    c.judge_parts.ensures.found
