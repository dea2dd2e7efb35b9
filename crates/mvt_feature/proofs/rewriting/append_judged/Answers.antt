use Rattle.std.proofs.Common.{◌++◌, ap, ◌∙◌}
use Rattle.std.proofs.lemmas.Result.{on_ok_weaker}
use Rattle.mvt_wire.specs.Spelling.{spelled}
use Rattle.mvt_feature.specs.Canonical.{id_fields, tags_fields, drawing_fields}
use Rattle.mvt_feature.proofs.RewritingLemmas.{parts_written}
use Rattle.mvt_feature.proofs.rewriting.append_judged.Goals as goal

pub returns-clause-rewritten : goal.returns-clause-rewritten
returns-clause-rewritten c = λ keys held f uses are.
    let tags = c.deref.result.now in
    on_ok_weaker c.append_spelled.result
    (λ grown. parts_written keys held c.args.known.now c.args.scratch.now f c.args.uses.now c.use_tags.new.uses c.args.out.now.items
    c.append_spelled.new.out.items tags are (c.in_ok-use_tags.ensures.used keys held f.attributes uses are.tags.named)
    (c.deref.ensures.value ∙ c.in_ok-use_tags.ensures.tags keys held f.attributes uses are.tags.named)
    (grown ∙ ap (λ i. c.args.out.now.items
    ++ spelled (id_fields c.args.known.now.id ++ (tags_fields tags ++ drawing_fields c.args.known.now.kind i)))
    (c.deref-2.ensures.value ∙ c.in_ok-use_tags.ensures.integers)))
    c.append_spelled.ensures.ok

pub returns-clause-uses : goal.returns-clause-uses
returns-clause-uses c = λ keys held f uses are.
    on_ok_weaker c.append_spelled.result (λ _. c.in_ok-use_tags.ensures.uses keys held f.attributes uses are.tags.named)
    c.append_spelled.ensures.ok
