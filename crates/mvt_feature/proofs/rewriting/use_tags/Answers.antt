use Rattle.std.proofs.Common.{◌++◌, ap, subst, sym, ◌∙◌}
use Rattle.std.proofs.lemmas.Result.{on_ok_weaker}
use Rattle.mvt_attrs.specs.Tags.{Names}
use Rattle.mvt_attrs.specs.TagPlaces.{tags_in}
use Rattle.mvt_attrs.specs.Using.{used_of}
use Rattle.mvt_feature.proofs.rewriting.use_tags.Goals as goal

pub returns-clause-uses : goal.returns-clause-uses
returns-clause-uses c = λ keys held attributes uses names.
    c.append_used.ensures.uses keys held attributes uses
    (subst (λ ts. Names keys held ts attributes) (sym c.deref.ensures.value) names)

pub returns-clause-used : goal.returns-clause-used
returns-clause-used c = λ keys held attributes uses names.
    c.append_used.ensures.used keys held attributes uses
    (subst (λ ts. Names keys held ts attributes) (sym c.deref.ensures.value) names)

pub returns-clause-tags : goal.returns-clause-tags
returns-clause-tags c = λ keys held attributes uses names.
    let new = c.append_used.new.self in
    on_ok_weaker c.append_used.result
    (λ grown. grown ∙ ap (λ l. l ++ tags_in (used_of new.keys) (used_of new.values) attributes)
    (c.reserve.ensures.items ∙ c.clear.ensures.items))
    (c.append_used.ensures.tags keys held attributes uses
    (subst (λ ts. Names keys held ts attributes) (sym c.deref.ensures.value) names))
