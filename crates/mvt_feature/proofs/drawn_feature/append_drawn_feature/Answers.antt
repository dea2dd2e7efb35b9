use Rattle.std.proofs.Common.{◌≡◌, ◌++◌, refl, ap, ap₂, ◌∙◌}
use Rattle.std.proofs.lemmas.Result.{on_ok_weaker}
use Rattle.mvt_attrs.specs.TagPlaces.{tags_in}
use Rattle.mvt_attrs.specs.Using.{used_of}
use Rattle.mvt_wire.specs.Spelling.{spelled}
use Rattle.mvt_feature.specs.Canonical.{id_fields, tags_fields, drawing_fields}
use Rattle.mvt_feature.proofs.RewritingLemmas.{fields_written}
use Rattle.mvt_feature.proofs.drawn_feature.append_drawn_feature.Goals as goal

pub returns-clause-feature : goal.returns-clause-feature
returns-clause-feature c = λ keys held f uses id draws names.
    let used = c.in_ok-append_used.ensures.used keys held f.attributes uses names in
    let new = c.append_used.new.self in
    let places = tags_in (used_of new.keys) (used_of new.values) f.attributes in
    let tags : c.deref.result.now ≡ places =
    c.deref.ensures.value ∙ c.in_ok-append_used.ensures.tags keys held f.attributes uses names
    ∙ ap (λ l. l ++ places) c.clear.ensures.items in
    on_ok_weaker c.append_fields.result
    (λ is. fields_written f c.args.uses.now new c.args.out.now.items c.append_fields.new.out.items c.args.id c.deref.result.now
    f.geometry used id refl tags
    (is ∙ ap₂ (λ k i. c.args.out.now.items
    ++ spelled (id_fields c.args.id ++ (tags_fields c.deref.result.now ++ drawing_fields k i))) draws.same_kind draws.spelled))
    c.append_fields.ensures.ok
