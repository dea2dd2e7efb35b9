use Rattle.std.proofs.Common.{◌++◌, ◌∷◌, [], ap, ◌∙◌}
use Rattle.std.proofs.lemmas.Result.{on_ok_weaker}
use Rattle.mvt_wire.specs.Field.{bytes}
use Rattle.mvt_wire.specs.Spelling.{spelled}
use Rattle.mvt_feature.specs.declared.numbers.feature.TheConstants.{GEOMETRY}
use Rattle.mvt_feature.specs.Canonical.{plain, id_fields, type_fields}
use Rattle.mvt_feature.proofs.CanonicalLemmas.{tags_packed}
use Rattle.mvt_feature.proofs.rewriting.append_usual.Goals as goal

pub returns-then-is_same-clause-ok : goal.returns-then-is_same-clause-ok
returns-then-is_same-clause-ok c = λ same.
    let parts = c.args.parts.now in
    on_ok_weaker c.append_parts.result
    (λ grown. grown ∙ ap (λ ts. c.args.out.now.items ++ spelled (id_fields parts.id
    ++ (ts ++ (type_fields parts.kind ++ plain GEOMETRY (bytes parts.integers.now) ∷ []))))
    (tags_packed c.args.tags.now parts.tags.now (same c.if-is_same.true)))
    c.append_parts.ensures.ok
