use Rattle.std.proofs.Common.{◌≡◌, ◌++◌, [], length, ap, ap₂, refl, sym, subst, ◌∙◌, append-nil}
use Rattle.std.proofs.lemmas.Result.{err_from_is_err_and}
use Rattle.mvt_base.proofs.ResultLemmas.{on_err}
use Rattle.mvt_attrs.specs.TagPlaces.{tags_in}
use Rattle.mvt_attrs.specs.Using.{AreToldUpTo, AreUsedUpTo, IsUsedBy, IsUsedUpAt, used_of}
use Rattle.mvt_geometry.specs.Drawing.{drawn}
use Rattle.mvt_wire.specs.Spelling.{spelled}
use Rattle.mvt_feature.specs.Canonical.{id_fields, tags_fields, drawing_fields}
use Rattle.mvt_feature.proofs.RewritingLemmas.{fields_written}
use Rattle.mvt_feature.proofs.WritingLemmas.{all_told, all_used, none_left}
use Rattle.mvt_feature.proofs.writing.append_feature.Goals as goal

pub returns-clause-feature : goal.returns-clause-feature
returns-clause-feature c = λ uses.
    let f = c.args.feature.now in
    let old = c.args.uses.now in
    let new = c.append_attributes.new.self in
    let used = subst (λ as'. IsUsedBy as' old new) c.as_slice.ensures (c.in_ok-append_attributes.ensures.used uses) in
    let places = tags_in (used_of new.keys) (used_of new.values) f.attributes in
    let tags : c.deref-2.result.now ≡ places =
    c.deref-2.ensures.value ∙ c.in_ok-append_attributes.ensures.tags uses
    ∙ ap₂ (λ l as'. l ++ tags_in (used_of new.keys) (used_of new.values) as') c.clear.ensures.items c.as_slice.ensures in
    let integers : c.append_geometry.new.integers ≡ drawn f.geometry =
    c.in_ok-append_geometry.ensures.integers ∙ ap (λ l. l ++ drawn f.geometry) c.clear-2.ensures in
    fields_written f old new c.args.out.now.items c.append_fields.new.out.items f.id c.deref-2.result.now
    f.geometry used refl refl tags
    (c.in_ok-append_fields.ensures.ok ∙ ap₂ (λ k i. c.args.out.now.items
    ++ spelled (id_fields f.id ++ (tags_fields c.deref-2.result.now ++ drawing_fields k i))) c.kind_of.ensures integers)

pub returns-in_err-append_geometry-clause-left : goal.returns-in_err-append_geometry-clause-left
returns-in_err-append_geometry-clause-left c =
    on_err c.from_residual-in_err-append_geometry.result ([], sym (append-nil c.args.out.now.items))

pub returns-in_err-append_attributes-clause-kept : goal.returns-in_err-append_attributes-clause-kept
returns-in_err-append_attributes-clause-kept c = λ uses.
    let kept = c.in_err-append_attributes.ensures.kept uses in
    on_err c.from_residual.result
    (kept.0, subst (λ as'. AreUsedUpTo kept.0 as' c.args.uses.now c.append_attributes.new.self) c.as_slice.ensures kept.1)

pub returns-in_err-append_attributes-clause-memory : goal.returns-in_err-append_attributes-clause-memory
returns-in_err-append_attributes-clause-memory c = λ uses h.
    let p = err_from_is_err_and c.from_residual.result c.from_residual.ensures.1 in
    let m = c.in_err-append_attributes.ensures.memory uses (let k = rw p.1 at h in let q = p.2 in cc) in (
      m.0,
      subst (λ as'. AreToldUpTo m.0 as' c.args.uses.now c.append_attributes.new.self) c.as_slice.ensures m.1,
      subst (λ as'. IsUsedUpAt m.0 as' c.append_attributes.new.self → ⊥) c.as_slice.ensures m.3,
    )

pub returns-in_err-append_geometry-clause-kept : goal.returns-in_err-append_geometry-clause-kept
returns-in_err-append_geometry-clause-kept c = λ uses.
    on_err c.from_residual-in_err-append_geometry.result (
      length c.args.feature.now.attributes,
      all_used c.args.feature.now.attributes _ c.as_slice.ensures c.args.uses.now c.append_attributes.new.self
          (c.in_ok-append_attributes.ensures.used uses),
    )

pub returns-in_err-append_geometry-clause-memory : goal.returns-in_err-append_geometry-clause-memory
returns-in_err-append_geometry-clause-memory c = λ uses h. (
  length c.args.feature.now.attributes,
  all_told c.args.feature.now.attributes _ c.as_slice.ensures c.args.uses.now c.append_attributes.new.self
      (c.in_ok-append_attributes.ensures.used uses),
  none_left c.args.feature.now.attributes _ c.as_slice.ensures c.args.uses.now c.append_attributes.new.self,
)

pub returns-in_err-append_fields-clause-kept : goal.returns-in_err-append_fields-clause-kept
returns-in_err-append_fields-clause-kept c = λ uses.
    on_err c.from_residual-in_err-append_fields.result (
      length c.args.feature.now.attributes,
      all_used c.args.feature.now.attributes _ c.as_slice.ensures c.args.uses.now c.append_attributes.new.self
          (c.in_ok-append_attributes.ensures.used uses),
    )

pub returns-in_err-append_fields-clause-memory : goal.returns-in_err-append_fields-clause-memory
returns-in_err-append_fields-clause-memory c = λ uses h. (
  length c.args.feature.now.attributes,
  all_told c.args.feature.now.attributes _ c.as_slice.ensures c.args.uses.now c.append_attributes.new.self
      (c.in_ok-append_attributes.ensures.used uses),
  none_left c.args.feature.now.attributes _ c.as_slice.ensures c.args.uses.now c.append_attributes.new.self,
)
