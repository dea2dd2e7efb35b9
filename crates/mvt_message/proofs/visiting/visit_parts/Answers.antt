use Rattle.std.proofs.Common.{◌≡◌, [], None, ap, arith, refl, sym, subst, ◌∙◌}
use Rattle.std.specs.Option.{option_copied}
use Rattle.std.proofs.lemmas.Result.{err_from_is_err_and}
use Rattle.mvt_attrs.specs.FirstUses.{lent}
use Rattle.mvt_wire.specs.Split.{split}
use Rattle.mvt_feature.specs.Selection.{only}
use Rattle.mvt_message.specs.declared.numbers.layer.TheConstants.{VALUES}
use Rattle.mvt_message.specs.declared.item.Layer.{Layer as ALayer}
use Rattle.mvt_message.specs.LayerFields.{name_in, payloads_in, values_in}
use Rattle.mvt_message.proofs.SaidLemmas.{values_said}
use Rattle.mvt_message.proofs.ReadLemmas.{name_reported, front_clean, features_reported, layer_ok, layer_read}
use Rattle.mvt_message.proofs.visiting.visit_parts.Goals as goal

pub returns-in-None-clause-fault : goal.returns-in-None-clause-fault
returns-in-None-clause-fault g c =
    let fields = (split c.args.payload.now).fields in
    let head = c.requires.front.1.0 in
    let none : None ≡ name_in fields = ap option_copied (sym c.in-None.is) ∙ head.name_is in
    rw c.fault_at.ensures (name_reported c.args.payload_at c.args.tag_at fields head.clean none)

pub visit_features-requires : goal.visit_features-requires
visit_features-requires g c =
    let (items, front) = c.requires.front in
    let values = front.1 in
    λ k. (
      (refl, tt),
      (
        omega (arith, c.requires.small),
        (
          c.requires.fits,
          (
            c.requires.whole,
            (
              front.0.features_are,
              (
                items,
                values.values,
                sym values.counted,
                subst (λ ks. g.V.LayerVisitor.has_features items ks values.values c.visit_keys.new.self [] [])
                    (ap lent (c.deref.ensures.value ∙ sym c.deref-2.ensures.value))
                    (c.in_ok-visit_keys.ensures items values.values values.has),
              ),
            ),
          ),
        ),
      ),
    )

pub returns-in_err-visit_features-clause-fault : goal.returns-in_err-visit_features-clause-fault
returns-in_err-visit_features-clause-fault g c =
    let p = err_from_is_err_and c.from_residual-in_err-visit_features.result c.from_residual-in_err-visit_features.ensures.1 in
    let (items, front) = c.requires.front in
    let head = front.0 in
    let values = front.1 in
    let clean = front_clean values.values head (ap option_copied c.in-Some.is) (ap lent c.deref-2.ensures.value) values.so_far in
    let has =
    subst (λ ks. g.V.LayerVisitor.has_features items ks values.values c.visit_keys.new.self [] [])
    (ap lent (c.deref.ensures.value ∙ sym c.deref-2.ensures.value)) (c.in_ok-visit_keys.ensures items values.values values.has) in
    rw (p.1, p.2) (features_reported c.args.tag_at _ clean
    (c.in_err-visit_features.ensures.err items values.values (sym values.counted) has))

pub returns-clause-ok : goal.returns-clause-ok
returns-clause-ok g c =
    let (items, front) = c.requires.front in
    let head = front.0 in
    let values = front.1 in
    let clean = front_clean values.values head (ap option_copied c.in-Some.is) (ap lent c.deref-2.ensures.value) values.so_far in
    let has =
    subst (λ ks. g.V.LayerVisitor.has_features items ks values.values c.visit_keys.new.self [] [])
    (ap lent (c.deref.ensures.value ∙ sym c.deref-2.ensures.value)) (c.in_ok-visit_keys.ensures items values.values values.has) in
    layer_ok c.args.tag_at clean (c.in_ok-visit_features.ensures.ok items values.values (sym values.counted) has)

pub returns-clause-layer : goal.returns-clause-layer
returns-clause-layer g c = λ given front.
    let fields = (split c.args.payload.now).fields in
    let head = front.0 in
    let values = front.1 in
    let clean = front_clean values.values head (ap option_copied c.in-Some.is) (ap lent c.deref-2.ensures.value) values.so_far in
    let has =
    subst (λ ks. g.V.LayerVisitor.has_features given ks values.values c.visit_keys.new.self [] [])
    (ap lent (c.deref.ensures.value ∙ sym c.deref-2.ensures.value)) (c.in_ok-visit_keys.ensures given values.values values.has) in
    let features = c.in_ok-visit_features.ensures.features given values.values (sym values.counted) has in
    let layer : ALayer = record { name = c.in-Some.name.now; extent = c.args.front.header.extent; features = features.0 } in
    let same : values.values ≡ values_in fields = sym (values_said (only VALUES fields) values.values clean.values_are) in
    let told =
    subst (λ ks. g.V.LayerVisitor.has_features given ks (values_in fields) c.visit_features.new.visitor (payloads_in fields) features.0)
    clean.keys_are
    (subst (λ vs. g.V.LayerVisitor.has_features given (lent c.deref-2.result.now) vs c.visit_features.new.visitor (payloads_in fields)
    features.0) same features.2) in
    (layer, layer_read layer clean head.extent_is features.1, (refl, refl, told))
