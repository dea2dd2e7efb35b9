use Rattle.std.proofs.Common.{◌≡◌, [], ◌∷◌, ◌++◌, get_or, sym, ap, subst, ◌∙◌, append_assoc, append-nil}
use Rattle.std.proofs.lemmas.List.{take_rest}
use Rattle.std.proofs.lemmas.Option.{slice_get_within}
use Rattle.mvt_base.specs.Related.{AreRelated}
use Rattle.mvt_attrs.specs.Tags.{Resolved, NamesOne}
use Rattle.mvt_attrs.specs.TagRules.{pairs_of}
use Rattle.mvt_attrs.proofs.JudgingLemmas.{named_front, named_none, here_is}
use Rattle.mvt_attrs.proofs.ResolvedLemmas.{there_law, related_from_names}
use Rattle.mvt_attrs.proofs.resolving.attributes_of.Goals as goal

pub loop-rest-init : goal.loop-rest-init
loop-rest-init c =
    let all = there_law c.args.texts.now c.args.values.now c.args.tags.now c.requires in (
      all.0,
      related_from_names c.args.texts.now c.args.values.now c.args.tags.now all.0 all.1.named,
      subst (λ xs. Resolved c.args.texts.now c.args.values.now c.args.tags.now (xs ++ all.0)) (sym c.in_ok-attributes.ensures.items) all.1,
    )

pub bounds-texts-key : goal.bounds-texts-key
bounds-texts-key c =
    let front =
    named_front c.args.texts.now c.args.values.now c.loop-rest.rest.now c.loop-rest.invariant.0 c.in-len2-up.len_at_least
    c.loop-rest.invariant.1 in
    slice_get_within c.args.texts.now (get_or c.loop-rest.rest.now 0 0) _ front.3.0

pub bounds-values-value : goal.bounds-values-value
bounds-values-value c =
    let front =
    named_front c.args.texts.now c.args.values.now c.loop-rest.rest.now c.loop-rest.invariant.0 c.in-len2-up.len_at_least
    c.loop-rest.invariant.1 in
    slice_get_within c.args.values.now (get_or c.loop-rest.rest.now 1 0) _ front.3.1

pub loop-rest-preserved : goal.loop-rest-preserved
loop-rest-preserved c =
    let texts = c.args.texts.now in
    let values = c.args.values.now in
    let tags = c.args.tags.now in
    let rest = c.loop-rest.rest.now in
    let done = c.loop-rest.attributes.items in
    let front = named_front texts values rest c.loop-rest.invariant.0 c.in-len2-up.len_at_least c.loop-rest.invariant.1 in
    let a = front.0 in
    let key : c.in_ok-copy.field-0 ≡ a.key =
    c.in_ok-copy.ensures.same ∙ here_is texts (get_or rest 0 0) _ a.key c.index-texts-key.is front.3.0 in
    let value : c.in_ok-copy-2.field-0 ≡ a.value =
    c.in_ok-copy-2.ensures.same ∙ here_is values (get_or rest 1 0) _ a.value c.index-values-value.is front.3.1 in
    let pushed : c.push-in-len2-up.new.self.items ≡ done ++ a ∷ [] =
    c.in_ok-push.ensures.items ∙ (λ j. done ++ record { key = key j; value = value j } ∷ []) in
    let all : done ++ c.loop-rest.invariant.0 ≡ (done ++ a ∷ []) ++ front.1 =
    ap (λ xs. done ++ xs) front.2 ∙ sym (append_assoc done (a ∷ []) front.1) in (
      front.1,
      subst (λ left. AreRelated (NamesOne texts values) (pairs_of left) front.1) (sym (take_rest rest 2)) front.4,
      subst (λ xs. Resolved texts values tags (xs ++ front.1)) (sym pushed)
          (subst (Resolved texts values tags) all c.loop-rest.invariant.2),
    )

pub returns : goal.returns
returns c =
    let none =
    named_none c.args.texts.now c.args.values.now c.loop-rest.rest.now c.loop-rest.invariant.0 c.in_default.len_below
    c.loop-rest.invariant.1 in
    subst (Resolved c.args.texts.now c.args.values.now c.args.tags.now)
    (ap (λ xs. c.loop-rest.attributes.items ++ xs) none ∙ append-nil c.loop-rest.attributes.items) c.loop-rest.invariant.2
