use Rattle.std.proofs.Common.{◌≡◌, ◌+◌, ◌∙◌, ◌++◌, ◌∷◌, [], sym, append-nil, append_assoc, slice_get, Some, ap, bytes_eq, refl, inl, inr, length, Contains, subst, arith}
use Rattle.std.proofs.lemmas.Result.{err_from_is_err_and}
use Rattle.mvt_base.specs.declared.TheConstants.{LIMIT}
use Rattle.mvt_attrs.specs.declared.value.Attribute.{Attribute}
use Rattle.mvt_attrs.specs.Values.{equal_values}
use Rattle.std.proofs.lemmas.Slice.Eq.{bytes_eq-Decides}
use Rattle.mvt_attrs.proofs.EqualityLemmas.{equal_values-Decides}
use Rattle.mvt_base.proofs.ResultLemmas.{on_err}
use Rattle.mvt_attrs.specs.Inner.Places.{IsPut}
use Rattle.mvt_attrs.proofs.PlacingLemmas.{pool_none, pool_more, pool_longer, names_more, names_none, pool_passes, keys_more, values_more, not_full_at, contains_at, reported_tags, not_longer, all_places, all_named, tags_left_at}
use Rattle.mvt_attrs.proofs.placing.append_tags.Goals as goal

pub loop-attribute-init : goal.loop-attribute-init
loop-attribute-init c = record {
  so_far = [];
  tags = sym (append-nil c.args.tags.now.items);
  names = names_none c.args.keys.now c.args.values.now;
  keys = pool_none bytes_eq bytes_eq-Decides (λ (a : Attribute). a.key) c.args.keys.now c.len.ensures.distinct;
  values = pool_none equal_values equal_values-Decides (λ (a : Attribute). a.value) c.args.values.now c.len-2.ensures.distinct;
}

pub returns-clause-tags : goal.returns-clause-tags
returns-clause-tags c =
    let all = c.loop-attribute.invariant in
    all.tags
    ∙ ap (λ ts. c.args.tags.now.items ++ ts)
    (all_places c.args.keys.now c.loop-attribute.keys c.args.values.now c.loop-attribute.values all.so_far
    c.args.attributes.now c.loop-attribute.attribute-index c.loop-attribute-test.false all.keys all.values all.names)

pub returns-clause-names : goal.returns-clause-names
returns-clause-names c =
    let all = c.loop-attribute.invariant in
    all_named c.args.keys.now c.loop-attribute.keys c.args.values.now c.loop-attribute.values all.so_far c.args.attributes.now
    c.loop-attribute.attribute-index c.loop-attribute-test.false all.keys all.values all.names

pub loop-attribute-preserved : goal.loop-attribute-preserved
loop-attribute-preserved c =
    let attributes = c.args.attributes.now in
    let i = c.loop-attribute.attribute-index in
    let a = c.attribute-item.result in
    let key : IsPut c.loop-attribute.keys c.place_key.new.keys a.key =
    record { kept = c.in_ok-key.ensures.kept; added = c.in_ok-key.ensures.added } in
    let value : IsPut c.loop-attribute.values c.place_value.new.values a.value =
    record { kept = c.in_ok-value.ensures.kept; added = c.in_ok-value.ensures.added } in
    let of_key : slice_get c.place_key.new.keys c.in_ok-key.key ≡ Some a.key = c.in_ok-key.ensures.index in
    record {
      so_far = c.loop-attribute.invariant.so_far ++ c.in_ok-key.key ∷ (c.in_ok-value.value ∷ []);
      tags =
          c.in_ok-push_pair.ensures.items
          ∙ ap (λ ts. ts ++ c.in_ok-key.key ∷ (c.in_ok-value.value ∷ [])) c.loop-attribute.invariant.tags
          ∙ append_assoc c.args.tags.now.items c.loop-attribute.invariant.so_far (c.in_ok-key.key ∷ (c.in_ok-value.value ∷ []));
      names =
          names_more c.loop-attribute.keys c.place_key.new.keys c.loop-attribute.values c.place_value.new.values
          c.loop-attribute.invariant.so_far attributes i a c.in_ok-key.key c.in_ok-value.value
          c.loop-attribute.invariant.names c.loop-attribute-test.true c.attribute-item.is
          (pool_longer bytes_eq bytes_eq-Decides (λ (b : Attribute). b.key) _ _ _ key)
          (pool_longer equal_values equal_values-Decides (λ (b : Attribute). b.value) _ _ _ value)
          of_key c.in_ok-value.ensures.index;
      keys =
          pool_more bytes_eq bytes_eq-Decides (λ (b : Attribute). b.key) c.args.keys.now c.loop-attribute.keys _ attributes i a
          _ c.loop-attribute.invariant.keys c.loop-attribute-test.true c.attribute-item.is refl key;
      values =
          pool_more equal_values equal_values-Decides (λ (b : Attribute). b.value) c.args.values.now c.loop-attribute.values _
          attributes i a _ c.loop-attribute.invariant.values c.loop-attribute-test.true c.attribute-item.is refl value;
    }

pub returns-in_err-key-clause-tags_left : goal.returns-in_err-key-clause-tags_left
returns-in_err-key-clause-tags_left c =
    tags_left_at c.from_residual.result c.args.tags.now.items c.loop-attribute.tags.items c.loop-attribute.invariant.so_far
    c.loop-attribute.invariant.tags

pub returns-in_err-value-clause-tags_left : goal.returns-in_err-value-clause-tags_left
returns-in_err-value-clause-tags_left c =
    tags_left_at c.from_residual-in_err-value.result c.args.tags.now.items c.loop-attribute.tags.items
    c.loop-attribute.invariant.so_far c.loop-attribute.invariant.tags

pub returns-in_err-push_pair-clause-tags_left : goal.returns-in_err-push_pair-clause-tags_left
returns-in_err-push_pair-clause-tags_left c =
    tags_left_at c.from_residual-in_err-push_pair.result c.args.tags.now.items c.push_pair.new.tags.items
    c.loop-attribute.invariant.so_far
    (c.in_err-push_pair.ensures.err ∙ c.loop-attribute.invariant.tags)

pub returns-in_err-key-clause-left : goal.returns-in_err-key-clause-left
returns-in_err-key-clause-left c =
    on_err c.from_residual.result (
      c.loop-attribute.attribute-index,
      record {
        within = omega arith;
        keys_are = inl (c.in_err-key.ensures.unchanged ∙ c.loop-attribute.invariant.keys);
        values_are = c.loop-attribute.invariant.values;
      },
    )

pub returns-in_err-key-clause-too_many : goal.returns-in_err-key-clause-too_many
returns-in_err-key-clause-too_many c =
    let p = err_from_is_err_and c.from_residual.result c.from_residual.ensures.1 in
    λ h. (let full = c.in_err-key.ensures.full.0 (let k = rw p.1 at h in let q = p.2 in cc) in
    inl (pool_passes bytes_eq bytes_eq-Decides (λ (b : Attribute). b.key) c.args.keys.now c.loop-attribute.keys
    c.args.attributes.now c.loop-attribute.attribute-index c.attribute-item.result _ LIMIT
    c.loop-attribute.invariant.keys c.loop-attribute-test.true c.attribute-item.is refl full.0 full.1))

pub returns-in_err-key-clause-memory : goal.returns-in_err-key-clause-memory
returns-in_err-key-clause-memory c =
    let p = err_from_is_err_and c.from_residual.result c.from_residual.ensures.1 in
    let all = c.loop-attribute.invariant in
    let stays = c.in_err-key.ensures.unchanged in
    λ h. (
      c.loop-attribute.attribute-index,
      record { within = omega arith; keys_are = inl (stays ∙ all.keys); values_are = inl all.values },
      reported_tags c.args.keys.now c.loop-attribute.keys c.place_key.new.keys c.args.values.now c.loop-attribute.values
          c.loop-attribute.values all.so_far c.args.tags.now.items c.loop-attribute.tags.items _
          all.keys all.values all.names (not_longer _ _ stays) (not_longer _ _ refl) all.tags,
      not_full_at c.args.attributes.now c.loop-attribute.attribute-index c.attribute-item.result _ c.place_key.new.keys
          c.loop-attribute.values c.attribute-item.is refl
          (λ full. (let k = rw p.1 at h in let q = p.2 in
          let other = c.in_err-key.ensures.full.1
          (subst (λ ks. (length ks ≡ LIMIT) × (Contains ks c.attribute-item.result.key → ⊥)) stays full) in cc))
          (λ there. (let found = c.in_err-key.ensures.present (subst (λ ks. Contains ks c.attribute-item.result.key) stays there) in cc)),
    )

pub returns-in_err-value-clause-left : goal.returns-in_err-value-clause-left
returns-in_err-value-clause-left c =
    let key : IsPut c.loop-attribute.keys c.place_key.new.keys c.attribute-item.result.key =
    record { kept = c.in_ok-key.ensures.kept; added = c.in_ok-key.ensures.added } in
    on_err c.from_residual-in_err-value.result (
      c.loop-attribute.attribute-index,
      record {
        within = omega arith;
        keys_are =
            inr
            (keys_more c.args.keys.now c.loop-attribute.keys _ c.args.attributes.now c.loop-attribute.attribute-index
            c.attribute-item.result _ c.loop-attribute.invariant.keys c.loop-attribute-test.true c.attribute-item.is refl key);
        values_are = c.in_err-value.ensures.unchanged ∙ c.loop-attribute.invariant.values;
      },
    )

pub returns-in_err-value-clause-too_many : goal.returns-in_err-value-clause-too_many
returns-in_err-value-clause-too_many c =
    let p = err_from_is_err_and c.from_residual-in_err-value.result c.from_residual-in_err-value.ensures.1 in
    λ h. (let full = c.in_err-value.ensures.full.0 (let k = rw p.1 at h in let q = p.2 in cc) in
    inr (pool_passes equal_values equal_values-Decides (λ (b : Attribute). b.value) c.args.values.now
    c.loop-attribute.values c.args.attributes.now c.loop-attribute.attribute-index c.attribute-item.result _ LIMIT
    c.loop-attribute.invariant.values c.loop-attribute-test.true c.attribute-item.is refl full.0 full.1))

pub returns-in_err-value-clause-memory : goal.returns-in_err-value-clause-memory
returns-in_err-value-clause-memory c =
    let p = err_from_is_err_and c.from_residual-in_err-value.result c.from_residual-in_err-value.ensures.1 in
    let all = c.loop-attribute.invariant in
    let a = c.attribute-item.result in
    let stays = c.in_err-value.ensures.unchanged in
    let key : IsPut c.loop-attribute.keys c.place_key.new.keys c.attribute-item.result.key =
    record { kept = c.in_ok-key.ensures.kept; added = c.in_ok-key.ensures.added } in
    λ h. (
      c.loop-attribute.attribute-index,
      record {
        within = omega arith;
        keys_are =
            inr
            (keys_more c.args.keys.now c.loop-attribute.keys _ c.args.attributes.now c.loop-attribute.attribute-index a _
            all.keys c.loop-attribute-test.true c.attribute-item.is refl key);
        values_are = inl (stays ∙ all.values);
      },
      reported_tags c.args.keys.now c.loop-attribute.keys c.place_key.new.keys c.args.values.now c.loop-attribute.values
          c.place_value.new.values all.so_far c.args.tags.now.items c.loop-attribute.tags.items _
          all.keys all.values all.names (pool_longer bytes_eq bytes_eq-Decides (λ (b : Attribute). b.key) _ _ _ key)
          (not_longer _ _ stays) all.tags,
      not_full_at c.args.attributes.now c.loop-attribute.attribute-index a _ c.place_key.new.keys
          c.place_value.new.values c.attribute-item.is refl
          (λ full. full.1 (contains_at c.place_key.new.keys c.in_ok-key.key c.attribute-item.result.key c.in_ok-key.ensures.index))
          (λ there full. (let k = rw p.1 at h in let q = p.2 in
          let other = c.in_err-value.ensures.full.1
          (subst (λ vs. (length vs ≡ LIMIT) × (Contains vs a.value → ⊥)) stays full) in cc)),
    )

pub returns-in_err-push_pair-clause-left : goal.returns-in_err-push_pair-clause-left
returns-in_err-push_pair-clause-left c =
    let a = c.attribute-item.result in
    let key : IsPut c.loop-attribute.keys c.place_key.new.keys c.attribute-item.result.key =
    record { kept = c.in_ok-key.ensures.kept; added = c.in_ok-key.ensures.added } in
    let value : IsPut c.loop-attribute.values c.place_value.new.values a.value =
    record { kept = c.in_ok-value.ensures.kept; added = c.in_ok-value.ensures.added } in
    on_err c.from_residual-in_err-push_pair.result (
      (c.loop-attribute.attribute-index + 1),
      record {
        within = omega arith;
        keys_are =
            inl
            (keys_more c.args.keys.now c.loop-attribute.keys _ c.args.attributes.now c.loop-attribute.attribute-index a _
            c.loop-attribute.invariant.keys c.loop-attribute-test.true c.attribute-item.is refl key);
        values_are =
            values_more c.args.values.now c.loop-attribute.values _ c.args.attributes.now c.loop-attribute.attribute-index a
            c.loop-attribute.invariant.values c.loop-attribute-test.true c.attribute-item.is value;
      },
    )

pub returns-in_err-push_pair-clause-memory : goal.returns-in_err-push_pair-clause-memory
returns-in_err-push_pair-clause-memory c =
    let all = c.loop-attribute.invariant in
    let a = c.attribute-item.result in
    let key : IsPut c.loop-attribute.keys c.place_key.new.keys c.attribute-item.result.key =
    record { kept = c.in_ok-key.ensures.kept; added = c.in_ok-key.ensures.added } in
    let value : IsPut c.loop-attribute.values c.place_value.new.values a.value =
    record { kept = c.in_ok-value.ensures.kept; added = c.in_ok-value.ensures.added } in
    λ h. (
      c.loop-attribute.attribute-index,
      record {
        within = omega arith;
        keys_are =
            inr
            (keys_more c.args.keys.now c.loop-attribute.keys _ c.args.attributes.now c.loop-attribute.attribute-index a _
            all.keys c.loop-attribute-test.true c.attribute-item.is refl key);
        values_are =
            inr
            (values_more c.args.values.now c.loop-attribute.values _ c.args.attributes.now c.loop-attribute.attribute-index a
            all.values c.loop-attribute-test.true c.attribute-item.is value);
      },
      reported_tags c.args.keys.now c.loop-attribute.keys c.place_key.new.keys c.args.values.now c.loop-attribute.values
          c.place_value.new.values all.so_far c.args.tags.now.items c.push_pair.new.tags.items _
          all.keys all.values all.names (pool_longer bytes_eq bytes_eq-Decides (λ (b : Attribute). b.key) _ _ _ key)
          (pool_longer equal_values equal_values-Decides (λ (b : Attribute). b.value) _ _ _ value)
          (c.in_err-push_pair.ensures.err ∙ all.tags),
      not_full_at c.args.attributes.now c.loop-attribute.attribute-index a _ c.place_key.new.keys
          c.place_value.new.values c.attribute-item.is refl
          (λ full. full.1 (contains_at c.place_key.new.keys c.in_ok-key.key c.attribute-item.result.key c.in_ok-key.ensures.index))
          (λ there full.
          full.1 (contains_at c.place_value.new.values c.in_ok-value.value a.value c.in_ok-value.ensures.index)),
    )
