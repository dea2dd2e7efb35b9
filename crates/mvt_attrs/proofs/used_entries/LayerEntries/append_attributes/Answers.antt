-- What `append_tags` says of the pools is said of what is used, since no key and no value was added.
use Rattle.std.proofs.Common.{◌≡◌, ◌⊎◌, ◌<◌, ℕ, List, [], ◌++◌, length, refl, take, OnErr, OnOk}
use Rattle.mvt_base.specs.declared.TheConstants.{LIMIT}
use Rattle.mvt_attrs.specs.Values.{Value}
use Rattle.mvt_attrs.specs.declared.used_entries.LayerEntries.{LayerEntries}
use Rattle.mvt_attrs.specs.Placed.{ArePlaced, AreReported, IsFullAt}
use Rattle.mvt_attrs.specs.Pools.{key_pool, value_pool}
use Rattle.mvt_attrs.specs.TagPlaces.{tags_in}
use Rattle.mvt_attrs.specs.Tags.{Names}
use Rattle.mvt_attrs.specs.Using.{HasNoneAdded, used_of}
use Rattle.mvt_attrs.proofs.AppendedLemmas.{apart_after, of_used, used_by}
use Rattle.mvt_attrs.proofs.UsesLemmas.{none_added, placed_again}
use Rattle.mvt_attrs.proofs.used_entries.LayerEntries.append_attributes.Goals as goal

abbrev after : goal.After-append_tags → LayerEntries
after c = record {
  keys = record c.args.self.now.keys { distinct = c.append_tags.new.keys };
  values = record c.args.self.now.values { distinct = c.append_tags.new.values };
  tags = c.args.self.now.tags;
  are_same = c.args.self.now.are_same;
}

seen : (c : goal.After-append_tags) → HasNoneAdded c.args.self.now
    → (P : List (List ℕ) → List (List ℕ) → List Value → List Value → Type 0)
    → P c.args.self.now.keys.distinct c.append_tags.new.keys c.args.self.now.values.distinct c.append_tags.new.values
    → P (used_of c.args.self.now.keys) (used_of (after c).keys) (used_of c.args.self.now.values) (used_of (after c).values)
seen c uses = of_used c.args.self.now (after c) uses refl refl refl refl

pub returns-clause-uses : goal.returns-clause-uses
returns-clause-uses c = λ uses.
    let e = c.append_tags.ensures in
    let apart = apart_after c.append_tags.result c.args.attributes.now c.args.self.now.keys.distinct c.append_tags.new.keys
    c.args.self.now.values.distinct c.append_tags.new.values e.keys e.values e.left in
    let (keys_placed, keys) = none_added c.args.self.now.keys uses.0 in
    let (values_placed, values) = none_added c.args.self.now.values uses.1 in (
      placed_again _ _ _ _ _ [] keys_placed
          (record { apart = apart.0; no_places = keys.no_places; no_marks = keys.no_marks; no_used = keys.no_used }),
      placed_again _ _ _ _ _ [] values_placed
          (record { apart = apart.1; no_places = values.no_places; no_marks = values.no_marks; no_used = values.no_used }),
    )

pub returns-clause-used : goal.returns-clause-used
returns-clause-used c = λ uses.
    let attributes = c.args.attributes.now in
    let e = c.append_tags.ensures in
    used_by c.append_tags.result attributes c.args.self.now (after c)
    (seen c uses (λ ks k vs v. OnOk c.append_tags.result (k ≡ key_pool ks attributes)) e.keys)
    (seen c uses (λ ks k vs v. OnOk c.append_tags.result (v ≡ value_pool vs attributes)) e.values)
    (seen c uses (λ ks k vs v. OnOk c.append_tags.result (Names k v (tags_in k v attributes) attributes)) e.names)

pub returns-clause-tags : goal.returns-clause-tags
returns-clause-tags c = λ uses.
    seen c uses
    (λ ks k vs v. OnOk c.append_tags.result (c.append_tags.new.tags.items ≡ c.args.out.now.items ++ tags_in k v c.args.attributes.now))
    c.append_tags.ensures.tags

pub returns-clause-kept : goal.returns-clause-kept
returns-clause-kept c = λ uses.
    seen c uses (λ ks k vs v. OnErr c.append_tags.result ((n : ℕ) × ArePlaced n c.args.attributes.now ks k vs v))
    c.append_tags.ensures.left

pub returns-clause-full : goal.returns-clause-full
returns-clause-full c = λ uses full.
    seen c uses (λ ks k vs v. (length k ≡ LIMIT) ⊎ (length v ≡ LIMIT)) (c.append_tags.ensures.full full)

pub returns-clause-too_many : goal.returns-clause-too_many
returns-clause-too_many c = λ uses full.
    let attributes = c.args.attributes.now in
    seen c uses (λ ks k vs v. (LIMIT < length (key_pool ks attributes)) ⊎ (LIMIT < length (value_pool vs attributes)))
    (c.append_tags.ensures.too_many full)

pub returns-clause-memory : goal.returns-clause-memory
returns-clause-memory c = λ uses memory.
    let attributes = c.args.attributes.now in
    seen c uses
    (λ ks k vs v. (n : ℕ) × AreReported n attributes ks k vs v
    × (c.append_tags.new.tags.items ≡ c.args.out.now.items ++ tags_in k v (take n attributes)) × ¬ (IsFullAt n attributes k v))
    (c.append_tags.ensures.memory memory)
