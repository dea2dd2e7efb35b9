use Rattle.std.proofs.Common.{List, ℕ, ◌≤◌, refl, length, arith}
use Rattle.mvt_attrs.specs.FirstUses.{lent}
use Rattle.mvt_feature.specs.declared.feature.Feature.{Feature}
use Rattle.mvt_message.specs.declared.numbers.layer.TheConstants.{KEYS}
use Rattle.mvt_message.proofs.CopyingLemmas.{is_read, keys_are_from, payloads_room, keys_past, read_is, values_past, values_room}
use Rattle.mvt_message.proofs.layer_copying.layer_in.Goals as goal

pub end_of_used-keys_end-requires-clause-room : goal.end_of_used-keys_end-requires-clause-room
end_of_used-keys_end-requires-clause-room g c =
    let front = c.args.frame.front in
    let is = c.requires.frame.is_front in
    let room = payloads_room c.args.body.now front.keys_at KEYS front.values_at front.keys.items is.keys_within is.keys in
    rw c.deref.ensures.value (omega (arith, room))

pub end_of_used-values_end-requires-clause-room : goal.end_of_used-values_end-requires-clause-room
end_of_used-values_end-requires-clause-room g c =
    let front = c.args.frame.front in
    let is = c.requires.frame.is_front in
    let room = values_room c.args.body.now front.values_at front.end_at front.values.items is.keys.0 is.values in
    rw c.deref-2.ensures.value (omega (arith, room))

front_past : (features_at keys_at keys_end : ℕ) → features_at ≤ keys_at → keys_at ≤ keys_end → features_at ≤ keys_end
front_past features_at keys_at keys_end first second = omega (arith, first, second)

pub slice_bounds-result-count : goal.slice_bounds-result-count
slice_bounds-result-count g c =
    let front = c.args.frame.front in
    let is = c.requires.frame.is_front in
    front_past c.args.frame.features_at front.keys_at c.end_of_used-keys_end.result c.requires.frame.behind
    (keys_past front.keys_at front.values_at c.end_of_used-keys_end.result c.in_ok-used.used.0 front.keys.items
    (payloads_room c.args.body.now front.keys_at KEYS front.values_at front.keys.items is.keys_within is.keys)
    (rw c.deref.ensures.value at c.end_of_used-keys_end.ensures))

pub slice_bounds-result-start : goal.slice_bounds-result-start
slice_bounds-result-start g c =
    let front = c.args.frame.front in
    let is = c.requires.frame.is_front in
    front_past c.args.frame.features_at front.keys_at c.end_of_used-keys_end.result c.requires.frame.behind
    (keys_past front.keys_at front.values_at c.end_of_used-keys_end.result c.in_ok-used.used.0 front.keys.items
    (payloads_room c.args.body.now front.keys_at KEYS front.values_at front.keys.items is.keys_within is.keys)
    (rw c.deref.ensures.value at c.end_of_used-keys_end.ensures))

pub slice_bounds-result-count-2 : goal.slice_bounds-result-count-2
slice_bounds-result-count-2 g c =
    let front = c.args.frame.front in
    let is = c.requires.frame.is_front in
    values_past front.values_at front.end_at c.end_of_used-values_end.result c.in_ok-used.used.1 front.values.items
    (values_room c.args.body.now front.values_at front.end_at front.values.items is.keys.0 is.values)
    (rw c.deref-2.ensures.value at c.end_of_used-values_end.ensures)

pub slice_bounds-result-start-2 : goal.slice_bounds-result-start-2
slice_bounds-result-start-2 g c =
    let front = c.args.frame.front in
    let is = c.requires.frame.is_front in
    values_past front.values_at front.end_at c.end_of_used-values_end.result c.in_ok-used.used.1 front.values.items
    (values_room c.args.body.now front.values_at front.end_at front.values.items is.keys.0 is.values)
    (rw c.deref-2.ensures.value at c.end_of_used-values_end.ensures)

pub returns-clause-layer : goal.returns-clause-layer
returns-clause-layer g c = λ items has.
    let AreTold : List Feature → Type 0 = g.V.FeatureVisitor.has_features items c.judge_features.new.visitor in
    let body = c.args.body.now in
    let start = c.args.frame.features_at in
    let front = c.args.frame.front in
    let frame = c.requires.frame in
    let is = frame.is_front in
    let keys = lent front.keys.items in
    let used = c.in_ok-used.used in
    let from = keys_are_from body front.keys_at front.values_at front.keys.items keys is.keys refl is.texts in
    let apart = c.if-not-front.false in
    let told = c.in_ok-used.ensures.features items has in
    let read =
    is_read AreTold body start front.keys_at front.values_at front.end_at (length front.values.items) keys front.values.items used from
    is.values
    (is.keys_apart apart) (is.values_apart apart) refl told in (
      read_is AreTold body start front.keys_at front.values_at front.end_at
          c.end_of_used-keys_end.result c.end_of_used-values_end.result keys front.keys.items front.values.items used read
          (omega (arith, frame.behind, is.keys_within)) from refl is.values.0
          (rw c.deref.ensures.value at c.end_of_used-keys_end.ensures) (rw c.deref-2.ensures.value at c.end_of_used-values_end.ensures),
      refl,
      refl,
    )
