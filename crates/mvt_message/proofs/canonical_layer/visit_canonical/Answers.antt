use Rattle.std.proofs.Common.{ℕ, ap, arith, length-append}
use Rattle.mvt_message.specs.Copying.{copied_core}
use Rattle.mvt_message.proofs.CopyingLemmas.{canonical_is}
use Rattle.mvt_message.proofs.canonical_layer.visit_canonical.Goals as goal

pub returns : goal.returns
returns g c = λ items has.
    let layer = c.in_ok-layer.layer in
    let frame = c.in_ok-frame.frame in
    let is = c.in_ok-frame.ensures.frame in
    let place = c.in_ok-frame.ensures.place in
    let (core, name, extent) = c.in_ok-layer.ensures.layer items has in
    let size = length-append layer.front.now layer.values.now in
    let start = ap (λ (p : ℕ × ℕ). p.0) c.bounds_of-features_at.ensures in
    let end = ap (λ (p : ℕ × ℕ). p.1) c.bounds_of-features_at.ensures in
    rw name
    (canonical_is (g.V.FeatureVisitor.has_features items c.layer_in.new.visitor) c.args.payload.now frame.name.now frame.extent
    frame.features_at frame.front.end_at (copied_core layer) c.requires is.around core place.0 place.1
    (omega (arith, is.behind, is.is_front.keys_within)) is.is_front.values.0
    (omega (arith, size, start, end, c.if-features_at-layer.false)))
