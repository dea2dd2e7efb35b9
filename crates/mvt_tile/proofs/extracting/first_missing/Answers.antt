use Rattle.std.proofs.Common.{not, true, false, bytes_eq, string_bytes, ◌∙◌}
use Rattle.std.specs.List.{list_any}
use Rattle.mvt_tile.proofs.ExtractionLemmas.{missing_here, missing_next}
use Rattle.mvt_tile.proofs.WantedLemmas.{not_held}
use Rattle.mvt_tile.proofs.extracting.first_missing.Goals as goal

pub returns-then-not-contains : goal.returns-then-not-contains
returns-then-not-contains c =
    let name = c.index-names-index in
    let held = c.contains-in-loop-index in
    missing_here string_bytes
    (λ n. not (list_any (bytes_eq n) c.args.there.now)) c.args.names.now c.loop-index.index name.result c.loop-index-test.true name.is
    c.loop-index.invariant
    (not_held held.result false (string_bytes name.result) c.in_ok-from_str.field-0 c.args.there.now held.ensures
    (c.in_ok-from_str.ensures.same ∙ c.as_str.ensures.value) c.if-not-contains.true)

pub loop-index-preserved : goal.loop-index-preserved
loop-index-preserved c =
    let name = c.index-names-index in
    let held = c.contains-in-loop-index in
    missing_next string_bytes
    (λ n. not (list_any (bytes_eq n) c.args.there.now)) c.args.names.now c.loop-index.index name.result c.loop-index-test.true name.is
    c.loop-index.invariant
    (not_held held.result true (string_bytes name.result) c.in_ok-from_str.field-0 c.args.there.now held.ensures
    (c.in_ok-from_str.ensures.same ∙ c.as_str.ensures.value) c.if-not-contains.false)
