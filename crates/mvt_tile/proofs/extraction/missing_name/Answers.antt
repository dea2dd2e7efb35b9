use Rattle.std.proofs.Common.{string_bytes, not, true, false}
use Rattle.std.specs.List.{list_any}
use Rattle.mvt_tile.specs.Extraction.{is_named}
use Rattle.mvt_tile.proofs.ExtractionLemmas.{missing_here, missing_next, not_named}
use Rattle.mvt_tile.proofs.extraction.missing_name.Goals as goal

pub returns-then-not-has_layer : goal.returns-then-not-has_layer
returns-then-not-has_layer c =
    missing_here string_bytes
    (λ name. not (list_any (is_named name) c.args.items.now)) c.args.names.now c.loop-index.index c.index-names-index.result
    c.loop-index-test.true c.index-names-index.is c.loop-index.invariant
    (not_named c.has_layer.result false
    (string_bytes c.index-names-index.result) c.as_str.result.now c.args.items.now c.has_layer.ensures c.as_str.ensures.value
    c.if-not-has_layer.true)

pub loop-index-preserved : goal.loop-index-preserved
loop-index-preserved c =
    missing_next string_bytes
    (λ name. not (list_any (is_named name) c.args.items.now)) c.args.names.now c.loop-index.index c.index-names-index.result
    c.loop-index-test.true c.index-names-index.is c.loop-index.invariant
    (not_named c.has_layer.result true
    (string_bytes c.index-names-index.result) c.as_str.result.now c.args.items.now c.has_layer.ensures c.as_str.ensures.value
    c.if-not-has_layer.false)
