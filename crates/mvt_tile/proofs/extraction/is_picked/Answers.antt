use Rattle.std.proofs.Common.{string_bytes, arith}
use Rattle.mvt_tile.specs.Extraction.{is_named}
use Rattle.mvt_tile.proofs.ExtractionLemmas.{any_here, any_next, any_none}
use Rattle.mvt_tile.proofs.extraction.is_picked.Goals as goal

pub returns-then-has_name : goal.returns-then-has_name
returns-then-has_name c =
    any_here string_bytes
    (λ name. is_named name c.args.item.now) c.args.names.now c.loop-name.name-index c.name-item.result c.has_name.result
    c.as_str.result.now c.loop-name-test.true c.name-item.is c.has_name.ensures c.as_str.ensures.value c.if-has_name.true

pub loop-name-preserved : goal.loop-name-preserved
loop-name-preserved c =
    any_next string_bytes
    (λ name. is_named name c.args.item.now) c.args.names.now c.loop-name.name-index c.name-item.result c.has_name.result
    c.as_str.result.now c.loop-name-test.true c.name-item.is c.has_name.ensures c.as_str.ensures.value c.if-has_name.false
    c.loop-name.invariant

pub returns : goal.returns
returns c =
    any_none string_bytes (λ name. is_named name c.args.item.now) c.args.names.now c.loop-name.name-index
    (omega arith) c.loop-name.invariant
