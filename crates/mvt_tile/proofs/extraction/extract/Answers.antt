use Rattle.std.proofs.Common.{rules, map, string_bytes, ◌∙◌}
use Rattle.std.specs.List.{list_any}
use Rattle.std.proofs.lemmas.Result.{err_from_is_err_and}
use Rattle.mvt_tile.specs.Extraction.{is_named}
use Rattle.mvt_tile.proofs.ExtractionLemmas.{picked_more}
use Rattle.mvt_tile.proofs.PickLemmas.{kept_valid}
use Rattle.mvt_tile.proofs.extraction.extract.Goals as goal

pub returns-in_err-add_picked-clause-missing : goal.returns-in_err-add_picked-clause-missing
returns-in_err-add_picked-clause-missing c =
    let p = err_from_is_err_and c.from_residual.result c.from_residual.ensures.1 in
    rw (p.1, p.2) (search rules)

pub loop-item-preserved : goal.loop-item-preserved
loop-item-preserved c =
    picked_more
    (λ item. list_any (λ name. is_named name item) (map string_bytes c.args.names.now)) _ c.loop-item.item-index c.item-item.result _ _
    c.loop-item-test.true c.item-item.is c.loop-item.invariant c.in_ok-add_picked.ensures

pub returns-clause-valid : goal.returns-clause-valid
returns-clause-valid c =
    kept_valid c.args.tile.now
    (map string_bytes c.args.names.now) c.as_slice-items.result.now c.new.result c.loop-item.item-index c.as_slice-items.ensures
    c.loop-item-test.false
    (c.new.ensures ∙ c.loop-item.invariant)
