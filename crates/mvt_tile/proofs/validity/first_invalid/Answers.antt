use Rattle.std.proofs.Common.{◌≡◌, ◌+◌, true, take, refl, sym, subst, arith}
use Rattle.std.specs.List.{AllByRecursion, flat_map}
use Rattle.std.proofs.lemmas.Option.{slice_get_read}
use Rattle.mvt_base.proofs.ListLemmas.{front_more}
use Rattle.mvt_message.specs.Items.{names_in}
use Rattle.mvt_message.specs.ValidItems.{ValidItem}
use Rattle.mvt_tile.specs.TileRules.{repeats}
use Rattle.mvt_tile.specs.Validity.{IsFirstInvalid}
use Rattle.mvt_tile_value.specs.Tiles.{HasDistinctNames}
use Rattle.mvt_tile.proofs.NamedLemmas.{kept_all, kept_more, kept_named, name_new, name_there}
use Rattle.mvt_tile.proofs.validity.first_invalid.Goals as goal

pub returns-then-not-branch-2 : goal.returns-then-not-branch-2
returns-then-not-branch-2 c =
    let items = c.as_slice-items.result.now in
    let i = c.loop-index.index in
    let item = c.index-items-index.result in
    let are = kept_named _ c.loop-index.names (take i items) c.loop-index.invariant refl in
    let repeated : repeats (flat_map names_in (take i items)) (names_in item) ≡ true =
    rw (← c.in_ok-name_of.ensures) (name_there _ _ _ (take i items) _ are c.in_ok-add.ensures.new c.if-not-branch-2.true) in
    subst (λ all. IsFirstInvalid all i) c.as_slice-items.ensures (record {
      item = item;
      there = slice_get_read items _ i item refl c.loop-index-test.true c.index-items-index.is;
      valid = c.loop-index.invariant.valid;
      distinct = c.loop-index.invariant.distinct;
      wrong = λ _. repeated;
    })

pub loop-index-preserved : goal.loop-index-preserved
loop-index-preserved c =
    let items = c.as_slice-items.result.now in
    let i = c.loop-index.index in
    let item = c.index-items-index.result in
    let are = kept_named _ c.loop-index.names (take i items) c.loop-index.invariant refl in
    let is_new = c.if-not-branch-2.false in
    kept_more _ _ _ (take i items) (take (i + 1) items) item c.loop-index.invariant (c.in_ok-validate_item.ensures.0 c.if-not-branch.false)
    (front_more items i item c.loop-index-test.true c.index-items-index.is)
    (name_new _ _ _ (take i items) _ are c.in_ok-add.ensures.new _ item (sym c.in_ok-name_of.ensures) is_new
    (c.in_ok-add.ensures.named is_new))

pub returns : goal.returns
returns c =
    let kept = kept_all c.loop-index.names c.as_slice-items.result.now c.loop-index.index (omega arith) c.loop-index.invariant in
    record {
      items = subst (AllByRecursion ValidItem) c.as_slice-items.ensures kept.valid;
      names = subst HasDistinctNames c.as_slice-items.ensures kept.distinct;
    }
