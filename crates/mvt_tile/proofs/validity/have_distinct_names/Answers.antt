use Rattle.std.proofs.Common.{refl, arith, subst}
use Rattle.std.proofs.lemmas.Bool.{false≢true}
use Rattle.std.proofs.lemmas.List.{take_all}
use Rattle.mvt_tile_value.specs.Tiles.{HasDistinctNames}
use Rattle.mvt_tile.proofs.ExtractionLemmas.{distinct_next, distinct_not}
use Rattle.mvt_tile.proofs.validity.have_distinct_names.Goals as goal

pub returns-then-is_repeated : goal.returns-then-is_repeated
returns-then-is_repeated c = (
  λ h. absurd (false≢true h),
  λ d. absurd (distinct_not c.args.items.now c.loop-index.index c.index-items-index.result c.is_repeated.result c.loop-index-test.true
      c.index-items-index.is c.is_repeated.ensures c.if-is_repeated.true d),
)

pub loop-index-preserved : goal.loop-index-preserved
loop-index-preserved c =
    distinct_next c.args.items.now c.loop-index.index c.index-items-index.result c.is_repeated.result c.loop-index-test.true
    c.index-items-index.is c.loop-index.invariant c.is_repeated.ensures c.if-is_repeated.false

pub returns : goal.returns
returns c =
    (λ _. subst HasDistinctNames (take_all c.loop-index.index c.args.items.now (omega arith)) c.loop-index.invariant, λ _. refl)
