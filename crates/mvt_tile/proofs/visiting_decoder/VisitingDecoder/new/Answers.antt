use Rattle.std.proofs.Common.{[], refl, subst, sym}
use Rattle.mvt_tile.specs.Inner.Taking.{HasTaken}
use Rattle.mvt_tile.proofs.PayloadLemmas.{payloads_nothing}
use Rattle.mvt_tile.proofs.VisitedLemmas.{visited_start}
use Rattle.mvt_tile.proofs.visiting_decoder.VisitingDecoder.new.Goals as goal

pub invariant_of-result : goal.invariant_of-result
invariant_of-result g c =
    let (given, start) = c.requires in
    rw (c.new.ensures.raw, c.new.ensures.offset) (
      given,
      [],
      visited_start 67108864 _ _ (subst (λ ps. HasTaken (g.V.TileVisitor.has_items given ps) c.new.result.taken []) (sym payloads_nothing)
          (c.new.ensures.taken given start)) refl refl,
    )

pub returns-clause-stands : goal.returns-clause-stands
returns-clause-stands g c = λ given start.
    rw (c.new.ensures.raw, c.new.ensures.offset)
    (visited_start 67108864 _ _ (subst (λ ps. HasTaken (g.V.TileVisitor.has_items given ps) c.new.result.taken []) (sym payloads_nothing)
    (c.new.ensures.taken given start)) refl refl)
