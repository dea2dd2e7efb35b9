use Rattle.std.proofs.Common.{◌≡◌, ◌+◌, ◌≤◌, ◌++◌, length, rules, arith, subst}
use Rattle.std.proofs.lemmas.Result.{err_from_is_err_and}
use Rattle.std.proofs.lemmas.List.{nil_from_length}
use Rattle.mvt_tile.specs.Inner.Taking.{HasTaken}
use Rattle.mvt_tile.proofs.PayloadLemmas.{payloads_behind}
use Rattle.mvt_tile.proofs.DecoderLemmas.{cut, live_fails, piece_fits, piece_too_large}
use Rattle.mvt_tile.proofs.partial_tile.PartialTile.take.Goals as goal

pub returns-in_err-used-clause-fault : goal.returns-in_err-used-clause-fault
returns-in_err-used-clause-fault g c = λ input payloads items has.
    let p = err_from_is_err_and c.from_residual.result c.from_residual.ensures.1 in
    let (front, back) = c.split_at.result in
    let old = c.args.self.now in
    let fits : old.offset + (length old.raw.items + length front.now) ≤ 67108864 = omega (arith, old.raw.ok.0) in
    let all = cut _ _ _ _ c.split_at.ensures.front c.split_at.ensures.back in
    rw (p.1, p.2)
    (λ s live. live_fails 67108864 old.offset items old.raw.items s live c.args.piece.now front.now back.now _
    (c.in_err-used.ensures.fault input payloads items has) all fits)

pub returns-then-not-is_empty-clause-fault : goal.returns-then-not-is_empty-clause-fault
returns-then-not-is_empty-clause-fault g c = λ input payloads items has.
    let (front, back) = c.split_at.result in
    let old = c.args.self.now in
    let some : length back.now ≡ 0 → ⊥ = search rules in
    let full : old.offset + (length old.raw.items + length front.now) ≡ 67108864 = omega (arith, old.raw.ok.0, some) in
    let all = cut _ _ _ _ c.split_at.ensures.front c.split_at.ensures.back in
    let judged = c.in_ok-used.ensures.judged input payloads items has in
    rw c.outer.ensures
    (λ s. piece_too_large 67108864 old.offset items judged.0 old.raw.items c.feed_after.new.raw.items
    front.now c.in_ok-used.used judged.2 c.in_ok-used.ensures.raw s c.args.piece.now back.now all full some)

pub returns-clause-live : goal.returns-clause-live
returns-clause-live g c = λ input payloads items has few.
    let (front, back) = c.split_at.result in
    let old = c.args.self.now in
    let fits : old.offset + (length old.raw.items + length front.now) ≤ 67108864 = omega (arith, old.raw.ok.0) in
    let none : length back.now ≡ 0 = search rules in
    let all = cut _ _ _ _ c.split_at.ensures.front c.split_at.ensures.back in
    let judged = c.in_ok-used.ensures.judged input payloads items has in
    let more = judged.2.few in (
      judged.0,
      subst (λ ps. HasTaken (g.V.TileVisitor.has_items input (payloads ++ ps)) c.feed_after.new.taken judged.0)
          (payloads_behind old.raw.items front.now back.now c.args.piece.now all (nil_from_length back.now none)) judged.1,
      omega arith,
      λ s. piece_fits 67108864 old.offset items judged.0 old.raw.items c.feed_after.new.raw.items front.now
          c.in_ok-used.used judged.2 c.in_ok-used.ensures.raw s c.args.piece.now back.now all fits none,
    )
