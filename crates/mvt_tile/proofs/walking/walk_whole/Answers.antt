use Rattle.std.proofs.Common.{◌≡◌, [], length, rules, subst}
use Rattle.std.proofs.lemmas.Result.{err_from_is_err_and}
use Rattle.std.proofs.lemmas.List.{nil_from_length}
use Rattle.mvt_tile.specs.Inner.Taking.{HasTaken}
use Rattle.mvt_tile.proofs.DecoderLemmas.{cut}
use Rattle.mvt_tile.proofs.PayloadLemmas.{payloads_whole}
use Rattle.mvt_tile.proofs.WholeLemmas.{whole_fails, whole_too_large, whole_truncated, whole_tile}
use Rattle.mvt_tile.proofs.walking.walk_whole.Goals as goal

pub returns-in_err-used-clause-fault : goal.returns-in_err-used-clause-fault
returns-in_err-used-clause-fault g c =
    let p = err_from_is_err_and c.from_residual.result c.from_residual.ensures.1 in
    let (input, has) = c.requires.start in
    let (front, back) = c.split_at.result in
    let all = cut _ _ _ _ c.split_at.ensures.front c.split_at.ensures.back in
    rw (p.1, p.2) (whole_fails 67108864 c.args.bytes.now front.now back.now all _
    (c.in_err-used.ensures.fault input [] [] (c.new-taken.ensures input has)) (search rules))

pub returns-then-not-is_empty-clause-fault : goal.returns-then-not-is_empty-clause-fault
returns-then-not-is_empty-clause-fault g c =
    let (input, has) = c.requires.start in
    let (front, back) = c.split_at.result in
    let some : length back.now ≡ 0 → ⊥ = search rules in
    let all = cut _ _ _ _ c.split_at.ensures.front c.split_at.ensures.back in
    let judged = c.in_ok-used.ensures.judged input [] [] (c.new-taken.ensures input has) in
    rw c.outer.ensures
    (whole_too_large 67108864 c.args.bytes.now front.now back.now all judged.0 c.in_ok-used.used judged.2 (search rules) some)

pub returns-then-used-fitting-clause-fault : goal.returns-then-used-fitting-clause-fault
returns-then-used-fitting-clause-fault g c =
    let (input, has) = c.requires.start in
    let (front, back) = c.split_at.result in
    let all = cut _ _ _ _ c.split_at.ensures.front c.split_at.ensures.back in
    let judged = c.in_ok-used.ensures.judged input [] [] (c.new-taken.ensures input has) in
    rw c.outer-then-used-fitting.ensures
    (whole_truncated 67108864 c.args.bytes.now front.now back.now all judged.0 c.in_ok-used.used judged.2 (search rules)
    (search rules) c.if-used-fitting.true)

pub returns-clause-tile : goal.returns-clause-tile
returns-clause-tile g c = λ input has.
    let (front, back) = c.split_at.result in
    let all = cut _ _ _ _ c.split_at.ensures.front c.split_at.ensures.back in
    let judged = c.in_ok-used.ensures.judged input [] [] (c.new-taken.ensures input has) in
    let tile =
    whole_tile 67108864 c.args.bytes.now front.now back.now all judged.0 c.in_ok-used.used judged.2 (search rules)
    (search rules) c.if-used-fitting.false in
    let none : length back.now ≡ 0 = search rules in
    let same = payloads_whole front.now back.now c.args.bytes.now all (nil_from_length back.now none) in (
      record { items = judged.0 },
      tile,
      subst (λ ps. HasTaken (g.V.TileVisitor.has_items input ps) c.walk_fields.new.taken judged.0) same judged.1,
    )
