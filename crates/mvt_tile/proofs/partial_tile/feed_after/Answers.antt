use Rattle.std.proofs.Common.{◌≡◌, List, [], ◌++◌, length, rules, subst, sym}
use Rattle.std.proofs.lemmas.Bool.Decides.{nat_tests}
use Rattle.std.proofs.lemmas.List.{nil_from_length}
use Rattle.mvt_message.specs.declared.item.Item.{Item}
use Rattle.mvt_tile.specs.Inner.Judging.{IsJudged}
use Rattle.mvt_tile.specs.Inner.Taking.{HasTaken}
use Rattle.mvt_tile.specs.Visiting.{payloads_in}
use Rattle.mvt_tile.proofs.partial_tile.feed_after.Goals as goal

pub returns-then-is_empty-clause-judged : goal.returns-then-is_empty-clause-judged
returns-then-is_empty-clause-judged g c = λ given payloads items has.
    let zero : length c.args.raw.now.items ≡ 0 = search (rules, nat_tests) in
    let none = nil_from_length c.args.raw.now.items zero in
    subst (λ raw. (new : List Item)
    × HasTaken (g.V.TileVisitor.has_items given (payloads ++ payloads_in (raw ++ c.args.piece.now))) c.walk_fields.new.taken new
    × IsJudged c.args.offset (raw ++ c.args.piece.now) items new c.in_ok-used.used) (sym none)
    (c.in_ok-used.ensures.judged given payloads items has)
