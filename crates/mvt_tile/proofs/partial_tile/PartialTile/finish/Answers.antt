use Rattle.std.proofs.Common.{◌≡◌, length, refl, rules}
use Rattle.std.proofs.lemmas.Bool.Decides.{nat_tests}
use Rattle.std.proofs.lemmas.List.{nil_from_length}
use Rattle.mvt_tile.proofs.DecoderLemmas.{live_truncated, live_tile}
use Rattle.mvt_tile.proofs.partial_tile.PartialTile.finish.Goals as goal

pub returns-then-not-is_empty-clause-fault : goal.returns-then-not-is_empty-clause-fault
returns-then-not-is_empty-clause-fault g c =
    rw c.outer.ensures (λ items s live. live_truncated 67108864 _ items _ s live (search rules))

pub returns-clause-tile : goal.returns-clause-tile
returns-clause-tile g c = λ items s live.
    let none : length c.args.self.raw.items ≡ 0 = search (rules, nat_tests) in
    (refl, live_tile 67108864 _ items _ s live (nil_from_length c.args.self.raw.items none))
