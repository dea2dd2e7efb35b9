use Rattle.std.proofs.lemmas.Result.{on_ok_weaker}
use Rattle.mvt_tile_value.proofs.RingLemmas.{line_noted, ring_noted}
use Rattle.mvt_tile_value.proofs.ring_noting.RingNotesGeometryVisitor.end_part.Goals as goal

pub returns-in-Some : goal.returns-in-Some
returns-in-Some c = λ start parts part have ends.
    let known = rw c.in-Some.is at ends in
    on_ok_weaker c.add.result (λ one. ring_noted start c.args.self.now c.add.new.self parts part known.1 have one)
    (c.add.ensures part.points known.3 known.4)

pub returns-in-None : goal.returns-in-None
returns-in-None c = λ start parts part have ends.
    let known = rw c.in-None.is at ends in
    line_noted start c.args.self.now parts part known.1 have
