use Rattle.std.proofs.Common.{map, arith}
use Rattle.std.proofs.lemmas.List.{length-map}
use Rattle.mvt_attrs.proofs.ApartLemmas.{apart_distinct}
use Rattle.mvt_attrs.proofs.distinct.are_few_distinct.Goals as goal

pub returns : goal.returns
returns g c = λ _.
    let entries = c.args.entries.now in
    apart_distinct (map g.T.AsSlice.items entries) c.loop-index.index
    (omega (arith, length-map entries g.T.AsSlice.items, c.loop-index-test.false)) c.loop-index.invariant
