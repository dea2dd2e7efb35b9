use Rattle.std.proofs.Common.{map}
use Rattle.mvt_attrs.specs.Inner.Apart.{IsApart}
use Rattle.mvt_attrs.proofs.ApartLemmas.{below_more, read_apart}
use Rattle.mvt_attrs.proofs.distinct.stands_before.Goals as goal

pub loop-before-preserved : goal.loop-before-preserved
loop-before-preserved g c =
    let entries = c.args.entries.now in
    below_more (λ i. IsApart (map g.T.AsSlice.items entries) i c.args.index) c.loop-before.before c.loop-before.invariant
    (read_apart g.T.AsSlice.items entries c.loop-before.before c.args.index _ _
    c.index-entries-before.is c.index-entries-index.is (c.is_text.ensures c.if-is_text.false))
