use Rattle.std.proofs.Common.{◌≡◌, ◌++◌, ◌∷◌, ◌==◌, [], None, get_or, is_some, ap, sym, refl}
use Rattle.std.specs.Option.{option_map}
use Rattle.mvt_rows.specs.Told.{is_exterior_told, new_part, told_part}
use Rattle.mvt_rows.specs.declared.rows.PartRow.{PartRow}
use Rattle.mvt_rows.proofs.EachLemmas.{each_more, each_stops}
use Rattle.mvt_rows.proofs.builder.are_told.Goals as goal

abbrev no_row : PartRow
no_row = record { exterior = 0; points = record { start = 0; len = 0 } }

pub returns-in_default : goal.returns-in_default
returns-in_default c =
    let loop = c.loop-part in
    let row = get_or c.args.parts.now loop.part-index no_row in
    let none : told_part c.args.kind c.args.points.now row ≡ None = ap (option_map (new_part (is_exterior_told c.args.kind row))) c.in_default.ensures in
    sym
    (ap is_some
    (each_stops (told_part c.args.kind c.args.points.now) c.args.parts.now loop.part-index no_row c.loop-part-test.true none))

pub loop-part-preserved : goal.loop-part-preserved
loop-part-preserved c =
    let loop = c.loop-part in
    let row = get_or c.args.parts.now loop.part-index no_row in
    let one = new_part (is_exterior_told c.args.kind row) c.in-Some._lent.now in
    record {
      told = loop.invariant.told ++ one ∷ [];
      made = each_more (told_part c.args.kind c.args.points.now) c.args.parts.now loop.part-index no_row loop.invariant.told one _ loop.invariant.made
          c.loop-part-test.true
          (ap (option_map (new_part (is_exterior_told c.args.kind row))) c.in-Some.ensures)
          refl;
    }
