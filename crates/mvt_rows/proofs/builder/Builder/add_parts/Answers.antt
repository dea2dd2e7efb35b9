use Rattle.std.proofs.Common.{◌≡◌, ◌++◌, ◌∷◌, ◌==◌, [], None, get_or, ap, sym, subst, refl, ◌∙◌, append_assoc}
use Rattle.std.specs.Prelude.{List}
use Rattle.std.specs.Option.{option_map}
use Rattle.mvt_rows.specs.Building.{Holds}
use Rattle.mvt_rows.specs.Told.{ToldFeature, ToldPart, InFeature, is_exterior_told, new_part, told_part, with_parts}
use Rattle.mvt_rows.specs.declared.rows.PartRow.{PartRow}
use Rattle.mvt_rows.proofs.EachLemmas.{each_more, each_stops}
use Rattle.mvt_rows.proofs.BuildingLemmas.{some_not_none}
use Rattle.mvt_rows.proofs.builder.Builder.add_parts.Goals as goal

abbrev no_row : PartRow
no_row = record { exterior = 0; points = record { start = 0; len = 0 } }

pub returns-in_default-clause-holds : goal.returns-in_default-clause-holds
returns-in_default-clause-holds c = λ t l f told h made.
    let loop = c.loop-part in
    let row = get_or c.args.parts.now loop.part-index no_row in
    let none : told_part c.args.kind c.args.points.now row ≡ None = ap (option_map (new_part (is_exterior_told c.args.kind row))) c.in_default.ensures in
    absurd (some_not_none told
    (sym made ∙ each_stops (told_part c.args.kind c.args.points.now) c.args.parts.now loop.part-index no_row c.loop-part-test.true none))

pub loop-part-preserved : goal.loop-part-preserved
loop-part-preserved c =
    let loop = c.loop-part in
    let row = get_or c.args.parts.now loop.part-index no_row in
    let one = new_part (is_exterior_told c.args.kind row) c.in-Some.lent.now in
    record {
      told = loop.invariant.told ++ one ∷ [];
      made = each_more (told_part c.args.kind c.args.points.now) c.args.parts.now loop.part-index no_row loop.invariant.told one _ loop.invariant.made
          c.loop-part-test.true
          (ap (option_map (new_part (is_exterior_told c.args.kind row))) c.in-Some.ensures)
          refl;
      holds = λ t layer f h.
          subst
          (λ (parts : List ToldPart).
          let more : ToldFeature = record f { parts = parts } in Holds c.add_part.new.self t (InFeature layer more))
          (append_assoc f.parts loop.invariant.told (one ∷ []))
          (subst
          (λ exterior.
          let more : ToldFeature =
          record f { parts = (f.parts ++ loop.invariant.told) ++ new_part exterior c.in-Some.lent.now ∷ [] } in
          Holds c.add_part.new.self t (InFeature layer more))
          c.is_exterior.ensures
          (c.in_ok-add_part.ensures.holds t layer (with_parts f loop.invariant.told) (loop.invariant.holds t layer f h)));
      failure = c.in_ok-add_part.ensures.failure ∙ loop.invariant.failure;
    }
