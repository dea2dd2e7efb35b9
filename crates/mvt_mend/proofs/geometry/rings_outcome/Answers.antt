use Rattle.std.proofs.Common.{rules, ◌≡◌, true, Some, Ok, sym, ap, subst, ◌∙◌}
use Rattle.std.specs.List.{AllByRecursion}
use Rattle.mvt_rings.specs.Mending.{begins_negative, mended_rings}
use Rattle.mvt_mend.specs.Reading.{parts_in}
use Rattle.mvt_mend.specs.Sound.{IsLong}
use Rattle.mvt_mend.proofs.DrawnLemmas.{kept_draw}
use Rattle.mvt_mend.proofs.geometry.rings_outcome.Goals as goal

pub drawn-requires : goal.drawn-requires
drawn-requires c =
    let read : parts_in true c.args.integers.now ≡ Some c.in-Some.parts.items = search rules in
    let keeps : mended_rings c.in-Some.parts.items ≡ Ok c.in-Ok.kept = search rules in
    let same : c.as_slice-in-Ok.result.now ≡ c.in-Ok.kept = search rules in
    λ known.
    kept_draw c.args.integers.now c.in-Some.parts.items c.in-Ok.kept read keeps
    (subst (AllByRecursion IsLong) same (c.are_sound-is_known.ensures.long known))
    (ap begins_negative (sym same) ∙ c.are_sound-is_known.ensures.first known)
