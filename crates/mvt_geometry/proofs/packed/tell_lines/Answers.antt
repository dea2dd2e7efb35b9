use Rattle.std.proofs.Common.{rules, ◌≡◌, ◌++◌, [], ◌∷◌, map, refl, sym, subst}
use Rattle.std.proofs.lemmas.List.{map-append}
use Rattle.mvt_geometry.specs.declared.shape.Geometry.TheVariants.{Lines}
use Rattle.mvt_geometry.specs.Drawing.{drawn}
use Rattle.mvt_geometry.specs.Visiting.{plain}
use Rattle.mvt_geometry.proofs.ToldLemmas.{none_in_front, one_more_in_front, lines_told}
use Rattle.mvt_geometry.proofs.packed.tell_lines.Goals as goal

pub loop-cursor-init : goal.loop-cursor-init
loop-cursor-init g c =
    ([], none_in_front 2 [] c.args.integers c.requires, g.met.V.GeometryVisitor.begins c.args.visitor.now)

pub returns-in_default-clause-told : goal.returns-in_default-clause-told
returns-in_default-clause-told g c =
    let inv = c.loop-cursor.invariant in
    let line = c.in_ok-line.ensures.told in
    (map plain inv.0, line.0, line.1.told c.args.visitor.now (map plain inv.0) [] inv.2)

pub loop-cursor-smaller : goal.loop-cursor-smaller
loop-cursor-smaller g c = rw c.in-Some.is at c.in_ok-line.ensures.further

pub loop-cursor-preserved : goal.loop-cursor-preserved
loop-cursor-preserved g c =
    let start = c.args.visitor.now in
    let inv = c.loop-cursor.invariant in
    let done = inv.0 in
    let line = rw c.in-Some.is at c.in_ok-line.ensures.line in
    let begun = line.2.told start (map plain done) [] inv.2 in
    let ended = c.in_ok-end_part.ensures start (map plain done) (plain line.0) begun (line.1.long, refl, refl) in (
      done ++ line.0 ∷ [],
      one_more_in_front inv.1 line.1,
      subst (λ parts. g.V.GeometryVisitor.has_parts start parts [] c.end_part.new.self)
          (sym (map-append plain done (line.0 ∷ []))) ended,
    )

pub returns-clause-drawn : goal.returns-clause-drawn
returns-clause-drawn g c = λ yes.
    let inv = c.loop-cursor.invariant in
    let none : g.I.Integers.size c.loop-cursor.rest ≡ 0 = search rules in
    let done = g.met.I.Integers.none c.loop-cursor.rest none in
    let told = lines_told inv.1 none done in
    (drawn (Lines inv.0), told.0, Lines inv.0, record { same_kind = refl; valid = told.1; spelled = refl }, inv.2)
