use Rattle.std.proofs.Common.{◌++◌, sym, ap₂, ◌∙◌, subst}
use Rattle.mvt_geometry.specs.Commands.{pairs_of, positions, moved}
use Rattle.mvt_geometry.specs.Inner.Building.{ArePlaces}
use Rattle.mvt_geometry.proofs.BuildLemmas.{front_is, room_for, first_points, first_end, other_points, other_end, after_is}
use Rattle.mvt_geometry.proofs.reading.build_line.Goals as goal

pub split_at-requires-2 : goal.split_at-requires-2
split_at-requires-2 c =
    let f = front_is c.args.from c.args.integers.now c.requires.0 c.requires.1 c.requires.2 in
    rw c.count_in-count.ensures
    (room_for f c.split_at.result.0.now c.split_at.result.1.now c.split_at.ensures.front c.split_at.ensures.back)

pub push_path-requires : goal.push_path-requires
push_path-requires c =
    let f = front_is c.args.from c.args.integers.now c.requires.0 c.requires.1 c.requires.2 in
    subst ArePlaces
    (sym (first_points f c.split_at.result.0.now c.split_at.result.1.now c.split_at.ensures.front c.split_at.ensures.back))
    (f.places.0, tt)

pub push_path-requires-2 : goal.push_path-requires-2
push_path-requires-2 c =
    let f = front_is c.args.from c.args.integers.now c.requires.0 c.requires.1 c.requires.2 in
    let first =
    c.in_ok-first.ensures.last
    ∙ first_end f c.split_at.result.0.now c.split_at.result.1.now c.split_at.ensures.front c.split_at.ensures.back in
    let points =
    ap₂ (λ p xs. positions p (pairs_of xs)) first (rw c.count_in-count.ensures at c.split_at-2.ensures.front)
    ∙ other_points f c.split_at.result.0.now c.split_at.result.1.now c.split_at.ensures.front c.split_at.ensures.back in
    subst ArePlaces (sym points) f.places.1

pub returns-clause-line : goal.returns-clause-line
returns-clause-line c = λ l more req.
    let f = front_is c.args.from c.args.integers.now l more req in
    let first =
    c.in_ok-first.ensures.last
    ∙ first_end f c.split_at.result.0.now c.split_at.result.1.now c.split_at.ensures.front c.split_at.ensures.back in
    let head = first_points f c.split_at.result.0.now c.split_at.result.1.now c.split_at.ensures.front c.split_at.ensures.back in
    let points =
    ap₂ (λ p xs. positions p (pairs_of xs)) first (rw c.count_in-count.ensures at c.split_at-2.ensures.front)
    ∙ other_points f c.split_at.result.0.now c.split_at.result.1.now c.split_at.ensures.front c.split_at.ensures.back in
    let end =
    c.in_ok-end.ensures.last ∙ ap₂ (λ p xs. moved p (pairs_of xs)) first (rw c.count_in-count.ensures at c.split_at-2.ensures.front)
    ∙ other_end f c.split_at.result.0.now c.split_at.result.1.now c.split_at.ensures.front c.split_at.ensures.back in
    let one = c.in_ok-first.ensures.points ∙ ap₂ (λ xs ys. xs ++ ys) c.in_ok-points.ensures.items head in (
      c.new-points.ensures ∙ c.in_ok-end.ensures.points ∙ ap₂ (λ xs ys. xs ++ ys) one points ∙ sym f.line_is,
      end,
      (rw c.count_in-count.ensures at c.split_at-2.ensures.back)
          ∙ after_is f c.split_at.result.0.now c.split_at.result.1.now c.split_at.ensures.front c.split_at.ensures.back,
    )
