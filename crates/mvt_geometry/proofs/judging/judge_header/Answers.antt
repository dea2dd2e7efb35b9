use Rattle.std.proofs.Common.{rules, ◌≡◌, ◌+◌, ◌*◌, ◌/◌, ◌%◌, ◌<◌, false, true, length, get_or, Some, ap, sym, ◌∙◌}
use Rattle.mvt_geometry.specs.Commands.{id_of, is_allowed, pair_count}
use Rattle.mvt_geometry.proofs.HeaderLemmas.{ends, wrong_id, bad_count, too_few}
use Rattle.mvt_geometry.proofs.judging.judge_header.Goals as goal

pub returns-in_default-clause-err : goal.returns-in_default-clause-err
returns-in_default-clause-err c = λ must_not e.
    let here : c.args.at ≡ length c.args.integers.now = search rules in
    ends must_not c.args.kind (Some c.args.command) c.args.integers.now c.args.at here (e here)

pub returns-then-integer-id-clause-err : goal.returns-then-integer-id-clause-err
returns-then-integer-id-clause-err c = λ must_not e.
    let g = c.args.integers.now in
    let within : c.args.at < length g = search rules in
    let read : c.in-Some.integer.now ≡ get_or g c.args.at 0 = search rules in
    wrong_id must_not c.args.kind c.args.command g c.args.at within
    (λ same. c.if-integer-id.true (ap (λ n. n % 8) read ∙ same ∙ sym c.id.ensures))

pub returns-then-not-allows-clause-err : goal.returns-then-not-allows-clause-err
returns-then-not-allows-clause-err c = λ must_not e.
    let g = c.args.integers.now in
    let within : c.args.at < length g = search rules in
    let read : c.in-Some.integer.now ≡ get_or g c.args.at 0 = search rules in
    let id : get_or g c.args.at 0 % 8 ≡ id_of c.args.command = search rules in
    let no : is_allowed c.args.kind c.args.command (get_or g c.args.at 0 / 8) ≡ false = search rules in
    bad_count must_not c.args.kind c.args.command g c.args.at within id no

pub returns-then-integers-at-clause-err : goal.returns-then-integers-at-clause-err
returns-then-integers-at-clause-err c = λ must_not e.
    let g = c.args.integers.now in
    let within : c.args.at < length g = search rules in
    let id : get_or g c.args.at 0 % 8 ≡ id_of c.args.command = search rules in
    let yes : is_allowed c.args.kind c.args.command (get_or g c.args.at 0 / 8) ≡ true = search rules in
    let few : length g < c.args.at + 1 + 2 * pair_count (Some c.args.command) (get_or g c.args.at 0 / 8) = search rules in
    too_few must_not c.args.kind c.args.command g c.args.at within id yes few
