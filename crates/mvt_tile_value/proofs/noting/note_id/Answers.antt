use Rattle.std.proofs.Common.{◌++◌, Some, None, if◌then◌else◌, subst, sym, ap, append-nil, ◌∙◌}
use Rattle.std.specs.Option.{option_or}
use Rattle.mvt_tile_value.specs.FirstIds.{AreFirst}
use Rattle.mvt_tile_value.specs.Notes.{is_id}
use Rattle.mvt_tile_value.proofs.NoteLemmas.{id_note_is}
use Rattle.mvt_tile_value.proofs.noting.note_id.Goals as goal

pub returns-in_ok-push-clause-notes : goal.returns-in_ok-push-clause-notes
returns-in_ok-push-clause-notes c = λ first are.
    c.in_ok-push.ensures.items
    ∙ ap (λ ns. c.args.notes.now.items ++ ns)
    (sym (id_note_is c.args.layer c.args.feature first c.in-Some.is (sym c.in-Some-2.is ∙ c.in_ok-earlier.ensures.earlier first are)))

pub returns-in_ok-push-clause-ids : goal.returns-in_ok-push-clause-ids
returns-in_ok-push-clause-ids c = λ first are.
    subst (λ id. AreFirst c.take.new.self (λ q. option_or (first q) (if is_id q id then Some c.args.feature else None))) (sym c.in-Some.is)
    (c.in_ok-earlier.ensures.first first are)

pub returns-in_default-2-clause-notes : goal.returns-in_default-2-clause-notes
returns-in_default-2-clause-notes c = λ first are.
    sym (append-nil c.args.notes.now.items)
    ∙ ap (λ ns. c.args.notes.now.items ++ ns)
    (sym (id_note_is c.args.layer c.args.feature first c.in-Some.is (sym c.in_default-2.is ∙ c.in_ok-earlier.ensures.earlier first are)))

pub returns-in_default-2-clause-ids : goal.returns-in_default-2-clause-ids
returns-in_default-2-clause-ids c = λ first are.
    subst (λ id. AreFirst c.take.new.self (λ q. option_or (first q) (if is_id q id then Some c.args.feature else None))) (sym c.in-Some.is)
    (c.in_ok-earlier.ensures.first first are)
