use Rattle.std.proofs.Common.{rules}
use Rattle.std.proofs.lemmas.List.Sorted.{answers_always}
use Rattle.mvt_tile_value.proofs.IdLemmas.{searched}
use Rattle.mvt_tile_value.proofs.first_ids.place_of.Goals as goal

pub returns-clause-at : goal.returns-clause-at
returns-clause-at c = λ rising.
    let found = c.binary_search_by_key.ensures in
    let by_id = found.position (λ entry. entry.0) (answers_always _ _ _ (λ f a r g called. search rules)) in
    search (rules, (searched c.args.rising.now rising c.args.id c.binary_search_by_key.result found.bound by_id).at)

pub returns-clause-none : goal.returns-clause-none
returns-clause-none c = λ rising.
    let found = c.binary_search_by_key.ensures in
    let by_id = found.position (λ entry. entry.0) (answers_always _ _ _ (λ f a r g called. search rules)) in
    search (rules, (searched c.args.rising.now rising c.args.id c.binary_search_by_key.result found.bound by_id).none)
