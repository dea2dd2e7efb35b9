use Rattle.std.proofs.Common.{◌≡◌, List, IfOk, OnOk, subst}
use Rattle.mvt_attrs.specs.TagPlaces.{place_in}
use Rattle.mvt_rows.specs.declared.builder.Builder.{Builder}
use Rattle.mvt_rows.specs.declared.words.Given.{Given}
use Rattle.mvt_rows.specs.Told.{same_given, with_entry}
use Rattle.mvt_rows.proofs.BuildingLemmas.{placed_index, placed_in, same_given-decides}
use Rattle.mvt_rows.proofs.builder.Builder.value_index.Goals as goal

pub returns-clause-index : goal.returns-clause-index
returns-clause-index c =
    subst (λ (x : Given). IfOk c.index_of.result (λ i. i ≡ place_in same_given c.args.self.now.values x)) c.in_ok-set.ensures
    (placed_index same_given same_given-decides c.args.self.now.values c.index_of.new.pool c.set.new.self c.index_of.ensures.distinct
    c.index_of.result c.index_of.ensures.placed)

pub returns-clause-added : goal.returns-clause-added
returns-clause-added c =
    let with_pool : List Given → Builder = λ pool. record c.args.self.now { value = c.set.new.self; values = pool } in
    subst (λ (x : Given). OnOk c.index_of.result
    (with_pool c.index_of.new.pool ≡ with_pool (with_entry same_given c.args.self.now.values x)))
    c.in_ok-set.ensures
    (placed_in same_given same_given-decides c.args.self.now.values c.index_of.new.pool c.set.new.self c.index_of.ensures.distinct
    with_pool c.index_of.result c.index_of.ensures.placed)
