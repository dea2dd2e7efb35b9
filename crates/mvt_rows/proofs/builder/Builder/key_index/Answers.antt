use Rattle.std.proofs.Common.{◌≡◌, ℕ, List, bytes_eq, IfOk, OnOk, subst}
use Rattle.mvt_attrs.specs.TagPlaces.{place_in}
use Rattle.mvt_rows.specs.declared.builder.Builder.{Builder}
use Rattle.std.proofs.lemmas.Slice.Eq.{bytes_eq-Decides}
use Rattle.mvt_rows.specs.Told.{with_entry}
use Rattle.mvt_rows.proofs.BuildingLemmas.{placed_index, placed_in}
use Rattle.mvt_rows.proofs.builder.Builder.key_index.Goals as goal

pub returns-clause-index : goal.returns-clause-index
returns-clause-index c =
    subst (λ (x : List ℕ). IfOk c.index_of.result (λ i. i ≡ place_in bytes_eq c.args.self.now.keys x)) c.in_ok-set.ensures
    (placed_index bytes_eq bytes_eq-Decides c.args.self.now.keys c.index_of.new.pool c.set.new.self c.index_of.ensures.distinct
    c.index_of.result c.index_of.ensures.placed)

pub returns-clause-added : goal.returns-clause-added
returns-clause-added c =
    let with_pool : List (List ℕ) → Builder = λ pool. record c.args.self.now { key = c.set.new.self; keys = pool } in
    subst (λ (x : List ℕ). OnOk c.index_of.result (with_pool c.index_of.new.pool ≡ with_pool (with_entry bytes_eq c.args.self.now.keys x)))
    c.in_ok-set.ensures
    (placed_in bytes_eq bytes_eq-Decides c.args.self.now.keys c.index_of.new.pool c.set.new.self c.index_of.ensures.distinct
    with_pool c.index_of.result c.index_of.ensures.placed)
