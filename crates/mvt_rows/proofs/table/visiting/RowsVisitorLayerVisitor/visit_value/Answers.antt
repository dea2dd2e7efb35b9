use Rattle.std.proofs.Common.{◌≡◌, [], ◌∷◌, ◌++◌, sym, subst}
use Rattle.std.proofs.Math.Facts.{Fits-lt-pow}
use Rattle.mvt_feature.proofs.FeatureLaws.{read_is_valid_value}
use Rattle.mvt_rows.specs.Tables.{without_values}
use Rattle.mvt_rows.specs.Visiting.{AreLayerRows}
use Rattle.mvt_rows.proofs.ReadTableLemmas.{value_read, values_kept}
use Rattle.mvt_rows.proofs.VisitLemmas.{value_visited}
use Rattle.mvt_rows.proofs.table.visiting.RowsVisitorLayerVisitor.visit_value.Goals as goal

pub returns-in_err-meaning-clause-kept : goal.returns-in_err-meaning-clause-kept
returns-in_err-meaning-clause-kept c = λ given values has. (values_kept given.table _ _ values has.1, has.2)

pub returns-in_err-add_value-clause-kept : goal.returns-in_err-add_value-clause-kept
returns-in_err-add_value-clause-kept c = λ given values has. (
  subst (λ t. without_values t c.args.self.now.opened ≡ given.table) (sym c.in_err-add_value.ensures.err)
      (values_kept given.table _ _ values has.1),
  has.2,
)

pub returns-clause-value : goal.returns-clause-value
returns-clause-value c = λ given values has.
    let v = c.in_ok-meaning.meaning in
    let valid = read_is_valid_value c.args.payload.now v (λ k. Fits-lt-pow (c.type_inv.payload k)) c.in_ok-meaning.ensures.value in
    let open_at = c.args.self.now.opened in
    let read = value_read given.table _ _ _ values v has.1 c.in_ok-add_value.ensures.ok in (
      v,
      c.in_ok-meaning.ensures.value,
      (
        subst (λ t. AreLayerRows t open_at given.items [] (values ++ v ∷ []) []) (sym c.in_ok-add_value.ensures.ok)
            (value_visited c.args.self.now.table open_at given.items values v valid has.0),
        read,
        has.2,
      ),
    )

pub returns-in_err-keep_within-clause-kept : goal.returns-in_err-keep_within-clause-kept
returns-in_err-keep_within-clause-kept c = λ given values has.
    let v = c.in_ok-meaning.meaning in
    (values_kept given.table _ _ (values ++ v ∷ []) (value_read given.table _ _ _ values v has.1 c.in_ok-add_value.ensures.ok), has.2)

pub returns-clause-kept : goal.returns-clause-kept
returns-clause-kept c = λ given values has.
    let v = c.in_ok-meaning.meaning in
    (values_kept given.table _ _ (values ++ v ∷ []) (value_read given.table _ _ _ values v has.1 c.in_ok-add_value.ensures.ok), has.2)
