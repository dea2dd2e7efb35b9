use Rattle.std.proofs.Common.{[], refl, sym, ap, ◌∙◌, subst}
use Rattle.std.proofs.lemmas.Result.{on_ok_weaker}
use Rattle.std.specs.List.{fold}
use Rattle.mvt_attrs.specs.FirstUses.{lent}
use Rattle.mvt_rows.specs.Tables.{with_key}
use Rattle.mvt_rows.specs.Visiting.{AreLayerRows}
use Rattle.mvt_rows.proofs.VisitLemmas.{keys_visited}
use Rattle.mvt_rows.proofs.table.visiting.RowsVisitorLayerVisitor.visit_keys.Goals as goal

pub returns : goal.returns
returns c = λ given values has.
    let open_at = c.args.self.now.opened in
    let keys = lent c.args.keys.now in
    let added = c.in_ok-add_keys.ensures.keys in
    on_ok_weaker c.keep_within.result
    (λ within. (
      subst (λ t. AreLayerRows t open_at given.items keys values []) (sym added)
          (keys_visited c.args.self.now.table open_at given.items values keys c.in_ok-add_keys.ensures.utf8 has.0),
      record { opened = has.1.0; even = refl; rows = added ∙ ap (λ t. fold with_key t keys) has.1.1 },
      has.2,
    ))
    c.keep_within.ensures.within
