use Rattle.std.proofs.Common.{[], ◌∷◌, IsUtf8, sym, subst}
use Rattle.std.specs.List.{AllByRecursion}
use Rattle.mvt_attrs.specs.FirstUses.{lent}
use Rattle.mvt_base.proofs.ListLemmas.{all_joined}
use Rattle.mvt_rows.specs.TileRows.{text_of}
use Rattle.mvt_rows.proofs.EachLemmas.{each_more, each_stops, lent_push}
use Rattle.mvt_rows.proofs.TileLemmas.{fails_in}
use Rattle.mvt_rows.proofs.writing.parts.keys.Goals as goal

pub returns-in_err-text-clause-none : goal.returns-in_err-text-clause-none
returns-in_err-text-clause-none c =
    fails_in c.from_residual-in_err-text.result _ _ _ c.from_residual-in_err-text.ensures.1 c.in_err-text.ensures.none
    (each_stops (text_of c.args.texts.now) c.args.spans.now c.loop-span.span-index _ c.loop-span-test.true)

pub loop-span-preserved : goal.loop-span-preserved
loop-span-preserved c = record {
  made = each_more (text_of c.args.texts.now) c.args.spans.now c.loop-span.span-index _ _ _ _ c.loop-span.invariant.made
      c.loop-span-test.true c.in_ok-text.ensures.text (lent_push c.loop-span.keys.items _ _ c.in_ok-push.ensures.items);
  utf8 = subst (AllByRecursion IsUtf8) (sym (lent_push c.loop-span.keys.items _ _ c.in_ok-push.ensures.items))
      (all_joined IsUtf8 (lent c.loop-span.keys.items) (_ ∷ []) c.loop-span.invariant.utf8 (c.in_ok-text.ensures.utf8, tt));
}
