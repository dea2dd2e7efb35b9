use Rattle.std.proofs.Common.{sym, ◌∙◌}
use Rattle.std.proofs.lemmas.Bool.{eqb-true}
use Rattle.std.proofs.lemmas.List.{nil_from_length}
use Rattle.mvt_attrs.proofs.PackedTagsLemmas.{none_packed}
use Rattle.mvt_attrs.proofs.packed_tags.judge_packed.Goals as goal

pub returns-then-is_empty-clause-found : goal.returns-then-is_empty-clause-found
returns-then-is_empty-clause-found g c =
    none_packed g.V.TagVisitor.has_tags c.args.visitor.now c.args.bytes.now c.args.keys.now c.args.values
    (g.met.V.TagVisitor.begins c.args.visitor.now)
    (nil_from_length c.args.bytes.now (eqb-true _ _ (sym c.is_empty.ensures ∙ c.if-is_empty.true)))
