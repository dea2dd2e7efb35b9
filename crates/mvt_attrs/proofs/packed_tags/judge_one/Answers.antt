use Rattle.std.proofs.Common.{[], ◌∷◌, ◌++◌, ap, ◌∙◌}
use Rattle.mvt_wire.specs.Varint.{short}
use Rattle.mvt_attrs.proofs.packed_tags.judge_one.Goals as goal

pub returns : goal.returns
returns g c = λ bytes front. record {
  tags = c.args.pair.now.key ∷ (c.args.pair.now.value ∷ []);
  packed = front.joins [] c.requires;
  told = c.in_ok-visit_pair.ensures.told c.args.visitor.now [] (g.met.V.TagVisitor.begins c.args.visitor.now) c.if-not-branch.false;
  faultless = c.in-Ok.ensures.ok;
  short = λ is.
      front.short is ∙ ap (λ r. short c.args.pair.now.key ++ (short c.args.pair.now.value ++ r)) c.requires;
}
