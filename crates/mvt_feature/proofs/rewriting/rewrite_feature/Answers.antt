use Rattle.std.proofs.Common.{inr, sym, subst}
use Rattle.mvt_geometry.specs.Drawing.{Draws}
use Rattle.mvt_feature.proofs.rewriting.rewrite_feature.Goals as goal

pub returns-clause-feature : goal.returns-clause-feature
returns-clause-feature c = λ held uses.
    let (f, is, are) = c.in_ok-known.ensures.judged held (sym (c.len-values.ensures held uses.1)) in (
      f,
      is,
      c.in_ok-append_judged.ensures.rewritten c.args.keys.now held f uses are,
      are.id,
      subst (λ i. Draws c.in_ok-known.known.kind i f.geometry) (sym c.append_judged.ensures.integers) are.integers,
    )

pub returns-clause-uses : goal.returns-clause-uses
returns-clause-uses c = λ held uses.
    let (f, is, are) = c.in_ok-known.ensures.judged held (sym (c.len-values.ensures held uses.1)) in
    c.in_ok-append_judged.ensures.uses c.args.keys.now held f uses are

pub returns-in_err-append_judged-clause-memory : goal.returns-in_err-append_judged-clause-memory
returns-in_err-append_judged-clause-memory c = λ h.
    inr (λ held uses. c.in_ok-known.ensures.ok held (sym (c.len-values.ensures held uses.1)))
