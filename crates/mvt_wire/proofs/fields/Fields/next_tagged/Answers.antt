use Rattle.std.proofs.Common.{◌≡◌, IfOk, IfSome, Some, drop, refl, sym, subst}
use Rattle.std.specs.Prelude.{slice_get}
use Rattle.std.proofs.lemmas.Option.{slice_get_read}
use Rattle.mvt_wire.specs.Fields.{Ahead, GivesEntry}
use Rattle.mvt_wire.proofs.StepLemmas.{given_tag}
use Rattle.mvt_wire.proofs.fields.Fields.next_tagged.Goals as goal

pub returns-in-Some-clause-tagged : goal.returns-in-Some-clause-tagged
returns-in-Some-clause-tagged c =
    let s = c.self.inside in
    let found = rw c.if-byte-tag.true at c.in-Some.ensures.lookup in
    subst (λ (old : Ahead). IfSome c.next.result (λ given. IfOk given (λ field. slice_get old.source.now field.at ≡ Some c.args.tag)))
    c.self.view_is
    (given_tag s.source.now (drop s.at s.source.now) s.at c.args.tag c.next.result c.next.new.self.to_come
    (subst (λ (old : Ahead). GivesEntry old.to_come c.next.result c.next.new.self.to_come) (sym c.self.view_is) c.next.ensures.steps.0)
    (slice_get_read s.source.now _ s.at c.args.tag refl found.3.0 found.1))
