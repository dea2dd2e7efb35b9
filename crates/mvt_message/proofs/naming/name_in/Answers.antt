use Rattle.std.proofs.Common.{◌∙◌, [], ap, sym, if◌then◌else◌}
use Rattle.std.specs.Option.{option_copied, option_to_list}
use Rattle.mvt_message.proofs.NamingLemmas.{naming_ends}
use Rattle.mvt_message.proofs.naming.name_in.Goals as goal

pub returns-then-has_version : goal.returns-then-has_version
returns-then-has_version c =
    let name = option_copied c.loop-field.name in
    ap (λ b. if b then option_to_list name else []) (sym c.if-has_version.true)
    ∙ naming_ends c.args.payload.now c.loop-field.has_version name c.loop-field.field-iterator.to_come
    c.next.new.self.to_come c.loop-field.invariant c.in-None.ensures.steps.0.0

pub returns-else-has_version : goal.returns-else-has_version
returns-else-has_version c =
    let name = option_copied c.loop-field.name in
    ap (λ b. if b then option_to_list name else []) (sym c.if-has_version.false)
    ∙ naming_ends c.args.payload.now c.loop-field.has_version name c.loop-field.field-iterator.to_come
    c.next.new.self.to_come c.loop-field.invariant c.in-None.ensures.steps.0.0
