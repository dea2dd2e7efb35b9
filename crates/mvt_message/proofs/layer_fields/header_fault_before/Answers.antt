use Rattle.std.proofs.Common.{◌≡◌, None, [], ◌∷◌, ◌++◌, ◌∙◌, ap, sym}
use Rattle.std.specs.Option.{option_copied}
use Rattle.mvt_wire.specs.Field.{entry_of}
use Rattle.mvt_wire.specs.Fields.{Ahead}
use Rattle.mvt_wire.specs.Split.{split}
use Rattle.mvt_feature.proofs.FeatureLaws.{walks_start, walks_step}
use Rattle.mvt_message.proofs.ReadLemmas.{header_few, header_start, header_step, header_stops, header_ends, forms_reported, name_reported, values_reported}
use Rattle.mvt_message.specs.LayerFields.{name_in}
use Rattle.mvt_message.proofs.layer_fields.header_fault_before.Goals as goal

pub loop-field-init : goal.loop-field-init
loop-field-init c = (
  [],
  walks_start _ _ (ap (λ (a : Ahead). a.to_come) c.into_iter-field-iterator.ensures.into_iter_gives ∙ c.new-field-items.ensures.fields)
      (rw c.into_iter-field-iterator.ensures.into_iter_gives c.new-field-items.ensures.place),
  header_start _ _ c.new-header.ensures.version c.new-header.ensures.name c.new-header.ensures.extent c.new-header.ensures.keys
      c.new-header.ensures.features,
)

pub take-requires : goal.take-requires
take-requires c = record { few = header_few c.loop-field.invariant.1 c.loop-field.invariant.2 c.requires.small }

pub loop-field-preserved : goal.loop-field-preserved
loop-field-preserved c =
    let done = c.loop-field.invariant.0 in
    let step = c.in-Ok-take.ensures in (
      done ++ entry_of c.in-Ok.field ∷ [],
      walks_step _ _ _ _ _ c.loop-field.invariant.1 (rw c.in-Ok.is at c.in-Some.ensures.steps).0,
      header_step _ (entry_of c.in-Ok.field) c.loop-field.invariant.2 step.ok step.version step.name step.extent step.keys step.features,
    )

pub returns-in-Err-take : goal.returns-in-Err-take
returns-in-Err-take c = λ _.
    let done = c.loop-field.invariant.0 in
    let next = c.next.new.self.to_come in
    let steps = (rw c.in-Ok.is at c.in-Some.ensures.steps).0 in
    let all = (walks_step c.args.payload.now _ next done c.in-Ok.field c.loop-field.invariant.1 steps).fields in
    let stops = header_stops (entry_of c.in-Ok.field) c.in-Err-take.error c.loop-field.invariant.2 c.in-Err-take.ensures.err next.fields in
    forms_reported c.args.payload_at c.args.tag_at (split c.args.payload.now).fields _ ((rw (← all) at stops) c.requires.versions)

pub returns-in-Some-name : goal.returns-in-Some-name
returns-in-Some-name c = λ reported.
    let header = header_ends c.loop-field.invariant.1 c.in-None.ensures.steps.0 c.loop-field.invariant.2 in
    let name = ap option_copied (sym c.in-Some-name.is) ∙ header.name_is in
    values_reported c.args.payload_at c.args.tag_at (split c.args.payload.now).fields _ header.clean name reported

pub returns : goal.returns
returns c = λ _.
    let header = header_ends c.loop-field.invariant.1 c.in-None.ensures.steps.0 c.loop-field.invariant.2 in
    let none : None ≡ name_in (split c.args.payload.now).fields = ap option_copied (sym c.in-None-name.is) ∙ header.name_is in
    rw c.fault_at.ensures (name_reported c.args.payload_at c.args.tag_at (split c.args.payload.now).fields header.clean none)
