use Rattle.std.proofs.Common.{[], ◌∷◌, ◌++◌}
use Rattle.mvt_wire.specs.Field.{entry_of}
use Rattle.mvt_wire.specs.Split.{split}
use Rattle.mvt_feature.proofs.FeatureLaws.{walks_step}
use Rattle.mvt_message.proofs.ReadLemmas.{rest_reported, version_ends}
use Rattle.mvt_message.proofs.version.read_version.Goals as goal

pub loop-field-preserved : goal.loop-field-preserved
loop-field-preserved c =
    let done = c.loop-field.invariant.0 in (
      done ++ entry_of c.in-Ok.field ∷ [],
      walks_step _ _ _ _ _ c.loop-field.invariant.1 (rw c.in-Ok.is at c.in-Some.ensures.steps).0,
      c.take_version.ensures.more done c.loop-field.invariant.2,
      c.take_version.ensures.fault c.loop-field.invariant.3,
    )

pub returns-in-Err-clause-err : goal.returns-in-Err-clause-err
returns-in-Err-clause-err c =
    rw c.rest_fault.ensures (rest_reported c.next.new.self.to_come c.args.payload_at c.args.tag_at c.loop-field.invariant.1
    (rw c.in-Err.is at c.in-Some.ensures.steps).0)

pub returns-clause-version : goal.returns-clause-version
returns-clause-version c =
    let so_far = version_ends c.args.payload_at c.loop-field.version c.loop-field.invariant.1 c.in-None.ensures.steps.0
    c.loop-field.invariant.2 in
    c.version_of.ensures.version c.args.payload_at (split c.args.payload.now).fields so_far
