use Rattle.std.proofs.Common.{arith}
use Rattle.std.proofs.Math.Facts.{Fits-lt-pow}
use Rattle.mvt_message.proofs.ExtentLemmas.{extent_ends, extent_small}
use Rattle.mvt_message.proofs.extent.extent_in.Goals as goal

pub returns-then-extent : goal.returns-then-extent
returns-then-extent c = λ layer is.
    extent_ends c.args.payload.now c.loop-field.extent c.loop-field.field-iterator.to_come c.next.new.self.to_come layer
    c.loop-field.invariant c.in-None.ensures.steps.0.0 is

pub returns-else-extent : goal.returns-else-extent
returns-else-extent c = λ layer is.
    let small = extent_small c.args.payload.now c.loop-field.extent c.loop-field.field-iterator.to_come c.next.new.self.to_come layer
    c.loop-field.invariant c.in-None.ensures.steps.0.0 (λ k. Fits-lt-pow (c.type_inv.payload k)) is in
    absurd (let never : ⊥ = omega (arith, c.if-extent.false, small) in never)
