use Rattle.mvt_wire.proofs.PackedNumbersLemmas.{none_short, none_seen}
use Rattle.mvt_wire.proofs.packed_numbers.PackedNumbers.clear.Goals as goal

pub invariant_of-self : goal.invariant_of-self
invariant_of-self c = none_short _ c.clear.ensures.items

pub returns : goal.returns
returns c = none_seen _ c.clear.ensures.items
