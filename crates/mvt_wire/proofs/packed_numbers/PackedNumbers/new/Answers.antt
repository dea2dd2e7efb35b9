use Rattle.mvt_wire.proofs.PackedNumbersLemmas.{none_short, none_seen}
use Rattle.mvt_wire.proofs.packed_numbers.PackedNumbers.new.Goals as goal

pub invariant_of-result : goal.invariant_of-result
invariant_of-result c = none_short _ c.new.ensures.items

pub returns : goal.returns
returns c = none_seen _ c.new.ensures.items
