use Rattle.mvt_wire.proofs.WireLaws.{packed_split_is, packed_split_only, packed_split_count}
use Rattle.mvt_wire.proofs.laws.packed_split.Goals as goal

pub returns-clause-is : goal.returns-clause-is
returns-clause-is c = packed_split_is

pub returns-clause-only : goal.returns-clause-only
returns-clause-only c = packed_split_only

pub returns-clause-count : goal.returns-clause-count
returns-clause-count c = packed_split_count
