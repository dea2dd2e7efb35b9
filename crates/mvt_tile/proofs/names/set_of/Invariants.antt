use Rattle.std.proofs.Common.{map, take, string_bytes}
use Rattle.mvt_tile.specs.Inner.Wanting.{IsSetOf}
use Rattle.mvt_tile.proofs.names.set_of.Given as goal

abbrev pub invariant-loop-name : goal.invariant-loop-name
invariant-loop-name l = IsSetOf l.set.keys (map string_bytes (take l.name-index l.names))
