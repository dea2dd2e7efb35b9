use Rattle.std.proofs.Common.{◌≡◌, map, take}
use Rattle.std.specs.Prelude.{string_bytes}
use Rattle.mvt_c.specs.Names.{texts_of}
use Rattle.mvt_c.proofs.names.read_names.Given as goal

abbrev pub invariant-loop-name : goal.invariant-loop-name
invariant-loop-name l = map string_bytes l.read.items ≡ texts_of (take l.name-index l.names)
