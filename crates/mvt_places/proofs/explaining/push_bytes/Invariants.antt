use Rattle.std.proofs.Common.{◌≡◌, ◌++◌, take, string_bytes}
use Rattle.mvt_places.specs.Explanations.{bytes_text}
use Rattle.mvt_places.proofs.explaining.push_bytes.Given as goal

abbrev pub invariant-loop-index : goal.invariant-loop-index
invariant-loop-index l =
    string_bytes l.text ≡ string_bytes l.initial.text ++ bytes_text l.span l.from (take l.index l.bytes)
