use Rattle.std.proofs.Common.{◌≡◌, take}
use Rattle.std.specs.Prelude.{IsUtf8}
use Rattle.std.specs.List.{AllByRecursion, fold}
use Rattle.mvt_attrs.specs.FirstUses.{lent}
use Rattle.mvt_rows.specs.Tables.{with_key}
use Rattle.mvt_rows.proofs.table.Table.add_keys.Given as goal

abbrev pub invariant-loop-key : goal.invariant-loop-key
invariant-loop-key l =
    (l.self ≡ fold with_key l.initial.self (lent (take l.key-index l.keys))) × AllByRecursion IsUtf8 (lent (take l.key-index l.keys))
