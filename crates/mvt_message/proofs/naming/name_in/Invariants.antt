use Rattle.std.proofs.Common.{◌≡◌, false, None}
use Rattle.std.specs.Option.{option_copied}
use Rattle.mvt_wire.specs.Split.{split}
use Rattle.mvt_message.proofs.NamingLemmas.{name_from, version_from}
use Rattle.mvt_message.proofs.naming.name_in.Given as goal

abbrev pub invariant-loop-field : goal.invariant-loop-field
invariant-loop-field l =
    (version_from false (split l.payload).fields ≡ version_from l.has_version l.field-iterator.to_come.fields)
    × (name_from None (split l.payload).fields ≡ name_from (option_copied l.name) l.field-iterator.to_come.fields)
