use Rattle.std.proofs.Common.{rules, ◌≡◌, ◌<◌, length, sym, ◌∙◌}
use Rattle.mvt_wire.specs.Spelling.{spelled}
use Rattle.mvt_wire.specs.Split.{split}
use Rattle.mvt_tile_value.specs.declared.numbers.tile.TheConstants.{LAYERS}
use Rattle.mvt_mend.specs.Tiles.{as_layer, changes_in, fields_with, is_long_winded, tile_steps}
use Rattle.mvt_mend.proofs.MendedTileLemmas.{changed, none, unchanged}
use Rattle.mvt_mend.proofs.tiles.mend_bytes.Goals as goal

pub returns-then-bytes-gt-LIMIT-clause-stays : goal.returns-then-bytes-gt-LIMIT-clause-stays
unfolding changes_in
returns-then-bytes-gt-LIMIT-clause-stays c =
    let is : c.new-2.result.items ≡ changes_in c.args.bytes.now = search rules in
    λ empty. unchanged c.args.bytes.now (sym is ∙ none c.new-2.result.items empty)

pub returns-clause-stays : goal.returns-clause-stays
unfolding changes_in is_long_winded tile_steps
returns-clause-stays c =
    let is : c.mend_fields.new.told.changes.items ≡ changes_in c.args.bytes.now = search rules in
    λ empty. unchanged c.args.bytes.now (sym is ∙ none c.mend_fields.new.told.changes.items empty)

pub returns-clause-bytes : goal.returns-clause-bytes
unfolding changes_in is_long_winded tile_steps
returns-clause-bytes c =
    let is : c.mend_fields.new.told.changes.items ≡ changes_in c.args.bytes.now = search rules in
    let made : c.mend_fields.new.out.items ≡ spelled (fields_with as_layer LAYERS (split c.args.bytes.now).fields) = search rules in
    λ there.
    let some : 0 < length (changes_in c.args.bytes.now) = rw (← is) there in changed c.args.bytes.now some ∙ sym made
