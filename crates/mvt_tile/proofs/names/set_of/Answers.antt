use Rattle.std.proofs.Common.{◌≡◌, [], ◌∷◌, ◌++◌, map, take, string_bytes, sym, ap, subst, ◌∙◌}
use Rattle.mvt_tile.specs.Inner.Wanting.{IsSetOf}
use Rattle.mvt_tile.proofs.ExtractionLemmas.{mapped_more}
use Rattle.mvt_tile.proofs.WantedLemmas.{set_more}
use Rattle.mvt_tile.proofs.names.set_of.Goals as goal

pub loop-name-preserved : goal.loop-name-preserved
loop-name-preserved c =
    let i = c.loop-name.name-index in
    let front = map string_bytes (take i c.args.names.now) in
    let name = c.in_ok-from_str.field-0 in
    let is : name ≡ string_bytes c.name-item.result = c.in_ok-from_str.ensures.same ∙ c.as_str.ensures.value in
    let added = c.in_ok-add_name in
    subst (IsSetOf c.add_name.new.names.keys)
    (ap (λ n. front ++ n ∷ []) is ∙ sym
    (mapped_more string_bytes c.args.names.now i c.name-item.result c.loop-name-test.true c.name-item.is))
    (set_more c.loop-name.set.keys c.add_name.new.names.keys front name added.field-0 added.ensures.new added.ensures.named
    added.ensures.same c.loop-name.invariant)
