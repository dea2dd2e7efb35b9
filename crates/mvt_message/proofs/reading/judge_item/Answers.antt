use Rattle.std.proofs.Common.{◌≡◌, [], ◌∷◌, ap, ◌∙◌}
use Rattle.mvt_message.specs.declared.reading.LayerJudge.{LayerJudge}
use Rattle.mvt_message.specs.declared.visiting.Visited.TheVariants.{Layer, Foreign}
use Rattle.mvt_message.specs.Items.{names_in}
use Rattle.mvt_message.specs.ItemRules.{payload_names}
use Rattle.mvt_message.specs.Visiting.{OfFeatures}
use Rattle.mvt_message.proofs.OrFaultLemmas.{names_same}
use Rattle.mvt_message.proofs.VisitLemmas.{layer_visited, foreign_visited}
use Rattle.mvt_message.proofs.reading.judge_item.Goals as goal

-- nothing is kept
abbrev HasGiven : LayerJudge → Type 0
HasGiven judged = Unit {0}

abbrev HasFeatures : OfFeatures LayerJudge
HasFeatures keys values judged payloads features = Unit {0}

pub returns-in-Ok-Layer-clause-names : goal.returns-in-Ok-Layer-clause-names
returns-in-Ok-Layer-clause-names c =
    let payload = c.args.payload.now in
    let (item, is, valid, visited) = c.in-Ok-Layer.ensures.item tt tt tt in
    let reported = rw c.in-Ok-Layer.field-0-is at visited in
    let (layer, has, names) =
    layer_visited HasGiven HasFeatures c.args.payload.now c.visit_version_2.new.visitor (Layer c.in-Ok-Layer.name c.in-Ok-Layer.field-0-1)
    (λ i. names_in i ≡ payload_names payload) (λ number content none. none) item reported (names_same payload item is) in
    ap (λ name. name ∷ []) has.0 ∙ names

pub returns-in-Ok-Foreign-clause-names : goal.returns-in-Ok-Foreign-clause-names
returns-in-Ok-Foreign-clause-names c =
    let payload = c.args.payload.now in
    let (item, is, valid, visited) = c.in-Ok-Foreign.ensures.item tt tt tt in
    let reported = rw c.in-Ok-Foreign.field-0-is at visited in
    let (number, content, has, names) =
    foreign_visited HasGiven HasFeatures c.args.payload.now c.visit_version_2.new.visitor (Foreign c.in-Ok-Foreign.field-0-0)
    (λ i. names_in i ≡ payload_names payload) (λ layer none. none) item reported (names_same payload item is) in
    names
