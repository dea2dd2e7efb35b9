use Rattle.std.proofs.Common.{◌≡◌, ◌∷◌, ◌++◌, take, string_bytes}
use Rattle.std.specs.List.{flat_map}
use Rattle.serde_json.specs.Written.{compact_text}
use Rattle.mvt_view.proofs.json_part.push_more.Given as goal

abbrev pub invariant-loop-entry : goal.invariant-loop-entry
invariant-loop-entry g l =
    string_bytes l.text ≡ string_bytes l.initial.text
    ++ flat_map (λ x. 44 ∷ compact_text (g.T.JsonPart.form x)) (take l.entry-index l.entries)
