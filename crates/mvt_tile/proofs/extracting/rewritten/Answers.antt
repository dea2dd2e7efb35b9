use Rattle.std.proofs.Common.{map, string_bytes, sym, subst, ◌∙◌}
use Rattle.mvt_tile_value.specs.Encoding.{IsEncoded}
use Rattle.mvt_tile.specs.Extraction.{pick}
use Rattle.mvt_tile.proofs.WantedLemmas.{layers_encoded, missing_by}
use Rattle.mvt_tile.proofs.extracting.rewritten.Goals as goal

pub returns-in-Some : goal.returns-in-Some
returns-in-Some c = λ items has.
    let names = map string_bytes c.args.names.now in
    sym (missing_by _ c.args.taken.names.names items names has.0) ∙ sym c.in_ok-index.ensures ∙ c.in-Some.is

pub returns-in-Some-out : goal.returns-in-Some-out
returns-in-Some-out c = λ items has.
    let names = map string_bytes c.args.names.now in
    let encoded = subst (IsEncoded 67108864 (pick (record { items = items }) names)) c.in-Some-out.is
    (layers_encoded 67108864 items names c.args.taken.visitor.out has.2.encoded) in (
      sym (missing_by _ c.args.taken.names.names items names has.0) ∙ sym c.in_ok-index.ensures ∙ c.in_default.is,
      encoded.0,
      encoded.1,
    )

pub returns : goal.returns
returns c = λ items has.
    let names = map string_bytes c.args.names.now in (
      sym (missing_by _ c.args.taken.names.names items names has.0) ∙ sym c.in_ok-index.ensures ∙ c.in_default.is,
      subst (IsEncoded 67108864 (pick (record { items = items }) names)) c.in-None.is
          (layers_encoded 67108864 items names c.args.taken.visitor.out has.2.encoded),
    )
