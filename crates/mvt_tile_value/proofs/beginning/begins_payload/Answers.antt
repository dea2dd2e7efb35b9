use Rattle.std.proofs.Common.{rules, arith, ◌<◌, ◌^◌, [], length, ◌∙◌}
use Rattle.mvt_wire.specs.Field.{bytes, varint}
use Rattle.mvt_feature.specs.Canonical.{plain}
use Rattle.mvt_message.specs.declared.numbers.layer.TheConstants.{EXTENT, FEATURES, NAME, VERSION}
use Rattle.mvt_tile_value.proofs.BeginningLemmas.{by_body, extent_fits, fits_bytes, fronts, version_fits}
use Rattle.mvt_tile_value.proofs.beginning.begins_payload.Goals as goal

pub returns-in-Some-behind_name : goal.returns-in-Some-behind_name
returns-in-Some-behind_name c = λ no layer valid is.
    let all = fronts layer in
    let few : length c.in-Some.named.now < 2 ^ 64 = search rules in
    let few_more : length c.in-Some-behind_name.body.now < 2 ^ 64 = search rules in
    let named = rw c.in-Some.is at c.behind_version.ensures _
    (c.first_field.ensures (plain VERSION (varint 2)) _ version_fits (is ∙ all.is)) in
    let fits = fits_bytes NAME c.in-Some.named.now layer.name all.body (omega arith) (omega arith) few named in
    let body = rw c.in-Some-behind_name.is at
    c.behind_name.ensures layer.name all.body (c.first_field-in-Some.ensures (plain NAME (bytes layer.name)) all.body fits.0 named) in
    by_body layer all.body _ all.body_is
    (λ d more e. (let feature = fits_bytes FEATURES c.in-Some-behind_name.body.now d more (omega arith) (omega arith) few_more (body ∙ e) in
    let yes = c.begins_body.ensures.feature d more
    (c.first_field-in-Some-behind_name.ensures (plain FEATURES (bytes d)) more feature.0 (body ∙ e)) in
    cc (no, yes)))
    (λ e. (let yes = c.begins_body.ensures.extent layer.extent
    (c.first_field-in-Some-behind_name.ensures (plain EXTENT (varint layer.extent)) [] (extent_fits layer valid) (body ∙ e)) in
    cc (no, yes)))

pub returns-in-None-behind_name : goal.returns-in-None-behind_name
returns-in-None-behind_name c = λ no layer valid is.
    let all = fronts layer in
    let few : length c.in-Some.named.now < 2 ^ 64 = search rules in
    let named = rw c.in-Some.is at c.behind_version.ensures _
    (c.first_field.ensures (plain VERSION (varint 2)) _ version_fits (is ∙ all.is)) in
    let fits = fits_bytes NAME c.in-Some.named.now layer.name all.body (omega arith) (omega arith) few named in
    rw c.in-None-behind_name.is at
    c.behind_name.ensures layer.name all.body (c.first_field-in-Some.ensures (plain NAME (bytes layer.name)) all.body fits.0 named)

pub returns-in-None : goal.returns-in-None
returns-in-None c = λ no layer valid is.
    rw c.in-None.is at
    c.behind_version.ensures _ (c.first_field.ensures (plain VERSION (varint 2)) _ version_fits (is ∙ (fronts layer).is))
