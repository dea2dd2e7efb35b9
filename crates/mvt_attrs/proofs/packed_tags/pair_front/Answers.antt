use Rattle.std.proofs.Common.{◌++◌, ◌∷◌, ap, ◌∙◌, arith}
use Rattle.std.proofs.lemmas.Bool.{and_parts}
use Rattle.mvt_wire.specs.Varint.{short}
use Rattle.mvt_attrs.proofs.packed_tags.pair_front.Goals as goal

pub returns : goal.returns
returns c =
    let first = c.in_ok-key.ensures in
    let second = c.in_ok-value.ensures in
    record {
      joins = λ more are. first.number (c.in_ok-value.value.number ∷ more) (second.number more are);
      short = λ both.
          let parts = and_parts c.in_ok-key.key.is_short c.in_ok-value.value.is_short both in
          first.short parts.0 ∙ ap (λ r. short c.in_ok-key.key.number ++ r) (second.short parts.1);
      shorter = omega (arith, first.shorter, second.shorter);
    }
