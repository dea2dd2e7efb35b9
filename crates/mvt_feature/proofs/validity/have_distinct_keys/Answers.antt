use Rattle.std.proofs.Common.{true, false, refl, rules}
use Rattle.std.proofs.lemmas.Bool.{false≢true}
use Rattle.mvt_feature.proofs.ValidLemmas.{distinct_more, valid_more, distinct_breaks, seen_from}
use Rattle.mvt_feature.proofs.validity.have_distinct_keys.Goals as goal

pub returns-then-has_key-clause-distinct : goal.returns-then-has_key-clause-distinct
returns-then-has_key-clause-distinct c =
    let seen =
    seen_from c.has_key.result true _ _ c.index-attributes-i.result.key _ c.has_key.ensures refl c.as_str-key.ensures.text
    c.if-has_key.true in (
      λ impossible. absurd (false≢true impossible),
      λ distinct. absurd
          (distinct_breaks c.args.attributes.now c.loop-i.i c.index-attributes-i.result (search rules) c.index-attributes-i.is seen
          distinct),
    )

pub loop-i-preserved : goal.loop-i-preserved
loop-i-preserved c =
    let new =
    seen_from c.has_key.result false _ _ c.index-attributes-i.result.key _ c.has_key.ensures refl c.as_str-key.ensures.text
    c.if-has_key.false in (
      distinct_more c.args.attributes.now c.loop-i.i c.index-attributes-i.result (search rules) c.index-attributes-i.is
          c.loop-i.invariant.0 new,
      valid_more c.args.attributes.now c.loop-i.i c.index-attributes-i.result (search rules) c.index-attributes-i.is
          c.loop-i.invariant.1 (c.as_str-key.ensures.utf8, c.see_range.ensures),
    )
