-- Keys that stand once each: the place of each is its index.
use Rattle.std.proofs.Common.{◌≡◌, ℕ, List, length, Some, slice_get, slice_index, sym, ap, ◌∙◌, arith}
use Rattle.std.proofs.lemmas.Option.{slice_get_within}
use Rattle.mvt_attrs.specs.FirstUse.{AreDistinct}
use Rattle.mvt_attrs.specs.Inner.Marking.{IsGrouped}
use Rattle.mvt_attrs.specs.Inner.Places.{AreIndices}
use Rattle.mvt_attrs.proofs.FrontLemmas.{one_place}

pub grouped_apart : (texts : List (List ℕ)) (places : List ℕ) → AreDistinct texts → AreIndices places (length texts)
    → IsGrouped texts places
grouped_apart texts places apart indices = record {
  len = indices.count;
  within = λ i lt. let here = indices.here i lt in omega (arith, here, lt);
  together = λ i j a at_i at_j. ap (slice_index places) (one_place texts i j a apart at_i at_j);
  apart = λ i j a b at_i at_j same.
      let one : i ≡ j =
      sym (indices.here i (slice_get_within texts i a at_i)) ∙ same ∙ indices.here j (slice_get_within texts j b at_j) in
      let both : Some a ≡ Some b = sym at_i ∙ ap (slice_get texts) one ∙ at_j in
      cc;
}
