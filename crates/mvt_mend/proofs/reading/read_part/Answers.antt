use Rattle.std.proofs.Common.{◌≡◌, ◌*◌, [], ◌∷◌, ◌++◌, take, drop, sym, ap, ap₂, ◌∙◌}
use Rattle.mvt_mend.specs.Reading.{path_in, count_in, after_part}
use Rattle.mvt_mend.proofs.ReadingLemmas.{no_line, no_pairs, no_first, no_path, no_end, one_part}
use Rattle.mvt_mend.proofs.reading.read_part.Goals as goal
use Rattle.mvt_mend.proofs.reading.read_part.Goals.{then-not-begins_line-via-then-not-begins_line, then-not-begins_line-via-else-not-begins_line+then-not-has_pairs}

pub returns-then-not-begins_line-clause-is : goal.returns-then-not-begins_line-clause-is
returns-then-not-begins_line-clause-is c =
    elim c.then-not-begins_line.branch [
      | then-not-begins_line-via-then-not-begins_line w ↦ no_line _ _ _ (sym c.begins_line.ensures.is ∙ w.if-not-begins_line.true)
      | then-not-begins_line-via-else-not-begins_line+then-not-has_pairs w ↦ no_pairs _ _ _
          (sym c.begins_line.ensures.is ∙ w.if-not-begins_line.false) (sym w.has_pairs.ensures.is ∙ w.if-not-has_pairs.true)
    ]

pub returns-in_default-clause-is : goal.returns-in_default-clause-is
returns-in_default-clause-is c =
    no_first _ _ _ (sym c.begins_line.ensures.is ∙ c.if-not-begins_line.false) (sym c.has_pairs.ensures.is ∙ c.if-not-has_pairs.false)
    (sym c.step.ensures ∙ c.in_default.is)

pub returns-in_default-2-clause-is : goal.returns-in_default-2-clause-is
returns-in_default-2-clause-is c =
    let ints = c.args.integers.now in
    let line = sym c.begins_line.ensures.is ∙ c.if-not-begins_line.false in
    let pairs = sym c.has_pairs.ensures.is ∙ c.if-not-has_pairs.false in
    let begun = sym c.step.ensures ∙ c.in-Some.is in
    let first = c.in-Some.first in
    let items : c.push.new.self.items ≡ first ∷ [] =
    c.in_ok-push.ensures.items ∙ ap (λ xs. xs ++ first ∷ []) c.in_ok-points.ensures.items in
    let front : c.split_at-2.result.0.now ≡ take (2 * count_in ints) (drop 4 ints) =
    c.split_at-2.ensures.front ∙ ap (λ xs. take (2 * count_in ints) xs) c.split_at.ensures.back in
    let same = ap₂ (λ xs ys. path_in xs first ys) items front in
    no_path _ _ _ first line pairs begun (sym same ∙ rw c.in_default-2.is at c.in_ok-last.ensures)

pub returns-in_default-after_part-clause-is : goal.returns-in_default-after_part-clause-is
returns-in_default-after_part-clause-is c =
    let ints = c.args.integers.now in
    let line = sym c.begins_line.ensures.is ∙ c.if-not-begins_line.false in
    let pairs = sym c.has_pairs.ensures.is ∙ c.if-not-has_pairs.false in
    let begun = sym c.step.ensures ∙ c.in-Some.is in
    let first = c.in-Some.first in
    let items : c.push.new.self.items ≡ first ∷ [] =
    c.in_ok-push.ensures.items ∙ ap (λ xs. xs ++ first ∷ []) c.in_ok-points.ensures.items in
    let front : c.split_at-2.result.0.now ≡ take (2 * count_in ints) (drop 4 ints) =
    c.split_at-2.ensures.front ∙ ap (λ xs. take (2 * count_in ints) xs) c.split_at.ensures.back in
    let same = ap₂ (λ xs ys. path_in xs first ys) items front in
    let back : c.split_at-2.result.1.now ≡ drop (2 * count_in ints) (drop 4 ints) =
    c.split_at-2.ensures.back ∙ ap (λ xs. drop (2 * count_in ints) xs) c.split_at.ensures.back in
    no_end _ _ _ first _ line pairs begun (sym same ∙ rw c.in-Some-2.is at c.in_ok-last.ensures)
    (sym (ap (λ xs. after_part c.args.is_ring xs) back) ∙ rw c.in_default-after_part.is at c.after_part.ensures.is)

pub returns-clause-is : goal.returns-clause-is
returns-clause-is c =
    let ints = c.args.integers.now in
    let line = sym c.begins_line.ensures.is ∙ c.if-not-begins_line.false in
    let pairs = sym c.has_pairs.ensures.is ∙ c.if-not-has_pairs.false in
    let begun = sym c.step.ensures ∙ c.in-Some.is in
    let first = c.in-Some.first in
    let items : c.push.new.self.items ≡ first ∷ [] =
    c.in_ok-push.ensures.items ∙ ap (λ xs. xs ++ first ∷ []) c.in_ok-points.ensures.items in
    let front : c.split_at-2.result.0.now ≡ take (2 * count_in ints) (drop 4 ints) =
    c.split_at-2.ensures.front ∙ ap (λ xs. take (2 * count_in ints) xs) c.split_at.ensures.back in
    let same = ap₂ (λ xs ys. path_in xs first ys) items front in
    let back : c.split_at-2.result.1.now ≡ drop (2 * count_in ints) (drop 4 ints) =
    c.split_at-2.ensures.back ∙ ap (λ xs. drop (2 * count_in ints) xs) c.split_at.ensures.back in
    rw c.new-points.ensures
    (one_part _ _ _ first _ _ line pairs begun (sym same ∙ rw c.in-Some-2.is at c.in_ok-last.ensures)
    (sym (ap (λ xs. after_part c.args.is_ring xs) back) ∙ rw c.in-Some-after_part.is at c.after_part.ensures.is))
