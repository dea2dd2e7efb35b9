use Rattle.std.proofs.Common.{rules, ◌≡◌, ◌<◌, ◌++◌, [], ◌∷◌, length, sym, ap, ◌∙◌, append_assoc, append-nil}
use Rattle.mvt_geometry.proofs.BuildLemmas.{more_lines, end_of_lines}
use Rattle.mvt_geometry.proofs.reading.build_lines.Goals as goal

pub build_line-requires : goal.build_line-requires
build_line-requires c =
    let some : 0 < length c.loop-rest.rest.now = search rules in
    let inv = c.loop-rest.invariant c.requires.0 c.requires.1 in
    let f = more_lines inv.2 some in
    (f.line, _, f.front)

pub loop-rest-preserved : goal.loop-rest-preserved
loop-rest-preserved c = λ ls are.
    let some : 0 < length c.loop-rest.rest.now = search rules in
    let inv = c.loop-rest.invariant ls are in
    let f = more_lines inv.2 some in
    let line = c.in_ok-line.ensures.line f.line _ f.front in (
      f.others,
      ap (λ xs. xs ++ f.others) (c.in_ok-push.ensures.items ∙ ap (λ l. c.loop-rest.lines.items ++ l ∷ []) line.0)
          ∙ append_assoc c.loop-rest.lines.items (f.line ∷ []) f.others ∙ ap (λ xs. c.loop-rest.lines.items ++ xs) (sym f.lines_are)
          ∙ inv.1,
      f.others_are c.in_ok-line.line.end c.in_ok-line.line.after.now line.1 line.2,
    )

pub returns : goal.returns
returns c = λ ls are.
    let none : length c.loop-rest.rest.now ≡ 0 = search rules in
    let inv = c.loop-rest.invariant ls are in
    sym (append-nil c.loop-rest.lines.items) ∙ ap (λ xs. c.loop-rest.lines.items ++ xs) (sym (end_of_lines inv.2 none)) ∙ inv.1
