use Rattle.std.proofs.Common.{◌∙◌, sym, subst}
use Rattle.mvt_rows.specs.Building.{HasTold, NotFinished}
use Rattle.mvt_rows.specs.ToldRows.{told_rows}
use Rattle.mvt_rows.specs.Written.{IsWritten, NotWritten}
use Rattle.mvt_c.specs.declared.building.held.Making.{Making}
use Rattle.mvt_c.proofs.building.mvt_making_finish.Goals as goal

pub returns-in-Ok-clause-done : goal.returns-in-Ok-clause-done
returns-in-Ok-clause-done c = λ zero told has.
    let now = subst (λ (m : Making). HasTold m.inner told) (sym (c.into_inner-inner.ensures ∙ c.into_box.ensures)) has in
    subst (IsWritten (told_rows told)) (sym c.leak.ensures.value) (c.in-Ok.ensures.done told now)

pub returns-in-Err-Call-clause-out_of_turn : goal.returns-in-Err-Call-clause-out_of_turn
returns-in-Err-Call-clause-out_of_turn c = λ eight told has.
    let now = subst (λ (m : Making). HasTold m.inner told) (sym (c.into_inner-inner.ensures ∙ c.into_box.ensures)) has in
    subst (NotFinished (told_rows told)) c.in-Err-Call.field-0-is (c.in-Err-Call.ensures.refused told now)

pub returns-in-Err-Rows-TooLarge-clause-too_large : goal.returns-in-Err-Rows-TooLarge-clause-too_large
returns-in-Err-Rows-TooLarge-clause-too_large c = λ three told has.
    let now = subst (λ (m : Making). HasTold m.inner told) (sym (c.into_inner-inner.ensures ∙ c.into_box.ensures)) has in
    let why = c.in-Err-Rows-TooLarge in
    subst (NotWritten (told_rows told)) why.field-0-0-is
    (subst (NotFinished (told_rows told)) why.field-0-is (why.ensures.refused told now))

pub returns-in-Err-Rows-NoTile-clause-no_tile : goal.returns-in-Err-Rows-NoTile-clause-no_tile
returns-in-Err-Rows-NoTile-clause-no_tile c = λ six told has.
    let now = subst (λ (m : Making). HasTold m.inner told) (sym (c.into_inner-inner.ensures ∙ c.into_box.ensures)) has in
    let why = c.in-Err-Rows-NoTile in
    (subst (NotWritten (told_rows told)) why.field-0-0-is
    (subst (NotFinished (told_rows told)) why.field-0-is (why.ensures.refused told now))).0

pub returns-in-Err-Rows-NoTile-clause-fault : goal.returns-in-Err-Rows-NoTile-clause-fault
returns-in-Err-Rows-NoTile-clause-fault c = λ six told has.
    let now = subst (λ (m : Making). HasTold m.inner told) (sym (c.into_inner-inner.ensures ∙ c.into_box.ensures)) has in
    let why = c.in-Err-Rows-NoTile in (
      _,
      (subst (NotWritten (told_rows told)) why.field-0-0-is
          (subst (NotFinished (told_rows told)) why.field-0-is (why.ensures.refused told now))).1,
      c.row_of.ensures,
    )
