use Rattle.mvt_c.proofs.decoder.mvt_held_new.Goals as goal

pub returns-in-Ok-clause-made : goal.returns-in-Ok-clause-made
returns-in-Ok-clause-made c = λ _. rw (c.keep.ensures, c.in-Ok.ensures)
    (c.new-2.ensures.stands c.args.most (c.new.ensures.items, c.new.ensures.read, c.new.ensures.within))
