use Rattle.std.specs.Option.{option_to_list}
use Rattle.mvt_tile.proofs.NamedLemmas.{name_new, name_again}
use Rattle.mvt_tile.proofs.names.Names.add.Goals as goal

pub returns-then-not-branch-clause-fault : goal.returns-then-not-branch-clause-fault
returns-then-not-branch-clause-fault c = λ items are.
    rw c.repeated_name.ensures
    (name_again c.args.self.now.count c.args.self.now.names
    (option_to_list c.args.name) items _ are c.in_ok-add.ensures.new c.args.tag_at c.if-not-branch.true)

pub returns-clause-added : goal.returns-clause-added
returns-clause-added c = λ items item are named.
    let is_new = c.if-not-branch.false in
    name_new c.args.self.now.count c.args.self.now.names
    (option_to_list c.args.name) items _ are c.in_ok-add.ensures.new c.add.new.self item named is_new
    (c.in_ok-add.ensures.named is_new)
