use Rattle.std.proofs.Common.{◌++◌, ap, sym, subst, ◌∙◌}
use Rattle.mvt_wire.specs.Packed.{ArePacked, packed}
use Rattle.mvt_wire.proofs.PackedLemmas.{packed_clean}
use Rattle.mvt_wire.proofs.packed.read_packed.Goals as goal

pub returns-clause-ok : goal.returns-clause-ok
returns-clause-ok c =
    let b = c.args.bytes.now in
    let is = c.in_ok-append_packed.ensures.numbers ∙ ap (λ s. s ++ (packed b).numbers) c.new-numbers.ensures.items in
    subst (ArePacked b) (sym is) (packed_clean b c.in_ok-append_packed.ensures.ok)
