use Rattle.std.proofs.Common.{arith, ap, ◌≡◌, drop}
use Rattle.std.proofs.lemmas.Grind.{common_steps}
use Rattle.mvt_io.proofs.Fronts.{front_given}
use Rattle.mvt_io.proofs.memory_source.MemorySourceSource.read.Goals as goal

pub returns-clause-bytes : goal.returns-clause-bytes
returns-clause-bytes c =
    let left : drop c.self.inside.at c.self.inside.bytes.items ≡ c.args.self.now.left = ap (λ s. s.left) c.self.view_is in (
      front_given c.args.self.now.left c.self.inside.bytes.items c.copy_from_slice.new.self
          (drop c.min-count.result c.args.buffer.now) c.self.inside.at c.min-count.result left
          (grind (arith, common_steps)) (grind (arith, common_steps)),
      λ none some. grind (arith, common_steps),
    )
