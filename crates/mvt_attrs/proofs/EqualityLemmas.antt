-- The tests of equality decide it.
use Rattle.std.proofs.Common.{◌≡◌, Decides, rules}
use Rattle.mvt_attrs.specs.Values.{Value}
use Rattle.mvt_attrs.specs.Values.{equal_values}

-- the test of the definitions
pub equal_values-Decides : (x y : Value) → Decides (equal_values x y) (x ≡ y)
equal_values-Decides x y = search rules
