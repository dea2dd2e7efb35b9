-- What an error says of the fault that there is.
use Rattle.std.specs.Prelude.{◌≡◌, Option, Some, None, ⊤}

-- an error that tells a fault tells this one; an error that tells none, such as want of memory, says nothing of it
abbrev pub Reports : {F : Type 0} → Option F → Option F → Type 0
Reports None fault = ⊤
Reports (Some reported) fault = fault ≡ Some reported
