-- What pools hold once the attributes are placed that a layer's features use (4.4).
use Rattle.std.specs.Prelude.{ℕ, List, ◌++◌, map, bytes_eq}
use Rattle.mvt_attrs.specs.Values.{Value}
use Rattle.mvt_attrs.specs.declared.value.Attribute.{Attribute}
use Rattle.mvt_attrs.specs.FirstUse.{first_use}
use Rattle.mvt_attrs.specs.Values.{equal_values}

-- the keys held, and then the keys of the attributes, each once
abbrev pub key_pool : List (List ℕ) → List Attribute → List (List ℕ)
key_pool held attributes = first_use bytes_eq (held ++ map (λ (a : Attribute). a.key) attributes)

-- the values held, and then the values of the attributes, each once
abbrev pub value_pool : List Value → List Attribute → List Value
value_pool held attributes = first_use equal_values (held ++ map (λ (a : Attribute). a.value) attributes)
