-- The values of a layer's fields, as the relation and as the function.
use Rattle.std.proofs.Common.{◌≡◌, List, [], ◌∷◌, ◌++◌, refl, ap₂}
use Rattle.std.specs.List.{flat_map}
use Rattle.std.specs.Option.{option_to_list}
use Rattle.mvt_base.specs.Related.{AreRelated}
use Rattle.mvt_attrs.specs.Values.{Value}
use Rattle.mvt_wire.specs.Field.{Entry}
use Rattle.mvt_feature.specs.ValueIn.{value_in}
use Rattle.mvt_feature.proofs.FeatureLaws.{value_function}
use Rattle.mvt_message.specs.LayerFields.{bytes_of}
use Rattle.mvt_message.specs.Items.{HoldsValue}

pub values_said : (xs : List Entry) (vs : List Value) → AreRelated HoldsValue xs vs
    → flat_map (λ (x : Entry). option_to_list (value_in (bytes_of x.content))) xs ≡ vs
values_said [] [] h = refl
values_said [] (v ∷ vs) h = absurd h
values_said (x ∷ xs) [] h = absurd h
values_said (x ∷ xs) (v ∷ vs) h =
    ap₂ (λ o l. option_to_list o ++ l) (value_function (bytes_of x.content) v h.0) (values_said xs vs h.1)
