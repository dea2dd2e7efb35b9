-- The fault of an item from its parts.
use Rattle.std.proofs.Common.{◌≡◌, ℕ, Bool, true, false, List, [], Option, Some, None, refl, sym, ap, ◌∙◌, if◌then◌else◌}
use Rattle.std.specs.Option.{option_or}
use Rattle.mvt_base.proofs.TableLemmas.{firsts, first-rows_all}
use Rattle.mvt_wire.specs.Field.{Entry}
use Rattle.mvt_wire.specs.Split.{split}
use Rattle.mvt_message.specs.ItemRules.{item_table, layer_table, item_rules, item_fault}
use Rattle.mvt_message.specs.LayerFields.{version_in, is_two, keys_in, values_in}
use Rattle.mvt_message.specs.Inner.{rest_fault, versions_fault, no_version_fault, forms_fault, no_name_fault, values_fault, features_fault, header_fault, layer_fault}

or_assoc : {F : Type 0} → (a b c d : Option F) → option_or a (option_or b (option_or c d)) ≡ option_or (option_or a (option_or b c)) d
or_assoc None None c d = refl
or_assoc None (Some x) c d = refl
or_assoc (Some x) b c d = refl

layer_rows : (payload_at tag_at : ℕ) (fields : List Entry) (two : Bool)
    → firsts (if two then layer_table payload_at tag_at fields else []) ≡ (if two then layer_fault payload_at tag_at fields else None)
unfolding layer_fault
layer_rows payload_at tag_at fields true = sym (first-rows_all (layer_table payload_at tag_at fields))
layer_rows payload_at tag_at fields false = refl

pub item_chain : (payload : List ℕ) (payload_at tag_at : ℕ)
    → item_fault payload payload_at tag_at ≡ option_or (header_fault payload payload_at tag_at)
    (if is_two (version_in (split payload).fields) then layer_fault payload_at tag_at (split payload).fields else None)
unfolding item_fault item_rules
item_chain payload payload_at tag_at =
    first-rows_all (item_table payload payload_at tag_at)
    ∙ or_assoc (rest_fault payload payload_at) (versions_fault payload_at (split payload).fields)
    (no_version_fault tag_at (split payload).fields) _
    ∙ ap (option_or (header_fault payload payload_at tag_at))
    (layer_rows payload_at tag_at (split payload).fields (is_two (version_in (split payload).fields)))

pub layer_chain : (payload_at tag_at : ℕ) (fields : List Entry)
    → layer_fault payload_at tag_at fields ≡ option_or (forms_fault payload_at fields)
    (option_or (no_name_fault tag_at fields)
    (option_or (values_fault payload_at fields) (option_or (features_fault payload_at (keys_in fields) (values_in fields) fields) None)))
unfolding layer_fault
layer_chain payload_at tag_at fields = first-rows_all (layer_table payload_at tag_at fields)
