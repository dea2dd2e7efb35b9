-- What the public laws state, for the proofs of the crates above: a lemma for each clause.
pub use Rattle.mvt_message.proofs.OrFaultLemmas.{item_there as item_or_fault_there, item_keeps as item_or_fault_clean, item_first as item_in_order_fault, item_ordered as item_in_order_ordered, item_once as one_item, names_same as item_names}
pub use Rattle.mvt_message.proofs.CanonicalLemmas.{item_canonical as canonical_reads, keys_valid as pools_of_features_keys, values_valid as pools_of_features_values, features_held as pools_of_features_held}
pub use Rattle.mvt_message.proofs.FaultPlaceLemmas.{fault_feature_there as feature_of_a_fault}
pub use Rattle.mvt_message.proofs.ValidLemmas.{item_valid as read_items_are_valid, old_items as old_items_stay}
use Rattle.std.specs.Prelude.{◌≡◌, refl}
use Rattle.mvt_message.specs.declared.numbers.layer.TheConstants.{NAME, FEATURES, KEYS, VALUES, EXTENT, VERSION}

pub field_numbers : (NAME ≡ 1) × (FEATURES ≡ 2) × (KEYS ≡ 3) × (VALUES ≡ 4) × (EXTENT ≡ 5) × (VERSION ≡ 15)
field_numbers = (refl, refl, refl, refl, refl, refl)
