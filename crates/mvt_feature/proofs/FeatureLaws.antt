-- What the public laws state, for the proofs of the crates above: a lemma for each clause.
pub use Rattle.mvt_feature.proofs.FormLemmas.{forms_have, forms_clean, forms_ordered}
pub use Rattle.mvt_feature.proofs.WalkLemmas.{rest_none as rests_none, none_rest as rests_nothing, walk_start as walks_start, walk_step as walks_step, walk_fits as walks_fits, walk_end as walks_end, walk_fault_fits as walks_fault_fits, walk_fault as walks_fault}
pub use Rattle.mvt_feature.proofs.ValueLemmas.{rest_ordered as rests_ordered, value_there as value_or_fault_there, value_keeps as value_or_fault_clean, value_once as value_or_fault_once, value_ordered as value_fault_is_least_ordered, value_least as value_fault_is_least_least}
pub use Rattle.mvt_feature.proofs.SaidLemmas.{value_said as value_function}
pub use Rattle.mvt_feature.proofs.OrFaultLemmas.{feature_there as feature_or_fault_there, feature_keeps as feature_or_fault_clean, feature_once as feature_or_fault_once, feature_ordered as feature_fault_is_least_ordered, feature_least as feature_fault_is_least_least}
pub use Rattle.mvt_feature.proofs.CanonicalLemmas.{canonical_value as canonical_reads_value, canonical_feature as canonical_reads_feature}
pub use Rattle.mvt_feature.proofs.FeatureFieldsLemmas.{number_more}
pub use Rattle.mvt_feature.proofs.OrderingLemmas.{contents_joined as fields_in_any_order_joined, contents_between as fields_in_any_order_between}
pub use Rattle.mvt_feature.proofs.RangeLemmas.{value_valid as read_is_valid_value, feature_valid as read_is_valid_feature, attributes_valid as read_is_valid_attributes}
use Rattle.std.specs.List.{AllByRecursion}
use Rattle.std.specs.Prelude.{◌≡◌, List, [], ℕ, refl}
use Rattle.mvt_feature.specs.declared.numbers.feature.TheConstants.{ID, TAGS, TYPE, GEOMETRY}
use Rattle.mvt_feature.specs.declared.numbers.value.TheConstants.{STRING, FLOAT, DOUBLE, INT, UINT, SINT, BOOL}
use Rattle.mvt_feature.proofs.RangeLemmas.{fields_range}
use Rattle.mvt_feature.specs.Ranges.{AreBytes, IsInRange}
use Rattle.mvt_wire.specs.Field.{Entry}
use Rattle.mvt_wire.specs.Split.{Whole}

pub field_numbers_feature : (ID ≡ 1) × (TAGS ≡ 2) × (TYPE ≡ 3) × (GEOMETRY ≡ 4)
field_numbers_feature = (refl, refl, refl, refl)

pub field_numbers_value : (STRING ≡ 1) × (FLOAT ≡ 2) × (DOUBLE ≡ 3) × (INT ≡ 4) × (UINT ≡ 5) × (SINT ≡ 6) × (BOOL ≡ 7)
field_numbers_value = (refl, refl, refl, refl, refl, refl, refl)

pub read_is_valid_fields : (payload : List ℕ) (fields : List Entry) → AreBytes payload → Whole payload fields
    → AllByRecursion (λ (x : Entry). IsInRange x.content) fields
read_is_valid_fields = λ payload fields bytes whole. fields_range 0 payload fields [] bytes whole
