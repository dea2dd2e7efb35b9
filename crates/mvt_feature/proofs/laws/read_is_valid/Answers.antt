use Rattle.mvt_feature.proofs.FeatureLaws.{read_is_valid_fields, read_is_valid_value, read_is_valid_feature, read_is_valid_attributes}
use Rattle.mvt_feature.proofs.laws.read_is_valid.Goals as goal

pub returns : goal.returns
returns c = record {
  fields = read_is_valid_fields;
  value = read_is_valid_value;
  feature = read_is_valid_feature;
  attributes = read_is_valid_attributes;
}
