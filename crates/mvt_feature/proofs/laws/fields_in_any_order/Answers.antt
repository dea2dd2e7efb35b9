use Rattle.mvt_feature.proofs.FeatureLaws.{fields_in_any_order_joined, fields_in_any_order_between}
use Rattle.mvt_feature.proofs.laws.fields_in_any_order.Goals as goal

pub returns : goal.returns
returns c = record { joined = fields_in_any_order_joined; between = fields_in_any_order_between }
