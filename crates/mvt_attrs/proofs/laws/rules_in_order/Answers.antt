use Rattle.mvt_attrs.proofs.AttrsLaws.{rules_in_order_count, rules_in_order_pairs, rules_in_order_tags}
use Rattle.mvt_attrs.proofs.laws.rules_in_order.Goals as goal

pub returns : goal.returns
returns c = record { count = rules_in_order_count; pairs = rules_in_order_pairs; tags = rules_in_order_tags }
