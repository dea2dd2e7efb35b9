use Rattle.mvt_feature.proofs.FeatureLaws.{forms_have, forms_clean, forms_ordered}
use Rattle.mvt_feature.proofs.laws.forms.Goals as goal

pub returns : goal.returns
returns c = record { have = forms_have; clean = forms_clean; ordered = forms_ordered }
