use Rattle.mvt_attrs.proofs.AttrsLaws.{attributes_or_fault_there, attributes_or_fault_clean, attributes_or_fault_once}
use Rattle.mvt_attrs.proofs.laws.attributes_or_fault.Goals as goal

pub returns : goal.returns
returns c = record { there = attributes_or_fault_there; clean = attributes_or_fault_clean; once = attributes_or_fault_once }
