-- What an error tells, as more is known of the fault that there is.
use Rattle.std.proofs.Common.{◌≡◌, Option, Some, None, ◌∙◌}
use Rattle.std.specs.Option.{option_or}
use Rattle.mvt_base.specs.Reports.{Reports}
use Rattle.mvt_base.proofs.RuleLemmas.{option_or-none, option_or-some}

-- a fault is told of whatever has it
pub reports_as : {F : Type 0} → (reported o p : Option F) → ((f : F) → o ≡ Some f → p ≡ Some f) → Reports reported o → Reports reported p
reports_as None o p keep h = tt
reports_as (Some f) o p keep h = keep f h

-- a fault that stands in front is that of the whole
pub reports_or : {F : Type 0} → (reported a b : Option F) → Reports reported a → Reports reported (option_or a b)
reports_or None a b h = tt
reports_or (Some f) a b h = option_or-some a b f h

-- and so is one after parts without a fault
pub or_reports : {F : Type 0} → (reported a b : Option F) → a ≡ None → Reports reported b → Reports reported (option_or a b)
or_reports None a b none h = tt
or_reports (Some f) a b none h = option_or-none a b none ∙ h
