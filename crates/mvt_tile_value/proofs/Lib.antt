pub mod ModelLaws
mod CanonicalLemmas
mod WritingLemmas
mod ComparingLemmas
mod BeginningLemmas
mod IdLemmas
mod NoteLemmas
mod LintLemmas
mod LintingLemmas
mod RingLemmas
mod SurveyLemmas
