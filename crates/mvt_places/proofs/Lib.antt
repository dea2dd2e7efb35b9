mod AroundLemmas
mod ExplanationLemmas
mod MessageLemmas
mod PickLemmas
pub mod PlacesLaws
mod SpanLemmas
mod ThereLemmas
mod WithinLemmas
