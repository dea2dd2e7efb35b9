pub mod WireLaws
mod FieldLemmas
mod LongLemmas
mod PackedLemmas
mod PackedNumbersLemmas
mod PieceLemmas
mod ShortFieldLemmas
mod ShortLemmas
mod SpellingLemmas
mod SplitLemmas
mod StepLemmas
mod VarintLemmas
mod ZigzagLemmas
