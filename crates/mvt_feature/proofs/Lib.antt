pub mod FeatureLaws
mod FormLemmas
mod WalkLemmas
mod KindLemmas
mod ValueLemmas
mod SaidLemmas
mod FeatureFieldsLemmas
mod FeatureLemmas
mod UsualLemmas
mod ListingLemmas
mod OrFaultLemmas
mod WritingLemmas
mod RewritingLemmas
mod CopyingPartsLemmas
mod CanonicalLemmas
mod OrderingLemmas
mod ValidLemmas
mod RangeLemmas
