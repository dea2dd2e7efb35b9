pub mod ViewLaws
mod FrontLemmas
mod WalkLemmas
mod JsonTexts
mod QuotedLemmas
mod NumberLemmas
mod SvgLemmas
mod XmlLemmas
