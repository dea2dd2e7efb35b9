pub mod MendLaws
mod ReadingLemmas
mod DrawingLemmas
mod GeometryLemmas
mod OnceLemmas
mod OriginLemmas
mod SpellingLemmas
mod MendedLemmas
mod ReadLemmas
mod SmallLemmas
pub mod FieldsLemmas
mod MendedTileLemmas
mod CauseLemmas
mod StayLemmas
mod FieldListLemmas
mod ElseLemmas
mod AgainLemmas
mod WholeLemmas
mod KeptLemmas
mod ToldLemmas
mod FateLemmas
mod RemadeLemmas
mod HeldCauseLemmas
mod SilentLemmas
mod SoundLemmas
mod PlacesLemmas
mod DrawnLemmas
