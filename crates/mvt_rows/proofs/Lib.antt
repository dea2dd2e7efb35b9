pub mod RowsLaws
mod EachLemmas
mod UndrawnLemmas
mod DrawingLemmas
mod TileLemmas
mod WholeLemmas
mod WritingLemmas
mod FaultLemmas
mod OneFaultLemmas
mod RowLemmas
mod GrowthLemmas
mod TableLemmas
mod ReadTableLemmas
mod ReadLemmas
mod VisitLemmas
mod ReadIsTileLemmas
mod BuildingLemmas
mod ToldTileLemmas
