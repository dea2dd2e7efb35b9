pub mod IoLaws
mod Fronts
