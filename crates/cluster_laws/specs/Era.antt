pub mod Eras
pub mod Counts
pub mod EraLaws
pub mod CountLaws
pub mod EraRows
