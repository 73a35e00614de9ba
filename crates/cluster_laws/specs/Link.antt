pub mod Coming
pub mod LinkLaws
pub mod StepLaws
pub mod Orders
pub mod EpochLaws
pub mod LinkRows
