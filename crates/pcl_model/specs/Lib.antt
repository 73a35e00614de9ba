pub mod Cells
pub mod Faults
pub mod Whole
pub mod Serial
