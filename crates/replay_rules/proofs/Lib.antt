pub mod Opened
pub mod StepTraces
