pub mod ReaderView
pub mod TracedRun
pub mod Outcome
pub mod Told
pub mod Wrote
pub mod Held
