pub mod Entries
pub mod ByPage
pub mod Growing
pub mod Committing
pub mod AsSteps
