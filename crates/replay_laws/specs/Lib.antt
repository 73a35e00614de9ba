pub mod InputLaws
pub mod OutcomeLaws
