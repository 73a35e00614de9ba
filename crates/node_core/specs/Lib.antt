pub mod Came
pub mod Named
pub mod Steps
