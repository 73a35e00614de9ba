pub mod Known
pub mod Kept
pub mod Agreed
