pub mod Acted
pub mod Leaving
