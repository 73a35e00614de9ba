pub mod Settling
pub mod Rights
