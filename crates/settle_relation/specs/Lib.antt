pub mod Midway
pub mod Counted
pub mod Deciding
pub mod Fitting
pub mod Settling
pub mod Arriving
pub mod Grant
