pub mod Lists
pub mod Marks
pub mod Settling
pub mod Upgrades
