pub mod Emptying
pub mod Purging
pub mod Redoing
pub mod Clearing
pub mod Gone
pub mod Sparing
pub mod Known
pub mod Turn
