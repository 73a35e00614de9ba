pub mod Working
pub mod Coming
pub mod Opened
pub mod Counting
