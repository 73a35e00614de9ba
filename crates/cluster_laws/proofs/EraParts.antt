pub mod Nexts
pub mod Epochs
pub mod Ages
pub mod Lives
pub mod Counted
