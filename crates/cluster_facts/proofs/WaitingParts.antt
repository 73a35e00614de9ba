pub mod Keeping
pub mod Redoing
pub mod Ending
pub mod Stepping
pub mod Coming
pub mod Carried
pub mod Standing
