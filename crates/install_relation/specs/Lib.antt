pub mod Knowing
pub mod Taking
pub mod Telling
pub mod Unseen
pub mod Installing
pub mod Whole
