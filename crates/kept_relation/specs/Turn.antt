pub mod Standing
pub mod Listing
pub mod Telling
pub mod Getting
