pub mod Items
pub mod Homes
pub mod Releases
pub mod Versions
