pub mod Carried
pub mod Caused
pub mod Owners
