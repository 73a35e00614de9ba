pub mod Armed
pub mod Ends
