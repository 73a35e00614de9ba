pub mod Seen
pub mod Front
pub mod Laws
pub mod Written
