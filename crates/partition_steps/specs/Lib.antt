pub mod Carried
pub mod Laws
pub mod Memory
pub mod Stays
