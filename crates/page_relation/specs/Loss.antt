pub mod Leads
pub mod Writes
pub mod Laws
