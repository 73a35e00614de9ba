pub mod Newest
pub mod Index
pub mod Chains
pub mod Writes
pub mod Plans
