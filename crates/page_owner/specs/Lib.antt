pub mod Carry
pub mod Planned
pub mod Released
pub mod Writes
