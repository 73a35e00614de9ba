pub mod Parts
pub mod Buffers
pub mod Accesses
pub mod Grants
pub mod Ends
pub mod Rows
