pub mod Owing
pub mod Over
pub mod Midway
pub mod Ends
pub mod Access
pub mod Release
