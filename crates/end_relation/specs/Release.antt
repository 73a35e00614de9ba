pub mod Owing
pub mod Midway
pub mod Releasing
pub mod OwnEnds
