pub mod Arriving
pub mod Carrying
pub mod Delivering
pub mod Frames
pub mod OwnGrants
pub mod Planned
pub mod Releasing
pub mod Taken
