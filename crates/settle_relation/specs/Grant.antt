pub mod Going
pub mod Performing
pub mod Carrying
pub mod Arriving
