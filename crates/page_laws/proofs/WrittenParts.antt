pub mod Patches
pub mod Differing
pub mod Looked
pub mod Logging
