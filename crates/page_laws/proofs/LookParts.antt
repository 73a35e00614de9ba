pub mod Alike
pub mod Copies
pub mod Accessing
pub mod Granting
pub mod Closing
pub mod Turning
