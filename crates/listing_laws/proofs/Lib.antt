pub mod Sends
pub mod Installs
pub mod Messages
pub mod Steps
