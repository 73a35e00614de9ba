pub mod Serials
pub mod Locks
pub mod Placed
pub mod Counting
pub mod Changes
pub mod Numbers
