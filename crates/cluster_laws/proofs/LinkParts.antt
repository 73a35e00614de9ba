pub mod Ordered
pub mod Linked
pub mod Heads
pub mod Stepped
pub mod Nodes
pub mod Come
pub mod Rising
