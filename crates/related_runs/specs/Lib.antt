pub mod Granted
pub mod Kinds
pub mod Parties
pub mod Parts
pub mod RelatedLaws
pub mod RunLaws
pub mod Locks
pub mod Between
