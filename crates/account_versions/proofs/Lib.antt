pub mod TraceParts
pub mod AskedParts
