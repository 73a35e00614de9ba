pub mod StorageParts
pub mod MomentParts
pub mod WrittenParts
pub mod EntryParts
pub mod LookParts
