pub mod Locks
pub mod SentParts
pub mod Causes
pub mod Handed
pub mod Caused
pub mod Accounting
pub mod Lockless
