pub mod Replies
pub mod Ledgers
pub mod World
pub mod Seen
pub mod Settle
pub mod Entry
pub mod Grant
pub mod Step
