pub mod Sends
pub mod Accounts
pub mod Quiet
