pub mod Alone
pub mod AloneRows
