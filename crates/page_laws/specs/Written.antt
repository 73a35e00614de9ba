pub mod Written
pub mod Record
pub mod Rows
