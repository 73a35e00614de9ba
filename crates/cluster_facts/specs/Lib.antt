pub mod Facts
pub mod Waiting
pub mod Table
pub mod Reports
pub mod Known
