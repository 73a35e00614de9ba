pub mod Known
pub mod Reports
