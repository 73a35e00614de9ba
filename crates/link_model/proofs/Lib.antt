pub mod RowLemmas
pub mod LinksLemmas
