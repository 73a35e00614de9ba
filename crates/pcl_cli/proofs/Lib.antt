pub mod PassLemmas
pub mod NumberLemmas
