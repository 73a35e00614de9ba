pub mod CountLemmas
pub mod LogLemmas
pub mod SizeLemmas
