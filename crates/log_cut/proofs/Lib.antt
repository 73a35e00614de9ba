pub mod CuttingLemmas
pub mod FrontLemmas
pub mod WithinLemmas
